-- What each round of a loop of `octets::note_octets` keeps.
use Rattle.std.proofs.Common.{◌≡◌, drop}
use Rattle.iol_judge.specs.Octets.{with_octets}
use Rattle.iol_judge.proofs.octets.note_octets.Given as goal

abbrev pub invariant-loop-octet : goal.invariant-loop-octet
invariant-loop-octet l = with_octets l.initial.observed l.fn.place l.octets
    ≡ with_octets l.observed l.place (drop l.octet-index l.octets)
