-- What each round of a loop of `cells::fit` keeps.
use Rattle.std.proofs.Common.{◌≡◌, drop}
use Rattle.iol_params.specs.Values.{fits_place}
use Rattle.iol_params.proofs.cells.fit.Given as goal

abbrev pub invariant-loop-member : goal.invariant-loop-member
invariant-loop-member l = fits_place (drop l.member-index l.members) l.place l.octets
    ≡ fits_place l.members l.place l.initial.octets
