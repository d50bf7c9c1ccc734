-- What each round of a loop of `octets::may_be_even` keeps.
use Rattle.std.proofs.Common.{◌≡◌, drop}
use Rattle.iol_judge.specs.Octets.{may_be_even}
use Rattle.iol_judge.proofs.octets.may_be_even.Given as goal

abbrev pub invariant-loop-octet : goal.invariant-loop-octet
invariant-loop-octet l = may_be_even l.fn.sum l.observed
    ≡ may_be_even l.sum (drop l.octet-index l.observed)
