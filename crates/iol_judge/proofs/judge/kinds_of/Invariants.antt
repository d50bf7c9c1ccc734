-- What each round of a loop of `judge::kinds_of` keeps.
use Rattle.std.proofs.Common.{◌≡◌, drop}
use Rattle.iol_judge.specs.Family.{no_kinds}
use Rattle.iol_judge.specs.Judged.{kinds_with}
use Rattle.iol_judge.proofs.judge.kinds_of.Given as goal

abbrev pub invariant-loop-state : goal.invariant-loop-state
invariant-loop-state l = kinds_with no_kinds l.states
    ≡ kinds_with l.kinds (drop l.state-index l.states)
