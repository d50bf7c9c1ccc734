-- What each round of a loop of `next::unite` keeps.
use Rattle.std.proofs.Common.{◌≡◌, drop}
use Rattle.iol_judge.specs.Judged.{united_state}
use Rattle.iol_judge.proofs.next.unite.Given as goal

abbrev pub invariant-loop-other : goal.invariant-loop-other
invariant-loop-other l = united_state l.states l.fn.state
    ≡ united_state (drop l.other-index l.states) l.state
