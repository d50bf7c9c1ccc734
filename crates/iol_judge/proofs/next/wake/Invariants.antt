-- What each round of a loop of `next::wake` keeps.
use Rattle.std.proofs.Common.{◌≡◌, drop}
use Rattle.iol_judge.specs.Judged.{each_in_turn, woken_into}
use Rattle.iol_judge.proofs.next.wake.Given as goal

abbrev pub invariant-loop-state : goal.invariant-loop-state
invariant-loop-state l = each_in_turn (woken_into l.wake) l.fn.next.items l.states
    ≡ each_in_turn (woken_into l.wake) l.next.items (drop l.state-index l.states)
