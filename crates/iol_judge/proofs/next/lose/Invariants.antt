-- What each round of a loop of `next::lose` keeps.
use Rattle.std.proofs.Common.{◌≡◌, drop}
use Rattle.iol_judge.specs.Judged.{each_in_turn, lost_into}
use Rattle.iol_judge.proofs.next.lose.Given as goal

abbrev pub invariant-loop-state : goal.invariant-loop-state
invariant-loop-state l = each_in_turn (lost_into l.layouts l.sent) l.fn.next.items l.states
    ≡ each_in_turn (lost_into l.layouts l.sent) l.next.items (drop l.state-index l.states)
