-- What each round of a loop of `next::lose_apart` keeps.
use Rattle.std.proofs.Common.{◌≡◌, drop}
use Rattle.iol_judge.specs.Judged.{each_in_turn, lost_part}
use Rattle.iol_judge.specs.State.{all_parts}
use Rattle.iol_judge.proofs.next.lose_apart.Given as goal

abbrev pub invariant-loop-part : goal.invariant-loop-part
invariant-loop-part l =
    each_in_turn (lost_part l.layouts l.sent) l.fn.next.items (all_parts l.state) ≡ each_in_turn
    (lost_part l.layouts l.sent) l.next.items (drop l.part-index (all_parts l.state))
