-- What each round of a loop of `next::reply_apart` keeps.
use Rattle.std.proofs.Common.{◌≡◌, drop}
use Rattle.iol_judge.specs.Judged.{each_in_turn, replied_part}
use Rattle.iol_judge.specs.State.{all_parts}
use Rattle.iol_judge.proofs.next.reply_apart.Given as goal

abbrev pub invariant-loop-part : goal.invariant-loop-part
invariant-loop-part l =
    let step = replied_part l.layouts l.odd l.observed l.sent l.octets in
    let parts = all_parts l.state in
    each_in_turn step l.fn.next parts ≡ each_in_turn step l.next (drop l.part-index parts)
