-- What each round of a loop of `next::reply` keeps.
use Rattle.std.proofs.Common.{◌≡◌, drop}
use Rattle.iol_judge.specs.Judged.{each_in_turn, replied_into}
use Rattle.iol_judge.proofs.next.reply.Given as goal

abbrev pub invariant-loop-state : goal.invariant-loop-state
invariant-loop-state l =
    let step = replied_into l.layouts l.odd l.observed l.sent l.octets in
    each_in_turn step l.fn.next l.states ≡ each_in_turn step l.next (drop l.state-index l.states)
