-- The clauses of `laws::answers_are_taken_up` that the search can't prove.
use Rattle.std.proofs.Common.{lit≤}
use Rattle.iol_app.proofs.TakingUp.{answers_are_taken_up}
use Rattle.iol_app.proofs.laws.answers_are_taken_up.Goals as goal

pub returns : goal.returns
returns c = answers_are_taken_up (c.requests_are_received.ensures 1 (lit≤ tt)).fitting
    c.texts_join.ensures c.one_text_each.ensures.answer
