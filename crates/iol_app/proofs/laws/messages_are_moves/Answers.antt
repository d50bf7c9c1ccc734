-- The clauses of `laws::messages_are_moves` that the search can't prove.
use Rattle.std.proofs.Common.{lit≤}
use Rattle.iol_app.proofs.Moving.{messages_are_moves}
use Rattle.iol_app.proofs.laws.messages_are_moves.Goals as goal

pub returns : goal.returns
returns c = messages_are_moves (c.requests_are_received.ensures 1 (lit≤ tt)).fitting
    c.texts_join.ensures
