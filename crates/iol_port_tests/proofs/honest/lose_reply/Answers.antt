-- The clauses of `honest::lose_reply` that the search can't prove.
use Rattle.iol_port_tests.proofs.MeetLemmas.{reply_lost_is_honest}
use Rattle.iol_port_tests.proofs.honest.lose_reply.Goals as goal

pub returns : goal.returns
returns g c silence =
    reply_lost_is_honest _ _ _ _ _ c.work.ensures.carried _ _ silence
    c.parts_are_regular.ensures c.hear.ensures.far
