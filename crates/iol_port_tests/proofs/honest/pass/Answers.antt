-- The clauses of `honest::pass` that the search can't prove.
use Rattle.iol_port_tests.proofs.MeetLemmas.{passed_is_honest}
use Rattle.iol_port_tests.proofs.honest.pass.Goals as goal

pub returns : goal.returns
returns g c silence =
    passed_is_honest _ _ _ _ _ c.work.ensures.carried _ _ _ silence
    c.parts_are_regular.ensures c.hear.ensures.far c.hear.ensures.reply
