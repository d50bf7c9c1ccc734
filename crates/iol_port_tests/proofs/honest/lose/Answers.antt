-- The clauses of `honest::lose` that the search can't prove.
use Rattle.iol_port_tests.proofs.MeetLemmas.{lost_is_honest}
use Rattle.iol_port_tests.proofs.honest.lose.Goals as goal

pub returns : goal.returns
returns g c silence = lost_is_honest _ _ _ _ _ c.work.ensures.carried _ silence
    c.parts_are_regular.ensures
