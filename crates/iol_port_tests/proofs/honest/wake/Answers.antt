-- The clauses of `honest::wake` that the search can't prove.
use Rattle.std.proofs.Common.{ap}
use Rattle.iol_port_tests.proofs.MeetLemmas.{woken_is_honest}
use Rattle.iol_port_tests.proofs.honest.wake.Goals as goal

pub returns : goal.returns
returns g c =
    woken_is_honest _ _ _ _ _ c.work.ensures.carried _ c.parts_are_regular.ensures
    (ap (λ d. d.far) c.wake.ensures)
