-- What the search can't prove of the body of `tickets::abandon_each`.
use Rattle.iol_master.proofs.Leaving.{none_left, next_left}
use Rattle.iol_master.proofs.tickets.abandon_each.Goals as goal

pub loop-ticket-init : goal.loop-ticket-init
loop-ticket-init g c = none_left g.P.MasterPort.facts c.args.port.now

pub loop-ticket-preserved : goal.loop-ticket-preserved
loop-ticket-preserved g c =
    next_left g.P.MasterPort.facts _ _ _ _ _ _ c.loop-ticket-test.true c.loop-ticket.invariant
    c.abandon.ensures
