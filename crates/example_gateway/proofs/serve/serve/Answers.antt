-- What the search can't prove of the body of `serve::serve`.
use denote.Param.Send.{sendable}
use Rattle.std.proofs.Crossing.{crosses}
use Rattle.iol_master.specs.Tickets.{HasIssued}
use Rattle.iol_sim.proofs.Crosses.{sim_send}
use Rattle.example_gateway.proofs.Pairs.{both}
use Rattle.iol_port.proofs.Crosses.{heap_port_send}
use Rattle.example_gateway.proofs.serve.serve.Goals as goal

-- both ports are as they were opened, but for the first one's writer
pub open-opened-requires-clause-fresh : goal.open-opened-requires-clause-fresh
open-opened-requires-clause-fresh g c =
    both (λ p. HasIssued p 0) _ _ _ c.in_ok-ports.ensures.items
    (rw c.publish_to.ensures c.in_ok-first.ensures) c.in_ok-open_port.ensures

pub submit_both-requires-send-W : goal.submit_both-requires-send-W
submit_both-requires-send-W g c κs within = search (sim_send, crosses, sendable) depth 60 fits 20000

pub serve-requires-send-W : goal.serve-requires-send-W
serve-requires-send-W g c κs within = search (sim_send, crosses, sendable) depth 60 fits 20000

pub serve-requires-send-P : goal.serve-requires-send-P
serve-requires-send-P g c κs within =
    search (heap_port_send, sim_send, crosses, sendable) depth 60 fits 20000
