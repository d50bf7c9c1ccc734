-- What the search can't prove of the body of `served::with_ledgers`.
use denote.Param.Send.{sendable}
use Rattle.std.proofs.Crossing.{crosses}
use Rattle.iol_port.proofs.Crosses.{heap_port_send}
use Rattle.iol_sim.proofs.Crosses.{sim_send}
use Rattle.iol_bench.proofs.served.with_ledgers.Goals as goal

pub serve-requires-send-W : goal.serve-requires-send-W
serve-requires-send-W g c κs within = search (sim_send, crosses, sendable) depth 60 fits 20000

pub serve-requires-2-send-W : goal.serve-requires-2-send-W
serve-requires-2-send-W g c κs within = search (sim_send, crosses, sendable) depth 60 fits 20000

pub serve-requires-send-P : goal.serve-requires-send-P
serve-requires-send-P g c κs within =
    search (heap_port_send, sim_send, crosses, sendable) depth 60 fits 20000

pub serve-requires-2-send-P : goal.serve-requires-2-send-P
serve-requires-2-send-P g c κs within =
    search (heap_port_send, sim_send, crosses, sendable) depth 60 fits 20000
