-- What the search can't prove of the body of `serve::submit_beside`.
use denote.Param.Send.{sendable}
use Rattle.std.proofs.Crossing.{crosses}
use Rattle.iol_master.proofs.Crosses.{master_sync}
use Rattle.iol_port.proofs.Crosses.{heap_port_send}
use Rattle.example_gateway.proofs.serve.submit_beside.Goals as goal

-- each thread borrows the master and the runtime
pub spawn-requires-send-F : goal.spawn-requires-send-F
spawn-requires-send-F g c κs within = search (master_sync, crosses, sendable) depth 60 fits 20000

pub spawn-requires-2-send-F : goal.spawn-requires-2-send-F
spawn-requires-2-send-F g c κs within = search (master_sync, crosses, sendable) depth 60 fits 20000

-- a port goes to the thread of its worker
pub serve-requires-send-P : goal.serve-requires-send-P
serve-requires-send-P g c κs within = search (heap_port_send, sendable) depth 60 fits 20000
