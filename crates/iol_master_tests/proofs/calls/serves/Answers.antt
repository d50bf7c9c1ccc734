-- What the search can't prove of the body of `calls::serves`.
use denote.Param.Send.{sendable}
use Rattle.iol_port.proofs.Crosses.{heap_port_send}
use Rattle.iol_master_tests.proofs.calls.serves.Goals as goal

-- a port goes to the thread of its worker
pub serve-requires-send-P : goal.serve-requires-send-P
serve-requires-send-P g c κs within = search (heap_port_send, sendable) depth 60 fits 20000
