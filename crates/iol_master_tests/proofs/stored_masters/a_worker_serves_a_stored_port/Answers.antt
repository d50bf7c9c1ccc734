-- What the search doesn't prove by itself of the body of
-- `stored_masters::a_worker_serves_a_stored_port`.
use denote.Param.Send.{sendable}
use Rattle.std.proofs.Crossing.{crosses}
use Rattle.iol_sim.proofs.Crosses.{sim_send}
use Rattle.iol_master_tests.proofs.stored_masters.a_worker_serves_a_stored_port.Goals as goal

-- the worker owns the device
pub worked-requires-send-W : goal.worked-requires-send-W
worked-requires-send-W c κs within = search (sim_send, crosses, sendable) depth 60 fits 20000
