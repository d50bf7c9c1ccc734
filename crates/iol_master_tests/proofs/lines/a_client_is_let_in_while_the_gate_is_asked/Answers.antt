-- What the search doesn't prove by itself of the body of
-- `lines::a_client_is_let_in_while_the_gate_is_asked`.
use denote.Param.Send.{sendable}
use Rattle.std.proofs.Crossing.{crosses}
use Rattle.iol_sim.proofs.Crosses.{sim_send}
use Rattle.iol_master_tests.proofs.lines.a_client_is_let_in_while_the_gate_is_asked.Goals as goal

-- the worker's thread owns the device
pub lets_in-requires-send-W : goal.lets_in-requires-send-W
lets_in-requires-send-W c κs within =
    search (sim_send, crosses, sendable) depth 60 fits 20000
