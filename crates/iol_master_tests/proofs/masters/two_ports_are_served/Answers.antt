-- What the search can't prove of the body of `masters::two_ports_are_served`.
use denote.Param.Send.{sendable}
use Rattle.std.proofs.Crossing.{crosses}
use Rattle.iol_sim.proofs.Crosses.{sim_send}
use Rattle.iol_master_tests.proofs.masters.two_ports_are_served.Goals as goal

pub serves_two-requires-send-W : goal.serves_two-requires-send-W
serves_two-requires-send-W c κs within = search (sim_send, crosses, sendable) depth 60 fits 20000
