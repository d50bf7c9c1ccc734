-- What the search doesn't prove by itself of the body of
-- `served::a_port_is_served_through_silence`.
use denote.Param.Send.{IsSend, sendable}
use Rattle.std.proofs.Crossing.{crosses}
use Rattle.iol_sim.proofs.Crosses.{sim_send}
use Rattle.iol_peers.proofs.wires.AnyWire.TheSendSync as any
use Rattle.iol_master_tests.specs.contracts.served.Watched as Watched
use Rattle.iol_master_tests.proofs.served.Watch.TheSendSync as watch
use Rattle.iol_master_tests.proofs.served.a_port_is_served_through_silence.Goals as goal

watched_send : IsSend Watched.the_row
watched_send =
    search (watch.the_send, watch.the_sync, sim_send, crosses, sendable) depth 60 fits 20000

-- the workers own the device, which shares its watch
pub is_served-requires-send-W : goal.is_served-requires-send-W
is_served-requires-send-W c κs within =
    search (any.the_send, watched_send, crosses, sendable) depth 60 fits 20000
