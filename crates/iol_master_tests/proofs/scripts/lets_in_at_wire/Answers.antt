-- What the search can't prove of the body of `scripts::lets_in_at_wire`.
use denote.Param.Send.{IsSend, sendable}
use Rattle.std.proofs.Crossing.{crosses}
use Rattle.iol_sim.proofs.Crosses.{sim_send}
use Rattle.iol_peers.proofs.wires.AnyWire.TheSendSync as any
use Rattle.iol_master_tests.specs.contracts.slow.Slow as Slow
use Rattle.iol_master_tests.proofs.slow.Flags.TheSendSync as flags
use Rattle.iol_master_tests.proofs.scripts.lets_in_at_wire.Goals as goal

slow_send : IsSend Slow.the_row
slow_send =
    search (flags.the_send, flags.the_sync, sim_send, crosses, sendable) depth 60 fits 20000

-- the worker's thread owns a slow device, which shares the flags
pub lets_in-requires-send-W : goal.lets_in-requires-send-W
lets_in-requires-send-W g c κs within =
    search (any.the_send, slow_send, crosses, sendable) depth 60 fits 20000
