-- What the search doesn't prove by itself of the body of
-- `locks::a_desk_is_opened_while_the_lock_is_held`.
use denote.Param.Send.{IsSend, sendable}
use Rattle.std.proofs.Crossing.{crosses}
use Rattle.iol_sim.proofs.Crosses.{sim_send}
use Rattle.iol_peers.proofs.wires.AnyWire.TheSendSync as any
use Rattle.iol_master_tests.specs.contracts.slow.Slow as Slow
use Rattle.iol_master_tests.proofs.slow.Flags.TheSendSync as flags
use Rattle.iol_master_tests.proofs.locks.a_desk_is_opened_while_the_lock_is_held.Goals as goal

slow_send : IsSend Slow.the_row
slow_send =
    search (flags.the_send, flags.the_sync, sim_send, crosses, sendable) depth 60 fits 20000

-- the client's thread borrows the master, which owns a slow device
pub lets_in-requires-send-W : goal.lets_in-requires-send-W
lets_in-requires-send-W c κs within =
    search (any.the_send, slow_send, crosses, sendable) depth 60 fits 20000
