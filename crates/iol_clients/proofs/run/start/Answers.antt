-- What the search can't prove of the body of `run::start`.
use denote.Param.Send.{sendable}
use Rattle.std.proofs.Crossing.{crosses}
use Rattle.iol_master.proofs.Crosses.{master_sync}
use Rattle.iol_clients.proofs.client.Client.TheSendSync.{the_send}
use Rattle.iol_clients.proofs.run.start.Goals as goal

-- the thread owns the client, and borrows the master and the runtime
pub spawn_with-requires-send-F : goal.spawn_with-requires-send-F
spawn_with-requires-send-F g c κs within =
    search (master_sync, the_send, crosses, sendable) depth 60 fits 20000
