-- What the search can't prove of the body of `locks::beside`.
use denote.Param.Send.{sendable}
use Rattle.std.proofs.Crossing.{crosses}
use Rattle.iol_master.proofs.Crosses.{master_sync}
use Rattle.iol_master_tests.proofs.locks.beside.Goals as goal

-- a thread borrows the master and the runtime
pub join-requires-send-F : goal.join-requires-send-F
join-requires-send-F g c κs within =
    search (master_sync, crosses, sendable) depth 60 fits 20000
