-- A simulated wire with the device of the parameters may go to another thread.
-- For the clauses of `example_gateway::serve::serve`, `iol_bench::served::with_ledgers`,
--     `iol_clients::serve::with_ledgers` and 7 more.
use denote.Param.Send.{IsSend, sendable}
use Rattle.std.proofs.Crossing.{crosses}
use Rattle.std.specs.contracts.alloc.Global as Heap
use Rattle.std.specs.contracts.impls.GlobalAllocator.TheImpl.{ghosts}
use Rattle.std.specs.declared.clone.Clone.{Ghosts as Copies}
use Rattle.iol_device.specs.contracts.device.Device as Device
use Rattle.iol_device.specs.contracts.record.FullRecord as FullRecord
use Rattle.iol_device.specs.declared.record.Record.{Ghosts as Records}
use Rattle.iol_device.proofs.record.NoRecord.TheSendSync as no_record
use Rattle.iol_sim.specs.contracts.sim.Sim as Sim
use Rattle.iol_sim.specs.contracts.params.Params as Params
use Rattle.iol_sim.specs.contracts.beside.Nothing as Nothing
use Rattle.iol_sim.specs.declared.beside.Beside.{Ghosts as Besides}
use Rattle.iol_sim.specs.contracts.params.ParamsApp.TheImpl as params

-- the device itself, however its record is one
device_send : (records : Records (FullRecord.the_row Heap.the_row ghosts).Denot)
    → IsSend (Device.the_row Params.the_row (FullRecord.the_row Heap.the_row ghosts) params.ghosts
    records)
device_send records = search (no_record.the_send, crosses, sendable) depth 60 fits 20000

-- however the heap's handle is copied, and what stands beside the device told
pub sim_send : (copies : Copies (Heap.the_row).Denot)
    → (besides : Besides (Nothing.the_row).Denot (Params.the_row).Denot)
    → IsSend (Sim.the_row Params.the_row Heap.the_row Nothing.the_row params.ghosts ghosts copies
    besides)
sim_send copies besides = search (device_send, crosses, sendable) depth 60 fits 20000
