-- The numbers of the refusals.
use Rattle.std.specs.Prelude.{ℕ}
use Rattle.iol_clients.specs.declared.fault.ClientsFault.{ClientsFault}
use Rattle.iol_clients.specs.declared.fault.ClientsFault.TheVariants.{OutOfMemory, NoThread, DesksFull}
use Rattle.iol_clients.specs.declared.fault.TheConstants.{OUT_OF_MEMORY, NO_THREAD, DESKS_FULL}

abbrev pub clients_fault_number : ClientsFault → ℕ
clients_fault_number OutOfMemory = OUT_OF_MEMORY
clients_fault_number NoThread = NO_THREAD
clients_fault_number DesksFull = DESKS_FULL
