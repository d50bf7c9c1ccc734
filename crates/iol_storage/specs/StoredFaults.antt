-- The numbers of a stored port's refusals.
use Rattle.std.specs.Prelude.{ℕ}
use Rattle.iol_port.specs.Faults.{port_fault_number}
use Rattle.iol_storage.specs.declared.stored.fault.StoredFault.{StoredFault}
use Rattle.iol_storage.specs.declared.stored.fault.StoredFault.TheVariants.{Port, OwnedIndex, Storing, UnknownBlock, BlockNotOver, SmallQueue, NoStanding, Uncollected, OtherSet}
use Rattle.iol_storage.specs.declared.stored.fault.TheConstants.{OWNED_INDEX, STORING, UNKNOWN_BLOCK, BLOCK_NOT_OVER, SMALL_QUEUE, NO_STANDING, UNCOLLECTED, OTHER_SET}

abbrev pub stored_fault_number : StoredFault → ℕ
stored_fault_number (Port fault) = port_fault_number fault
stored_fault_number OwnedIndex = OWNED_INDEX
stored_fault_number Storing = STORING
stored_fault_number UnknownBlock = UNKNOWN_BLOCK
stored_fault_number BlockNotOver = BLOCK_NOT_OVER
stored_fault_number SmallQueue = SMALL_QUEUE
stored_fault_number NoStanding = NO_STANDING
stored_fault_number Uncollected = UNCOLLECTED
stored_fault_number OtherSet = OTHER_SET
