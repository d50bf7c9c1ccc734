-- The refusals of an opening.
use Rattle.std.specs.Prelude.{ℕ, Bool, true, false}
use Rattle.iol_param_device.specs.declared.fault.OpenFault.{OpenFault}
use Rattle.iol_param_device.specs.declared.fault.OpenFault.TheVariants.{OutOfMemory, WrongSlotSize}
use Rattle.iol_param_device.specs.declared.fault.TheConstants.{OUT_OF_MEMORY, WRONG_SLOT_SIZE}

abbrev pub open_fault_number : OpenFault → ℕ
open_fault_number OutOfMemory = OUT_OF_MEMORY
open_fault_number WrongSlotSize = WRONG_SLOT_SIZE

-- by whether the slots have the right size
abbrev pub open_fault : Bool → OpenFault
open_fault true = OutOfMemory
open_fault false = WrongSlotSize
