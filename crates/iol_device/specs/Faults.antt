-- The number of each refusal.
use Rattle.std.specs.Prelude.{ℕ}
use Rattle.iol_device.specs.declared.fault.DeviceFault.{DeviceFault}
use Rattle.iol_device.specs.declared.fault.DeviceFault.TheVariants.{WrongAnswerKind, MemoryFull, OutOfMemory, WrongImageLength, OtherRequest}
use Rattle.iol_device.specs.declared.fault.TheConstants.{WRONG_ANSWER_KIND, MEMORY_FULL, OUT_OF_MEMORY, WRONG_IMAGE_LENGTH, OTHER_REQUEST}

abbrev pub device_fault_number : DeviceFault → ℕ
device_fault_number WrongAnswerKind = WRONG_ANSWER_KIND
device_fault_number MemoryFull = MEMORY_FULL
device_fault_number OutOfMemory = OUT_OF_MEMORY
device_fault_number WrongImageLength = WRONG_IMAGE_LENGTH
device_fault_number OtherRequest = OTHER_REQUEST
