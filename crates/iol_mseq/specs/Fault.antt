-- The number of each refusal.
use Rattle.std.specs.Prelude.{ℕ}
use Rattle.iol_mseq.specs.declared.fault.MseqFault.{MseqFault}
use Rattle.iol_mseq.specs.declared.fault.MseqFault.TheVariants.{UnsupportedCode, BadLength, WrongLength, WrongType, BadChecksum}
use Rattle.iol_mseq.specs.declared.fault.TheConstants.{UNSUPPORTED_CODE, BAD_LENGTH, WRONG_LENGTH, WRONG_TYPE, BAD_CHECKSUM}

abbrev pub mseq_fault_number : MseqFault → ℕ
mseq_fault_number UnsupportedCode = UNSUPPORTED_CODE
mseq_fault_number BadLength = BAD_LENGTH
mseq_fault_number WrongLength = WRONG_LENGTH
mseq_fault_number WrongType = WRONG_TYPE
mseq_fault_number BadChecksum = BAD_CHECKSUM
