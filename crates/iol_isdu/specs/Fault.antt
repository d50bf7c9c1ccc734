-- The numbers of the refusals.
use Rattle.std.specs.Prelude.{ℕ}
use Rattle.iol_isdu.specs.declared.fault.IsduFault.{IsduFault}
use Rattle.iol_isdu.specs.declared.fault.IsduFault.TheVariants.{DataTooLong, Truncated, BadIsduLength, BadService, BadChkpdu, WrongAnswerKind}
use Rattle.iol_isdu.specs.declared.fault.TheConstants.{DATA_TOO_LONG, TRUNCATED, BAD_ISDU_LENGTH, BAD_SERVICE, BAD_CHKPDU, WRONG_ANSWER_KIND}

abbrev pub isdu_fault_number : IsduFault → ℕ
isdu_fault_number DataTooLong = DATA_TOO_LONG
isdu_fault_number Truncated = TRUNCATED
isdu_fault_number BadIsduLength = BAD_ISDU_LENGTH
isdu_fault_number BadService = BAD_SERVICE
isdu_fault_number BadChkpdu = BAD_CHKPDU
isdu_fault_number WrongAnswerKind = WRONG_ANSWER_KIND
