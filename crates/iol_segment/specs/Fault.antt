-- The numbers of the refusals.
use Rattle.std.specs.Prelude.{ℕ}
use Rattle.iol_segment.specs.declared.took.JoinFault.{JoinFault}
use Rattle.iol_segment.specs.declared.took.JoinFault.TheVariants.{WrongCount, BadIsduLength}
use Rattle.iol_segment.specs.declared.took.TheConstants.{BAD_ISDU_LENGTH, WRONG_COUNT}

abbrev pub join_fault_number : JoinFault → ℕ
join_fault_number BadIsduLength = BAD_ISDU_LENGTH
join_fault_number WrongCount = WRONG_COUNT
