-- The number of each refusal.
use Rattle.std.specs.Prelude.{ℕ}
use Rattle.iol_capture.specs.declared.split_fault.SplitFault.{SplitFault}
use Rattle.iol_capture.specs.declared.split_fault.SplitFault.TheVariants.{TimeBack, Overlap, NoLayout}
use Rattle.iol_capture.specs.declared.split_fault.TheConstants.{TIME_BACK, OVERLAP, NO_LAYOUT}

abbrev pub split_fault_number : SplitFault → ℕ
split_fault_number TimeBack = TIME_BACK
split_fault_number Overlap = OVERLAP
split_fault_number (NoLayout why) = NO_LAYOUT
