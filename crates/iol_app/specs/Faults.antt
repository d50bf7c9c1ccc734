-- The numbers of the refusals.
use Rattle.std.specs.Prelude.{ℕ}
use Rattle.iol_app.specs.declared.output.OutputFault.{OutputFault}
use Rattle.iol_app.specs.declared.output.OutputFault.TheVariants.{WrongImageLength, NoLayout}
use Rattle.iol_app.specs.declared.output.TheConstants.{WRONG_IMAGE_LENGTH, NO_LAYOUT}

abbrev pub output_fault_number : OutputFault → ℕ
output_fault_number WrongImageLength = WRONG_IMAGE_LENGTH
output_fault_number NoLayout = NO_LAYOUT
