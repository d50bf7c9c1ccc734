-- The number of the refusal of an image.
use Rattle.std.specs.Prelude.{ℕ}
use Rattle.iol_image.specs.declared.fault.ImageFault.{ImageFault}
use Rattle.iol_image.specs.declared.fault.ImageFault.TheVariants.{WrongImageLength}
use Rattle.iol_image.specs.declared.fault.TheConstants.{WRONG_IMAGE_LENGTH}

-- the number of each refusal
abbrev pub image_fault_number : ImageFault → ℕ
image_fault_number WrongImageLength = WRONG_IMAGE_LENGTH
