-- The numbers of the refusals.
use Rattle.std.specs.Prelude.{ℕ}
use Rattle.iol_storage.specs.declared.fault.StorageFault.{StorageFault}
use Rattle.iol_storage.specs.declared.fault.StorageFault.TheVariants.{TooLarge, NoSet}
use Rattle.iol_storage.specs.declared.fault.TheConstants.{TOO_LARGE, NO_SET}

abbrev pub storage_fault_number : StorageFault → ℕ
storage_fault_number TooLarge = TOO_LARGE
storage_fault_number NoSet = NO_SET
