-- The handle of C, as what the lemmas on such structs take.
-- For the clauses of `StorePointer::of_loose` and `StorePointer::take`.
pub use Rattle.iolink_handle.proofs.Handles.{of_loose, take}
use Rattle.iolink_handle.proofs.Handles.{Handle}
use Rattle.std.proofs.Common.{refl}
use Rattle.iolink_storage_c.specs.contracts.held.HeldStore as inner
use Rattle.iolink_storage_c.specs.contracts.held.StorePointer as handle
use Rattle.iolink_storage_c.proofs.held.StorePointer.TheLaws as laws

abbrev pub held : Handle inner.the_row
held = record {
  row = handle.the_row;
  name = handle.struct.name;
  fields = λ h. (h.at, (h.is_held, h.value));
  make = λ f. record { at = f.0; is_held = f.1.0; value = f.1.1 };
  made = λ f. refl;
  owns = λ h vs. refl;
  tells = laws.lowers.val_is;
  ends = λ h w. tt;
}
