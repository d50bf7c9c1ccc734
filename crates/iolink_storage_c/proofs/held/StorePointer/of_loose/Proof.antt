-- `of_loose` keeps the pointer as it is.
use Rattle.iolink_storage_c.proofs.Handle.{held, of_loose}
use Rattle.iolink_storage_c.proofs.held.StorePointer.of_loose.Statement.{statement}
use Rattle.iolink_storage_c.proofs.held.StorePointer.of_loose.Code as code

pub of_loose_spec : {M : Type 1} → statement M
of_loose_spec 𝓤 𝓛 𝓜 𝓡 wired = of_loose held 𝓤 𝓛 𝓜 𝓡 _ (code.unfolded 𝓤 𝓛.H 𝓜 𝓡 wired)
