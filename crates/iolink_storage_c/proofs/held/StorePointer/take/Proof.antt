-- `take` leaves a pointer to nothing, which owns nothing.
use Rattle.iolink_storage_c.proofs.Handle.{held, take}
use Rattle.iolink_storage_c.proofs.held.StorePointer.take.Statement.{statement}
use Rattle.iolink_storage_c.proofs.held.StorePointer.take.Code as code

pub take_spec : {M : Type 1} → statement M
take_spec 𝓤 𝓛 𝓜 𝓡 wired = take held 𝓤 𝓛 𝓜 𝓡 _ (code.unfolded 𝓤 𝓛.H 𝓜 𝓡 wired)
