-- `take` leaves a pointer to nothing, which owns nothing.
use Rattle.iolink_params_c.proofs.Handle.{held, take}
use Rattle.iolink_params_c.proofs.held.ParamsPointer.take.Statement.{statement}
use Rattle.iolink_params_c.proofs.held.ParamsPointer.take.Code as code

pub take_spec : {M : Type 1} → statement M
take_spec 𝓤 𝓛 𝓜 𝓡 wired = take held 𝓤 𝓛 𝓜 𝓡 _ (code.unfolded 𝓤 𝓛.H 𝓜 𝓡 wired)
