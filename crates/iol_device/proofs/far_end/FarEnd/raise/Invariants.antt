-- The ghost values that `FarEnd::raise` hands to what it calls.
use Rattle.std.specs.Prelude.{[], ◌∷◌, ◌++◌}
use Rattle.iol_far.specs.History.{Raised}
use Rattle.iol_device.proofs.far_end.FarEnd.raise.Given as goal

abbrev pub ghost-with_history : goal.ghost-with_history
ghost-with_history g a = a.self.now.noted.history ++ Raised a.near.now ∷ []
