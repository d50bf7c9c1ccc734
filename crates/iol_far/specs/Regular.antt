-- The parts of a far end stay as they can be.
use Rattle.std.specs.Prelude.{ℕ, List}
use Rattle.iol_far.specs.Far.{Far, hear}
use Rattle.iol_far.specs.Local.{LocalStep, local, far_after_wake}
use Rattle.iol_far.specs.Laws.{IsRegular}

-- WIRE-6
pub record RegularStays : Type 0 where
  pub hears : (far : Far) (octets : List ℕ) → IsRegular far → IsRegular (hear far octets).far
  pub steps : (far : Far) (step : LocalStep) → IsRegular far → IsRegular (local far step)
  pub wakes : (far : Far) → IsRegular far → IsRegular (far_after_wake far)
