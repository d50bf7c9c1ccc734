-- A device that is found to be orderly is so: `is_orderly` needs it.
-- For the clauses of `far_end::is_orderly`.
use Rattle.std.proofs.Common.{◌≡◌, true, arith}
use Rattle.std.proofs.lemmas.Grind.{common_steps}
use Rattle.std.specs.Prelude.{Option, Some}
use Rattle.iol_far.specs.declared.mode.DeviceMode.{DeviceMode}
use Rattle.iol_far.specs.Far.{Far}
use Rattle.iol_far.specs.Orderly.{IsOrderly}
use Rattle.iol_device.specs.Pulses.{is_that, is_orderly}

that : (asked : Option DeviceMode) (mode : DeviceMode) → is_that asked mode ≡ true
    → asked ≡ Some mode
that asked mode e = grind (arith, common_steps)

pub orderly : (far : Far) → is_orderly far ≡ true → IsOrderly far
orderly far e = grind (arith, common_steps, that)
