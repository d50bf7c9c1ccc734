-- How soon octets begin behind one another, and which rate that speaks for.
use Rattle.std.specs.Prelude.{ℕ, ◌-◌, Bool, nat_le, if◌then◌else◌, Option, Some, None, option_map, option_and_then}
use Rattle.iol_link.specs.declared.wire.Rate.{Rate}
use Rattle.iol_link.specs.declared.wire.Rate.TheVariants.{Com1, Com2, Com3}
use Rattle.iol_capture.specs.declared.gap.Gap.{Gap}
use Rattle.iol_capture.specs.declared.gap.Gap.TheVariants as gap
use Rattle.iol_capture.specs.declared.spacing.RateDoubt.{RateDoubt}
use Rattle.iol_capture.specs.declared.spacing.RateDoubt.TheVariants.{Apart, Overlap}
use Rattle.iol_capture.specs.declared.spacing.Spacing.{Spacing}
use Rattle.iol_capture.specs.Times.{gap_of}
use Rattle.iol_capture.specs.Waking.{in_message}

abbrev pub nothing_spaced : Spacing
nothing_spaced = record { last = None; least = None }

-- the shorter time
abbrev pub least_with : Option ℕ → ℕ → ℕ
least_with None elapsed = elapsed
least_with (Some least) elapsed = if nat_le least elapsed then least else elapsed

-- an octet begins at this time, that long behind the last one if there was any
abbrev pub least_behind : Option ℕ → Option ℕ → ℕ → Option ℕ
least_behind None least time = least
least_behind (Some last) least time = Some (least_with least (time - last))

abbrev pub spaced_by : Spacing → ℕ → Spacing
spaced_by spacing time =
    record { last = Some time; least = least_behind spacing.last spacing.least time }

-- octets of a message begin so long behind one another at this rate
abbrev pub fits_rate : Rate → ℕ → Bool
fits_rate rate least = in_message (gap_of rate least)

abbrev pub likely_rate : ℕ → Option Rate
likely_rate least =
    if fits_rate Com1 least then Some Com1 else
    if fits_rate Com2 least then Some Com2 else
    if fits_rate Com3 least then Some Com3 else None

-- why the first of them can't be the rate, and the second is likely
abbrev pub doubt_by : Gap → Rate → Rate → RateDoubt
doubt_by gap.Overlap rate likely = Overlap rate likely
doubt_by other rate likely = Apart rate likely

abbrev pub doubt_at : Rate → ℕ → Option RateDoubt
doubt_at rate least = if fits_rate rate least then None else
    option_map (doubt_by (gap_of rate least) rate) (likely_rate least)

abbrev pub doubt_of : Spacing → Rate → Option RateDoubt
doubt_of spacing rate = option_and_then (doubt_at rate) spacing.least
