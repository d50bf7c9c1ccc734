-- How many octets of on-request data a message may have (IEC 61131-9, A.2).
use Rattle.std.specs.Prelude.{ℕ, ◌≤◌}

abbrev pub IsOdLength : ℕ → Type 0
IsOdLength octets = (1 ≤ octets) × (octets ≤ 32)
