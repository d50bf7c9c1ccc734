-- The ranges of a plan's numbers.
use Rattle.std.specs.Prelude.{ℕ, ◌*◌, ◌≤◌}

-- each number is in its range, and the clients of a port submit at most 64 requests
abbrev pub ArePlanned : ℕ → ℕ → ℕ → ℕ → Type 0
ArePlanned ports clients each turns =
    (1 ≤ ports) × (ports ≤ 32) × (1 ≤ clients) × (clients ≤ 16) × (1 ≤ each) × (each ≤ 64)
    × (clients * each ≤ 64) × (1 ≤ turns) × (turns ≤ 100000)
