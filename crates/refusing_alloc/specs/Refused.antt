-- Which requests a refusal names.
use Rattle.std.specs.Prelude.{◌≡◌, ℕ, ◌≤◌}
use Rattle.refusing_alloc.specs.declared.refusal.Refusal.{Refusal}
use Rattle.refusing_alloc.specs.declared.refusal.Refusal.TheVariants.{Never, Only, From}

-- the request of this number is refused
abbrev pub RefusesRequest : Refusal → ℕ → Type 0
RefusesRequest Never n = ⊥
RefusesRequest (Only number) n = n ≡ number
RefusesRequest (From number) n = number ≤ n
