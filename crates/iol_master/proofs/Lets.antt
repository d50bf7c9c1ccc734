-- A gate that lets one turn more pass.
-- For the clauses of `LineWorker::serve` and `serve::work`.
use Rattle.std.proofs.Common.{◌≡◌, ◌+◌, ◌<◌, ◌≤◌, inl, inr, ℕ, true, arith}
use Rattle.std.proofs.lemmas.Bool.{cases_lt}
use Rattle.iol_master.specs.Served.{GateFacts}

same : (turn made : ℕ) → turn < made + 1 → made ≤ turn → turn ≡ made
same turn made a b = omega arith

module _ {G : Type 0} (pass_gives : GateFacts G) (gate : G) (number made : ℕ) where
  pub one_more : ((turn : ℕ) → turn < made → pass_gives gate number (turn + 1) true)
      → pass_gives gate number (made + 1) true
      → (turn : ℕ) → turn < made + 1 → pass_gives gate number (turn + 1) true
  one_more before passes turn below = elim (cases_lt turn made) [
    | inl less ↦ before turn less
    | inr more ↦ rw (same turn made below more) passes
  ]
