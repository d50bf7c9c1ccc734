-- A row cut at its first comma, by the place that a search found: `first_cell` needs these.
-- For the clauses of `cells::first_cell`.
use Rattle.std.proofs.Common.{◌≡◌, ℕ, ◌+◌, ◌≤◌, ◌<◌, Bool, false, Some, None, List, [], ◌∷◌, length, take, drop, arith, subst}
use Rattle.std.specs.List.{slice_split, position, position_or_len}
use Rattle.std.proofs.lemmas.List.Elements.{All-from_get_or}
use Rattle.std.proofs.lemmas.List.Splits.{slice_split_first, slice_split_none}
use Rattle.std.proofs.lemmas.List.Sums.{fails_before_first}
use Rattle.std.proofs.lemmas.Bool.Decides.{nat_tests}

module _ (p : ℕ → Bool) (xs : List ℕ) where
  pub cell_at : (i : ℕ) → position p xs ≡ Some i
      → slice_split p xs ≡ take i xs ∷ slice_split p (drop (i + 1) xs)
  cell_at i e =
      let at : position_or_len p xs ≡ i = grind (arith, nat_tests) in
      let within : position_or_len p xs < length xs = grind (arith, nat_tests) in
      subst (λ n. slice_split p xs ≡ take n xs ∷ slice_split p (drop (n + 1) xs)) at
      (slice_split_first p xs 0 within)

  pub last_cell : position p xs ≡ None → slice_split p xs ≡ xs ∷ []
  last_cell e =
      let long : length xs ≤ position_or_len p xs = grind (arith, nat_tests) in
      slice_split_none p xs (All-from_get_or (λ x. p x ≡ false) xs 0
      (λ k lt. fails_before_first p xs k 0 (omega arith)))
