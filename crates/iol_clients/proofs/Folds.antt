-- One element more of a fold, for the loops that collect and count. Begin with `folded`.
-- For the clauses of `Client::collect` and `collect::count_port`.
use Rattle.std.proofs.Common.{◌≡◌, ◌+◌, ◌<◌, ◌≤◌, ◌∙◌, ℕ, List, get_or, take, map, length, ap, arith}
use Rattle.std.proofs.Math.Seq.{take-length}
use Rattle.std.proofs.lemmas.Fn.{FoldsTo-push}
use Rattle.std.proofs.lemmas.List.{take_more, map_more}
use Rattle.std.proofs.lemmas.List.Sums.{sum_by_more}
use Rattle.std.specs.List.{FoldsTo, sum_by}

module _ {A : Type 0} (xs : List A) (i : ℕ) where
  pub whole : i ≤ length xs → length xs ≤ i → take i xs ≡ xs
  whole few many = let e : i ≡ length xs = omega arith in rw (e, take-length)

  module _ (x d : A) (is : x ≡ get_or xs i d) (below : i < length xs) where
    pub summed : (f : A → ℕ) (sum now : ℕ) → sum ≡ sum_by f (take i xs) → now ≡ sum + f x
        → now ≡ sum_by f (take (i + 1) xs)
    summed f sum now a b = rw (sum_by_more f xs i d below, ← is) (b ∙ ap (λ s. s + f x) a)

    module _ {P : Type 0} (p q u : P) where
      pub folded : (R : P → A → P → Type 0) → FoldsTo R p (take i xs) q → R q x u
          → FoldsTo R p (take (i + 1) xs) u
      folded R before step =
          rw (take_more xs i d below) (FoldsTo-push R p _ q _ u before (rw (← is) step))

      pub mapped : {B : Type 0} (R : P → B → P → Type 0) (f : A → B)
          → FoldsTo R p (map f (take i xs)) q → R q (f x) u
          → FoldsTo R p (map f (take (i + 1) xs)) u
      mapped R f before step =
          rw (map_more f xs i d below) (FoldsTo-push R p _ q _ u before (rw (← is) step))
