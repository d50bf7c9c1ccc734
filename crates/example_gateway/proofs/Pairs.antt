-- Lists of two.
-- For the clauses of `serve::serve`.
use Rattle.std.proofs.Common.{◌≡◌, List, [], ◌∷◌, All}
use Rattle.std.proofs.lemmas.List.Elements.{All-nil, All-cons}

pub both : {X : Type 0} (P : X → Type 0) → (a b : X) (xs : List X) → xs ≡ a ∷ b ∷ [] → P a → P b
    → All P xs
both P a b xs e p q = rw e (All-cons P a (b ∷ []) p (All-cons P b [] q (All-nil P)))
