-- Members, one for each parameter: `TableLines.members` needs this.
-- For the clauses of `TableLines::members`.
use Rattle.std.proofs.Common.{ℕ, ◌<◌, ◌+◌, List, [], ◌∷◌, ◌++◌, take, length, get_or, sym, subst}
use Rattle.std.proofs.lemmas.List.{take_more}
use Rattle.std.specs.List.{AllZip}

module _ {X Y : Type 0} (R : X → Y → Type 0) where
  zip-push : (xs : List X) (ys : List Y) (x : X) (y : Y) → AllZip R xs ys → R x y
      → AllZip R (xs ++ x ∷ []) (ys ++ y ∷ [])
  zip-push [] [] x y zip is = (is, tt)
  zip-push (a ∷ xs) (b ∷ ys) x y zip is = (zip.0, zip-push xs ys x y zip.1 is)
  zip-push [] (b ∷ ys) x y zip is = absurd zip
  zip-push (a ∷ xs) [] x y zip is = absurd zip

  -- a pair more
  pub zip_more : (xs : List X) (ys : List Y) (i : ℕ) (d : X) (y : Y) → i < length xs
      → AllZip R (take i xs) ys → R (get_or xs i d) y
      → AllZip R (take (i + 1) xs) (ys ++ y ∷ [])
  zip_more xs ys i d y below zip is = subst (λ front. AllZip R front (ys ++ y ∷ []))
      (sym (take_more xs i d below)) (zip-push (take i xs) ys (get_or xs i d) y zip is)
