-- Lines that are read one after the other: `Plan.read` and `Script.read` need these at a bad line.
-- For the clauses of `Plan::read` and `Script::read`.
use Rattle.std.proofs.Common.{◌≡◌, ℕ, Option, Result, Ok, Err, List, [], ◌∷◌, fold, refl, ap, ◌∙◌}
use Rattle.iol_script.specs.Text.{line_read}

module _ {D : Type 0} (after : D → List ℕ → Option D) where
  -- a bad line stays the first
  pub stays_bad : (bad : ℕ) (lines : List (ℕ × List ℕ))
      → fold (line_read after) (Err bad) lines ≡ Err bad
  stays_bad bad [] = refl
  stays_bad bad (line ∷ lines) = stays_bad bad lines

  -- a line is bad
  pub read-bad : (all : Result D ℕ) (draft : D) (lines rest : List (ℕ × List ℕ))
      (line : ℕ × List ℕ) (bad : ℕ)
      → all ≡ fold (line_read after) (Ok draft) lines → lines ≡ line ∷ rest
      → line_read after (Ok draft) line ≡ Err bad → all ≡ Err bad
  read-bad all draft lines rest line bad is these found =
      is ∙ ap (fold (line_read after) (Ok draft)) these
      ∙ ap (λ (r : Result D ℕ). fold (line_read after) r rest) found ∙ stays_bad bad rest
