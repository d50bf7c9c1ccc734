-- Lines that are checked one after the other, for the clause `printed` of `checked`.
-- For the clauses of `check_command::checked`.
use Rattle.std.proofs.Common.{◌≡◌, ℕ, Some, List, ◌∷◌, ◌++◌, refl, append_assoc}
use Rattle.iol_mseq.specs.Shape.{Shape, startup_shape}
use Rattle.iol_script.specs.CheckLines.{CheckForm, check_form}
use Rattle.iol_commands.specs.Checked.{layout_after, PrintsLine, PrintsAll}

-- what is printed for all lines begins with this text, where these lines are left in this layout
abbrev pub IsFront : List (ℕ × List ℕ) → Shape → List (ℕ × List ℕ) → List ℕ → Type 0
IsFront all present lines text =
    (later : List ℕ) → PrintsAll present lines later → PrintsAll startup_shape all (text ++ later)

-- one more line is printed
pub prints_more : (all lines rest : List (ℕ × List ℕ)) (present : Shape) (number : ℕ)
    (line : List ℕ) (form : CheckForm) (old text : List ℕ) → IsFront all present lines old
    → lines ≡ (number, line) ∷ rest → check_form line ≡ Some form → PrintsLine present form text
    → IsFront all (layout_after present form) rest (old ++ text)
prints_more all lines rest present number line form old text so_far is fits prints later others =
    rw append_assoc (so_far (text ++ later) (rw (is, fits) (text, later, refl, prints, others)))
