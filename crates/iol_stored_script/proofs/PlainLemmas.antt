-- A text that is put together of lines, each with a line feed behind it: the clause of `plain_text`
-- needs these. Begin with `more_lines`.
-- For the clauses of `as_plain::plain_text`.
use Rattle.std.proofs.Common.{◌≡◌, ℕ, ◌+◌, Bool, true, false, ◌==◌, List, [], ◌∷◌, ◌++◌, cond, refl, ap, ◌∙◌, Option, Some, None, codes, subst, map, append_assoc}
use Rattle.std.specs.List.{enumerate_from, onto_first}
use Rattle.iol_script.specs.Text.{lines_of, lines_left}
use Rattle.iol_script.specs.declared.parts.TextLines.{TextLines}
use Rattle.iol_stored_script.specs.PlainText.{store_behind, plain_line, plain_lines}
use Rattle.iol_stored_script.specs.StorageLines.{storage_form}
use Rattle.iol_stored_script.specs.declared.as_plain.StoreLine.{StoreLine}
use Rattle.iol_stored_script.specs.declared.as_plain.StoreLine.TheVariants.{Awaited, Present}
use Rattle.iol_stored_script.specs.declared.storage_line.StorageLine.{StorageLine}
use Rattle.iol_stored_script.specs.declared.storage_line.StorageLine.TheVariants.{Store, Call}

-- a line has no line feed
abbrev pub IsLine : List ℕ → Type 0
IsLine [] = Unit {0}
IsLine (c ∷ line) = ((c == 10) ≡ false) × IsLine line

abbrev AllLines : List (List ℕ) → Type 0
AllLines [] = Unit {0}
AllLines (line ∷ lines) = IsLine line × AllLines lines

begins-line : (b : Bool) (c : ℕ) (lines : List (List ℕ)) → (c == 10) ≡ b → AllLines lines
    → AllLines (cond b ([] ∷ lines) (onto_first c lines))
begins-line true c lines is are = (tt, are)
begins-line false c [] is are = ((is, tt), tt)
begins-line false c (line ∷ lines) is (first, later) = ((is, first), later)

are_lines : (text : List ℕ) → AllLines (lines_of text)
are_lines [] = tt
are_lines (c ∷ text) = begins-line (c == 10) c (lines_of text) refl (are_lines text)

abbrev first_in : List (ℕ × List ℕ) → List ℕ
first_in [] = []
first_in (line ∷ lines) = line.1

-- so has that which an iterator gives
first_of : (number n : ℕ) (lines : List (List ℕ)) (line : List ℕ) (rest : List (ℕ × List ℕ))
    → AllLines lines → enumerate_from number lines ≡ (n, line) ∷ rest → IsLine line
first_of number n [] line rest are is = absurd (cc)
first_of number n (l ∷ lines) line rest (first, later) is =
    subst IsLine (ap (λ (ls : List (ℕ × List ℕ)). first_in ls) is) first

pub yielded_line : (it : TextLines) (n : ℕ) (line : List ℕ) (rest : List (ℕ × List ℕ))
    → lines_left it ≡ (n, line) ∷ rest → IsLine line
yielded_line it n line rest is =
    first_of (it.yielded + 1) n (lines_of it.left.now) line rest (are_lines it.left.now) is

-- a line in front
pub line-first : (line later : List ℕ) → IsLine line
    → lines_of (line ++ 10 ∷ later) ≡ line ∷ lines_of later
line-first [] later is = refl
line-first (c ∷ line) later (first, is) =
    rw (first, line-first line later is) refl

is_status : IsLine (codes "status")
is_status = (refl, (refl, (refl, (refl, (refl, (refl, tt))))))

-- a text is these lines, each with its line feed
abbrev pub AreLines : List ℕ → List (List ℕ) → Type 0
AreLines text lines = (later : List ℕ) → lines_of (text ++ later) ≡ lines ++ lines_of later

pub more_lines : (text line : List ℕ) (lines : List (List ℕ)) → AreLines text lines → IsLine line
    → AreLines ((text ++ line) ++ 10 ∷ []) (lines ++ line ∷ [])
more_lines text line lines are is later =
    let goes : lines_of (text ++ (line ++ 10 ∷ later)) ≡ lines ++ (line ∷ lines_of later) =
    are (line ++ 10 ∷ later) ∙ ap (λ rest. lines ++ rest) (line-first line later is) in
    simp append_assoc goes

-- the numbers of lines stay
pub numbers-stay : (store : StoreLine) (number : ℕ) (lines : List (List ℕ))
    → enumerate_from number (map (λ line. line.1) (plain_lines store (enumerate_from number lines)))
    ≡ plain_lines store (enumerate_from number lines)
numbers-stay store number [] = refl
numbers-stay store number (line ∷ lines) =
    ap (λ rest. (number, plain_line store (storage_form line) line) ∷ rest)
    (numbers-stay (store_behind store (storage_form line)) (number + 1) lines)

-- what stands where a line does is one
pub plain_is_line : (store : StoreLine) (form : Option StorageLine) (line : List ℕ) → IsLine line
    → IsLine (plain_line store form line)
plain_is_line Awaited (Some (Store mode)) line is = tt
plain_is_line Present (Some (Store mode)) line is = is
plain_is_line Awaited (Some (Call call)) line is = is_status
plain_is_line Present (Some (Call call)) line is = is_status
plain_is_line Awaited None line is = is
plain_is_line Present None line is = is
