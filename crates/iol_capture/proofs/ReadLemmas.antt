-- A capture that is read in pieces: the line that is open, and what a `ReaderState` makes of one
-- more octet, of the end, and of one more piece of a reader. The calls of `CaptureReader`, and
-- `judge_capture`, need them.
-- For the clauses of `CaptureReader::end_line`, `CaptureReader::judge_line`,
--     `capture::judge_capture` and 5 more.
use Rattle.std.proofs.Common.{◌≡◌, ℕ, suc, ◌+◌, ◌<◌, Bool, true, false, ◌==◌, Option, Result, Ok, Err, OnOk, List, [], ◌∷◌, ◌++◌, length, get_or, take, drop, fold, refl, ◌∙◌, add-one, append-nil, drop-cons, append_assoc, length-append, length-take, arith}
use Rattle.std.proofs.lemmas.Bool.{false_from_ne_true, or_parts}
use Rattle.std.proofs.lemmas.Bool.Decides.{nat_tests}
use Rattle.std.proofs.lemmas.List.{get_or-take, nil_from_length, take-append-drop}
use Rattle.std.proofs.lemmas.List.Elements.{All-from_get_or}
use Rattle.std.proofs.lemmas.List.Folds.{list_any-append, list_any_none}
use Rattle.memchr.specs.Find.{NoneBefore, Nowhere, Passes}
use Rattle.std.specs.Io.KnownBytes.{Consumes}
use Rattle.std.specs.List.{list_any, onto_first}
use Rattle.std.specs.Result.{result_and, result_map_both}
use Rattle.std.proofs.KnownBytes.{Consumes-trans}
use Rattle.iol_judge.specs.Judged.{one_more}
use Rattle.iol_judge.specs.declared.verdict.Odd.{Odd}
use Rattle.iol_script.specs.Text.{lines_of}
use Rattle.iol_capture.specs.declared.fault.CaptureFault.{CaptureFault}
use Rattle.iol_capture.specs.declared.fault.CaptureFault.TheVariants.{Line}
use Rattle.iol_capture.specs.declared.fault.LineFault.{LineFault}
use Rattle.iol_capture.specs.declared.fault.LineFault.TheVariants.{BadForm}
use Rattle.iol_capture.specs.declared.telling.CaptureForm.{CaptureForm}
use Rattle.iol_capture.specs.declared.telling.Telling.{Telling}
use Rattle.iol_capture.specs.Judging.{Judging}
use Rattle.iol_capture.specs.Capture.{IsOpenLine, ReaderState, capture_judged, judging_at_end, judging_after_rest, capture_after_line, read_as}

-- The line that is open, and the lines of the text behind it

-- a line feed ends it
pub lines_ended : (line rest : List ℕ) → IsOpenLine line
    → lines_of (line ++ 10 ∷ rest) ≡ line ∷ lines_of rest
lines_ended [] rest h = refl
lines_ended (c ∷ line) rest h = grind (arith, lines_ended line rest)

-- so does the end of the text
pub lines_last : (line : List ℕ) → IsOpenLine line → 0 < length line → lines_of line ≡ line ∷ []
lines_last [] h some = absurd (omega arith)
lines_last (c ∷ []) h some = grind arith
lines_last (c ∷ d ∷ line) h some = grind (arith, lines_last (d ∷ line))

-- the first line of a text, and the others
pub record BeginsWith (lines : List (List ℕ)) (front : List ℕ) : Type 0 where
  pub more : List ℕ
  pub others : List (List ℕ)
  pub is : lines ≡ (front ++ more) ∷ others

onto_begins : (c : ℕ) (lines : List (List ℕ)) → BeginsWith (onto_first c lines) (c ∷ [])
onto_begins c [] = record { more = []; others = []; is = refl }
onto_begins c (first ∷ others) = record { more = first; others = others; is = refl }

-- the first line begins with all that has no line feed
pub lines_begun : (line rest : List ℕ) → IsOpenLine line → 0 < length line
    → BeginsWith (lines_of (line ++ rest)) line
lines_begun [] rest h some = absurd (omega arith)
lines_begun (c ∷ []) rest h some =
    let begins = onto_begins c (lines_of rest) in
    record { more = begins.more; others = begins.others; is = grind (arith, begins.is) }
lines_begun (c ∷ d ∷ line) rest h some =
    let parts = or_parts (c == 10) (list_any (λ b. b == 10) (d ∷ line)) h in
    let later = lines_begun (d ∷ line) rest parts.1 (omega arith) in
    record { more = later.more; others = later.others; is = grind (arith, later.is) }

-- no line feed is in two pieces, if in neither
pub open_both : (line more : List ℕ) → IsOpenLine line → IsOpenLine more
    → IsOpenLine (line ++ more)
open_both line more h g = grind (arith, list_any-append {X = ℕ})

-- A text that is cut at its first line feed

abbrev is_feed : ℕ → Bool
is_feed b = b == 10

pub cut_at : (text : List ℕ) (i : ℕ)
    → NoneBefore (Passes is_feed text) 0 (length text) i × Passes is_feed text i
    → IsOpenLine (take i text) × (text ≡ take i text ++ 10 ∷ drop (i + 1) text)
cut_at text i is =
    let within : i < length text = is.0.high in
    let parts : take i text ++ drop i text ≡ text = take-append-drop i text in
    let feed : get_or text i 0 ≡ 10 = grind (arith, nat_tests, is.1) in
    let behind : drop i text ≡ get_or text i 0 ∷ drop (suc i) text = drop-cons text i 0 within in (
      list_any_none is_feed (take i text) (All-from_get_or (λ x. is_feed x ≡ false) (take i text) 0
          (λ k lt. let early : k < i = omega (arith, length-take i text) in
          rw get_or-take (false_from_ne_true _ (is.0.before k (omega arith) early)))),
      grind (arith, add-one),
    )

pub uncut : (text : List ℕ) → Nowhere (Passes is_feed text) 0 (length text) → IsOpenLine text
uncut text none = list_any_none is_feed text (All-from_get_or (λ x. is_feed x ≡ false) text 0
    (λ k lt. false_from_ne_true _ (none k (omega arith) lt)))

-- Bad lines

-- what is judged in the end, where the line of this number is told so, and these come behind it
abbrev pub judged_from : {J : Type 0} → (J → Telling) → Result J LineFault → ℕ
    → List (List ℕ) → Result Judging CaptureFault
judged_from form emitted number lines =
    judging_at_end (fold capture_after_line
    (read_as number (result_map_both form (λ fault. fault) emitted)) lines)

-- a bad line stays the first
pub stays_bad : (fault : CaptureFault) (lines : List (List ℕ))
    → fold capture_after_line (Err fault) lines ≡ Err fault
stays_bad fault [] = refl
stays_bad fault (line ∷ lines) = stays_bad fault lines

-- More of a text

pub on_ok : {U E : Type 0} {P : Type 0} (result : Result U E) → P → OnOk result P
on_ok (Ok done) p = p
on_ok (Err fault) p = tt

-- a line feed ends the line that is open, with these bytes behind it, by a call with this result
pub ended : {U : Type 0} (result : Result U CaptureFault) (old mid new : ReaderState)
    (end : List ℕ) → mid.reading ≡ old.reading → mid.line ≡ old.line ++ end → IsOpenLine mid.line
    → result_and result (Ok new.reading) ≡ capture_after_line (Ok mid.reading) mid.line
    → OnOk result (new.line ≡ []) → (rest : List ℕ)
    → result_and result (judging_after_rest new rest) ≡ judging_after_rest old (end ++ 10 ∷ rest)
ended (Ok done) old mid new end same longer h read empty rest =
    grind (arith, lines_ended, append_assoc {A = ℕ})
ended (Err fault) old mid new end same longer h read empty rest =
    grind (arith, lines_ended, stays_bad, append_assoc {A = ℕ})

-- the same, where nothing is kept of that line
pub ended_whole : {U : Type 0} (result : Result U CaptureFault) (inside old new : ReaderState)
    (empty : Bool) (end : List ℕ) → inside ≡ old → empty ≡ (length inside.line == 0)
    → empty ≡ true → IsOpenLine end
    → result_and result (Ok new.reading) ≡ capture_after_line (Ok inside.reading) end
    → new.line ≡ inside.line → (rest : List ℕ)
    → result_and result (judging_after_rest new rest) ≡ judging_after_rest old (end ++ 10 ∷ rest)
ended_whole result inside old new empty end same is none h read still =
    let nothing : inside.line ≡ [] = nil_from_length inside.line (grind (arith, nat_tests)) in
    ended result old (record { reading = inside.reading; line = end }) new end (grind arith)
    (grind arith) h read (on_ok result (still ∙ nothing))

-- no room is left for more of a line
pub overfull : (inside old : ReaderState) (more : List ℕ) (number : ℕ) → inside ≡ old
    → IsOpenLine inside.line → IsOpenLine more → 1024 < length inside.line + length more
    → number ≡ one_more inside.reading.lines → (rest : List ℕ)
    → judging_after_rest old (more ++ rest) ≡ Err (Line number BadForm)
overfull inside old more number same h g full is rest =
    let front : List ℕ = inside.line ++ more in
    let some : 1024 < length front = omega (arith, length-append inside.line more) in
    let begins : BeginsWith (lines_of (front ++ rest)) front =
    lines_begun front rest (open_both inside.line more h g) (omega arith) in
    let long : 1024 < length (front ++ begins.more) =
    omega (arith, length-append front begins.more) in
    grind (arith, nat_tests, stays_bad, append_assoc {A = ℕ})

-- The end

-- a line that isn't empty ends with the text
pub end_line : (inside opened : ReaderState) (empty : Bool) → inside ≡ opened
    → IsOpenLine opened.line → empty ≡ (length inside.line == 0) → empty ≡ false
    → judging_after_rest opened [] ≡ judging_at_end
    (capture_after_line (Ok opened.reading) opened.line)
end_line inside opened empty same h is some =
    grind (arith, nat_tests, lines_last, append-nil {A = ℕ})

-- From a reader

-- a reader of which these bytes were read, behind those before
pub record IsReadOf (form : CaptureForm) (odd : Odd) (before after : Option (List ℕ))
    (opened : ReaderState) : Type 0 where
  pub bytes : List ℕ
  pub consumes : Consumes before after bytes
  pub judged : (rest : List ℕ) → capture_judged form odd (bytes ++ rest)
      ≡ judging_after_rest opened rest

-- one more piece
pub read_more : (form : CaptureForm) (odd : Odd) (before mid after : Option (List ℕ))
    (old new : ReaderState) (piece : List ℕ) → IsReadOf form odd before mid old
    → Consumes mid after piece
    → ((rest : List ℕ) → judging_after_rest new rest ≡ judging_after_rest old (piece ++ rest))
    → IsReadOf form odd before after new
read_more form odd before mid after old new piece was taken good = record {
  bytes = was.bytes ++ piece;
  consumes = Consumes-trans before mid after was.bytes piece was.consumes taken;
  judged = λ rest. grind (arith, append_assoc {A = ℕ}, was.judged (piece ++ rest), good rest);
}
