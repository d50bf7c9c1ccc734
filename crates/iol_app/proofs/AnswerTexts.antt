-- What octets say of the answer whose text they are, or begin with.
-- For the clauses of `laws::text_names_its_answer`.
use Rattle.std.proofs.Common.{◌≡◌, ◌⊎◌, inl, inr, ℕ, zero, suc, ◌+◌, ◌-◌, ◌*◌, Bool, true, ◌&&◌, List, [], ◌++◌, length, take, drop, refl, sym, ◌∙◌, ap, arith, append_assoc}
use Rattle.std.specs.Prelude.{nat_le, replicate}
use Rattle.std.proofs.lemmas.List.{length-append, length-take-le, take-append-drop, take-append-le, append-nil}
use Rattle.std.proofs.Math.Nat.{suc-mul}
use native.Mathlib.Decide.{dec_le}
use Rattle.std.proofs.Math.Seq.{drop-append_seam, take-append-add}
use Rattle.std.proofs.lemmas.Grind.{common_steps}
use Rattle.iol_isdu.specs.declared.values.Answer.{Answer}
use Rattle.iol_isdu.specs.Answers.{is_read, answer_body, IsAnswerText}
use Rattle.iol_isdu.specs.Texts.{FitsAnswer}
use Rattle.iol_isdu.specs.Laws.{OneAnswerInFront, OneAnswerText}
use Rattle.iol_segment.specs.Cut.{segment}
use Rattle.iol_segment.specs.TextLaws.{segments_up_to}
use Rattle.iol_far.specs.Isdu.{is_kind, answer_text_to}
use Rattle.iol_app.specs.Exchange.{TextNamesAnswer}

-- the first octets of a text that is filled up: a part of it, or all of it and more
abbrev Filled : ℕ → List ℕ → List ℕ → Type 0
Filled size text part =
    ((more : List ℕ) × (text ≡ part ++ more) × (length part ≡ size))
    ⊎ ((fill : List ℕ) × (part ≡ text ++ fill))

filled : (size : ℕ) (text fill : List ℕ) → Filled size text (take size (text ++ fill))
filled size text fill = elim (dec_le size (length text)) [
  | yes h ↦ inl (
    drop size text,
    rw (take-append-le size text fill h, take-append-drop) refl,
    rw (take-append-le size text fill h) (length-take-le size text h),
  )
  | no h ↦ inr (
    take (size - length text) fill,
    (let is : size ≡ length text + (size - length text) = omega arith in
        ap (λ (n : ℕ). take n (text ++ fill)) is
        ∙ take-append-add text fill (size - length text)),
  )
]

segment_filled : (size : ℕ) (text front more : List ℕ) (i : ℕ) → text ≡ front ++ more
    → length front ≡ i * size → Filled size more (segment size text i)
unfolding segment
segment_filled size text front more i is long =
    rw (is, ← long, drop-append_seam front more) (filled size more (replicate size 0))

-- the segments up to the i-th are a part of the text, or all of it and more
joined_filled : (size : ℕ) (text : List ℕ) (i : ℕ)
    → Filled (suc i * size) text (segments_up_to size text i)
joined_filled size text zero =
    let one : 1 * size ≡ size = omega arith in
    rw one (segment_filled size text [] text 0 refl (omega arith))
joined_filled size text (suc i) = next (joined_filled size text i)
  where
    front : List ℕ
    front = segments_up_to size text i

    part : List ℕ
    part = segment size text (suc i)

    by_part : (more : List ℕ) → text ≡ front ++ more → length front ≡ suc i * size
        → Filled size more part → Filled (suc (suc i) * size) text (front ++ part)
    by_part more is long (inl h) = inl (
      h.0,
      rw (append_assoc, ← h.1) is,
      rw (length-append, long, h.2) (sym (suc-mul (suc i) size)),
    )
    by_part more is long (inr h) = inr (h.0, rw (h.1, ← append_assoc, ← is) refl)

    next : Filled (suc i * size) text front → Filled (suc (suc i) * size) text (front ++ part)
    next (inl h) = by_part h.0 h.1 h.2 (segment_filled size text front h.0 (suc i) h.1 h.2)
    next (inr h) = inr (h.0 ++ part, rw (h.1, append_assoc) refl)

-- an answer that fits is one that its type holds
fits_answer : (read : Bool) (answer : Answer)
    → (is_kind read answer && nat_le (length (answer_body answer)) 232) ≡ true
    → FitsAnswer read answer
fits_answer read answer e = grind (arith, common_steps)

pub text_names : OneAnswerInFront → OneAnswerText → TextNamesAnswer
text_names front each size request i octets answer begins other fitting is =
    let read = is_read request in
    let text : List ℕ = answer_text_to request other in
    let spells = (each read other (fits_answer read other fitting) text).1 refl in
    by_part text spells (joined_filled size text i) is
  where
    by_part : (text : List ℕ) → IsAnswerText (is_read request) other text
        → Filled (suc i * size) text (segments_up_to size text i)
        → octets ≡ segments_up_to size text i
        → other ≡ answer
    by_part text spells (inl h) same =
        (front (is_read request) other answer text begins.text [] (begins.rest ++ h.0) spells
        begins.spells (rw (append-nil, h.1, ← same, begins.whole, append_assoc) refl)).1
    by_part text spells (inr h) same =
        (front (is_read request) other answer text begins.text h.0 begins.rest spells
        begins.spells (rw (← h.1, ← same, begins.whole) refl)).1
