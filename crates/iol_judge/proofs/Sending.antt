-- Which segments of an answer were sent, once a device worked a read.
-- For the clauses of `laws::honest_lines_are_never_blamed`.
use Rattle.std.proofs.lemmas.Grind.{common_steps}
use Rattle.std.proofs.Common.{◌≡◌, ℕ, ◌+◌, ◌*◌, ◌%◌, ◌<◌, ◌≤◌, max, ⊎_elim, Bool, true, false, List, [], ◌∷◌, length, refl, sym, ◌∙◌, ap, arith, inl, inr, eqb-true}
use Rattle.std.specs.Prelude.{min, Option, Some, not, ◌&&◌, ◌==◌, if◌then◌else◌, slice_index, nat_lt, IsTrue}
use Rattle.std.proofs.lemmas.Bool.{cases_lt, ltb-true, ltb-false, true≢false}
use Rattle.std.proofs.lemmas.Bool.Decides.{nat_tests}
use Rattle.std.proofs.Math.Nat.{mul-le-mul_right}
use Rattle.iol_octets.specs.declared.flow_control.Flow.{Flow}
use Rattle.iol_octets.specs.declared.flow_control.Flow.TheVariants.{Start, Count}
use Rattle.iol_isdu.specs.declared.values.Request.{Request}
use Rattle.iol_isdu.specs.declared.values.Answer.{Answer}
use Rattle.iol_isdu.specs.Answers.{is_read}
use Rattle.iol_segment.specs.Cut.{SegmentsHaveSize}
use Rattle.iol_segment.specs.TextLaws.{TextLaws}
use Rattle.iol_far.specs.Isdu.{IsduState, Empty, Answered, answer_text_to, fits, has_segment, isdu_read, remaining_isdu}
use Rattle.iol_far.specs.declared.kind.Kind.{Kind}
use Rattle.iol_far.specs.declared.kind.HandsOver.{HandsOver}
use Rattle.iol_far.specs.declared.kind.Recalls.{Recalls}
use Rattle.iol_far.specs.declared.kind.Recalls.TheVariants.{UntilLeft, UntilSent}
use Rattle.iol_far.specs.Far.{Far, layout_of}
use Rattle.iol_far.specs.Laws.{ModesHaveLayouts}
use Rattle.iol_far.specs.SegmentLaws.{AnswersFit, SegmentLaws}
use Rattle.iol_judge.specs.declared.answer.Look.TheVariants.{Padding}
use Rattle.iol_judge.specs.declared.answer.TheConstants.{LONGEST_ANSWER}
use Rattle.iol_judge.specs.declared.partial.Further.{Further}
use Rattle.iol_judge.specs.declared.partial.Further.TheVariants.{GoesOn, MayEnd, Ends}
use Rattle.iol_judge.specs.declared.partial.PartialAnswer.{PartialAnswer}
use Rattle.iol_judge.specs.declared.transfer.Transfer.{Transfer}
use Rattle.iol_judge.specs.declared.transfer.Transfer.TheVariants as known
use Rattle.iol_judge.specs.Answers.{has_answer, is_next_count, unread_answer, reaching, was_sent}
use Rattle.iol_judge.specs.Transfers.{answered_read, first_resent, further, goes_further, or_ended, resent, while_further}
use Rattle.iol_judge.specs.UnderWay.{AreObserved, IsUnderWay, IsAnswered}
use Rattle.iol_judge.proofs.Known.{is_found, longest, nothing_agrees, nothing_long}

-- Which segments were sent, once a device worked a read

-- what the crates below say of the segments of a text
pub record AreTexts (size : ℕ) : Type 0 where
  pub some : 1 ≤ size
  pub texts : TextLaws size
  pub sized : SegmentsHaveSize
  pub fitting : AnswersFit

-- in whatever layout a device speaks
abbrev pub AllTexts : Type 0
AllTexts = (device : Far) → AreTexts (layout_of device).od

pub texts_of : ModesHaveLayouts → ((size : ℕ) → 1 ≤ size → TextLaws size)
    → ((size : ℕ) → 1 ≤ size → SegmentLaws size) → SegmentsHaveSize → AllTexts
texts_of modes texts requests sized device = grind (arith, common_steps)

-- a text whose first octet is as an answer's has octets
pub has_octets : (text : List ℕ) → 2 ≤ slice_index text 0 → 0 < length text
has_octets [] h = absurd (omega arith)
has_octets (x ∷ text) h = omega arith

-- the first segment was sent, and none was had
pub none_holds : (size : ℕ) (law : AreTexts size) (read : Bool) (request : Request)
    (answer : Answer) → IsTrue (fits request answer)
    → AreObserved size (unread_answer read) (answer_text_to request answer) 0
none_holds size law read request answer fit =
    let some = has_octets (answer_text_to request answer)
    (law.texts.begins (is_read request) answer (law.fitting request answer fit)) in
    record {
      octets = nothing_agrees (answer_text_to request answer);
      places = nothing_long;
      begun = some;
      within = omega (arith, some);
      at = omega arith;
      count = refl;
    }

-- the COUNT behind another
counted_up : (sent : ℕ) → ((sent % 16 + 1) % 16) ≡ ((sent + 1) % 16)
counted_up sent = grind (arith, nat_tests)

above_zero : (size : ℕ) → 1 ≤ size → (sent at : ℕ) → at ≡ sent * size → nat_lt 0 at ≡ nat_lt 0 sent
above_zero size some sent at e = grind (arith, common_steps)

by_lt : (a b : ℕ) → (b ≤ a → ⊥) → a < b
by_lt a b never = ⊎_elim (λ lt. lt) (λ le. absurd (never le)) (cases_lt a b)

by_le : (a b : ℕ) → (a < b → ⊥) → b ≤ a
by_le a b never = ⊎_elim (λ lt. absurd (never lt)) (λ le. le) (cases_lt a b)

-- of two segments
pub same_by : (size : ℕ) → 1 ≤ size → (a b : ℕ) → a * size ≡ b * size → a ≡ b
same_by size some a b h = grind (arith, common_steps, by_le, mul-le-mul_right)

max_below : (a b n : ℕ) → a < n → b < n → max a b < n
max_below a b n h k = grind (arith, common_steps)

min_above : (a b n : ℕ) → n ≤ a → n ≤ b → n ≤ min a b
min_above a b n h k = grind (arith, common_steps)

module _ (size : ℕ) (law : AreTexts size) (request : Request) (answer : Answer)
    (partial : PartialAnswer)
    (sent : ℕ) (read : is_read request ≡ partial.read) (fit : IsTrue (fits request answer))
    (are : AreObserved size partial (answer_text_to request answer) sent) where
  abbrev its_text : List ℕ
  its_text = answer_text_to request answer

  -- some answer has the octets had: the device's
  found : (above most : ℕ) → above < length its_text → length its_text ≤ most
      → has_answer Padding partial.read partial.octets above most ≡ true
  found above most low high =
      let fits = law.fitting request answer fit in
      rw (← read) (is_found (is_read request) its_text
      (law.texts.answers (is_read request) answer fits)
      (law.texts.accepted (is_read request) answer fits) partial.octets are.octets are.places
      above most
      low high)

  most : length its_text ≤ LONGEST_ANSWER
  most =
      let fits = law.fitting request answer fit in
      longest (is_read request) its_text (law.texts.answers (is_read request) answer fits)
      (law.texts.accepted (is_read request) answer fits)

  -- this segment was sent
  sent_at : (number at count : ℕ) → number * size < length its_text → at ≡ number * size
      → count ≡ number % 16 → IsAnswered size (record partial { at = at; count = count })
      (Answered request answer (Some number))
  sent_at number at count within e f = (
    read,
    fit,
    record {
      octets = are.octets;
      places = are.places;
      begun = are.begun;
      within = within;
      at = e;
      count = f;
    },
  )

  -- and the text has one there
  reaches : (recorded : PartialAnswer) (number place : ℕ) → place < length its_text
      → IsAnswered size recorded (Answered request answer (Some number))
      → IsAnswered size (reaching place recorded) (Answered request answer (Some number))
  reaches recorded number place there h =
      let partial = h.2 in (
        h.0,
        h.1,
        record {
          octets = partial.octets;
          places = partial.places;
          begun = max_below recorded.begun place (length its_text) partial.begun there;
          within = partial.within;
          at = partial.at;
          count = partial.count;
        },
      )

  counts : ((partial.count + 1) % 16) ≡ ((sent + 1) % 16)
  counts = let count = are.count in ap (λ c. (c + 1) % 16) count ∙ counted_up sent

  -- whether there is a next segment is as the octets had say
  Shows : Further → Type 0
  Shows GoesOn = (sent + 1) * size < length its_text
  Shows MayEnd = Unit {0}
  Shows Ends = length its_text ≤ (sent + 1) * size

  further_shows : Shows (further partial (partial.at + size))
  unfolding Shows
  further_shows =
      let next = partial.at + size in
      let place : next ≡ (sent + 1) * size = omega (arith, are.at) in
      let more = has_answer Padding partial.read partial.octets (max partial.begun next)
      LONGEST_ANSWER in
      let ends = has_answer Padding partial.read partial.octets partial.begun
      (min next LONGEST_ANSWER) in
      split more ends place refl refl
    where
      split : (more ends : Bool) → partial.at + size ≡ (sent + 1) * size
          → has_answer Padding partial.read partial.octets
          (max partial.begun (partial.at + size)) LONGEST_ANSWER
          ≡ more
          → has_answer Padding partial.read partial.octets partial.begun
          (min (partial.at + size) LONGEST_ANSWER)
          ≡ ends
          → Shows (if not more then Ends else if ends then MayEnd else GoesOn)
      split false ends place e f = by_le _ _ (λ lt. true≢false (sym (found _ LONGEST_ANSWER
          (max_below partial.begun (partial.at + size) (length its_text) are.begun
          (omega (arith, place)))
          most) ∙ e))
      split true true place e f = tt
      split true false place e f = by_lt _ _ (λ le. true≢false (sym (found partial.begun _ are.begun
          (min_above (partial.at + size) LONGEST_ANSWER (length its_text) (omega (arith, place))
          most))
          ∙ f))

  module _ (hands_over : HandsOver) (counted : Option ℕ) where
    abbrev its_state : IsduState
    its_state = Answered request answer (Some sent)

    -- with the next segment sent, where it is asked for and there is one
    abbrev next_if : Bool → IsduState
    next_if asked = if (asked && has_segment size its_text (sent + 1))
        then Answered request answer (Some (sent + 1)) else Empty

    abbrev partial_next : ℕ → PartialAnswer
    partial_next count = record partial { at = partial.at + size; count = count }

    -- what holds behind a read under COUNT, of the segment sent last or of the next
    abbrev Goes : Recalls → ℕ → Bool → Bool → Type 0
    Goes recalls count was next = IsUnderWay hands_over counted size
        (if was then resent recalls size partial partial else
        if next then goes_further (partial.at + size) partial (partial_next count) else known.Quiet)
        (isdu_read size (remaining_isdu recalls size its_state) (Count count))

    -- so this is held, where it holds while there is one
    goes_on : (recorded : PartialAnswer) (number : ℕ) → ((sent + 1) * size < length its_text
        → IsAnswered size recorded (Answered request answer (Some number)))
        → IsUnderWay hands_over counted size (goes_further (partial.at + size) partial recorded)
        (if has_segment size its_text (sent + 1) then Answered request answer (Some number)
        else Empty)
    unfolding Shows
    goes_on recorded number holds = split (further partial (partial.at + size)) further_shows
        (has_segment size its_text (sent + 1)) refl
      where
        there : (sent + 1) * size < length its_text → IsAnswered size
            (reaching (partial.at + size) recorded) (Answered request answer (Some number))
        there more = let at = are.at in
            reaches recorded number (partial.at + size) (omega arith) (holds more)

        split : (f : Further) → Shows f → (b : Bool)
            → nat_lt ((sent + 1) * size) (length its_text) ≡ b
            → IsUnderWay hands_over counted size
            (while_further f (reaching (partial.at + size) recorded))
            (if b then Answered request answer (Some number) else Empty)
        split GoesOn more true e = there more
        split GoesOn more false e = absurd (omega (arith, ltb-false _ _ e))
        split MayEnd more true e = inl (there (ltb-true _ _ e))
        split MayEnd more false e = inr refl
        split Ends more true e = absurd (omega (arith, ltb-true _ _ e))
        split Ends more false e = refl

    -- a segment is sent again
    resent_goes : (recalls : Recalls) (repeat : PartialAnswer) (number : ℕ)
        → IsAnswered size repeat (Answered request answer (Some number))
        → (next : IsduState → IsduState) → next its_state ≡ Answered request answer (Some number)
        → next Empty ≡ Empty
        → IsUnderWay hands_over counted size (resent recalls size partial repeat)
        (next (remaining_isdu recalls size its_state))
    resent_goes UntilLeft repeat number holds next e f = rw e holds
    resent_goes UntilSent repeat number holds next e f =
        rw (split (has_segment size its_text (sent + 1))) (goes_on repeat number (λ more. holds))
      where
        split : (b : Bool) → next (if b then its_state else Empty)
            ≡ (if b then Answered request answer (Some number) else Empty)
        split true = e
        split false = f

    -- a read under START
    start_goes : (recalls : Recalls)
        → IsUnderWay hands_over counted size (first_resent recalls size partial)
        (isdu_read size (remaining_isdu recalls size its_state) Start)
    start_goes recalls = resent_goes recalls (record partial { at = 0; count = 0 }) 0
        (sent_at 0 0 0 (let within = are.within in omega arith) (omega arith) refl)
        (λ (s : IsduState). isdu_read size s Start) refl refl

    -- a read under COUNT of another segment than that sent last
    sent_read : (recalls : Recalls) (count : ℕ) (b : Bool)
        → (nat_lt 0 sent && count == sent % 16) ≡ false → (count == (sent + 1) % 16) ≡ b
        → isdu_read size (remaining_isdu recalls size its_state) (Count count) ≡ next_if b
    sent_read recalls count b p q = grind (arith, common_steps)

    -- a read under COUNT
    pub count_goes : (recalls : Recalls) (count : ℕ)
        → IsUnderWay hands_over counted size (answered_read recalls size partial count)
        (isdu_read size (remaining_isdu recalls size its_state) (Count count))
    count_goes recalls count = rw (was, next)
        (going (nat_lt 0 sent && count == sent % 16) (count == (sent + 1) % 16) refl refl)
      where
        was : was_sent partial count ≡ (nat_lt 0 sent && count == sent % 16)
        was = rw (are.count, above_zero size law.some sent partial.at are.at) refl

        next : is_next_count partial count ≡ (count == (sent + 1) % 16)
        next = ap (λ c. count == c) counts

        going : (a b : Bool) → (nat_lt 0 sent && count == sent % 16) ≡ a
            → (count == (sent + 1) % 16) ≡ b → Goes recalls count a b
        going true b p q = resent_goes _ partial sent (read, fit, are)
            (λ (s : IsduState). isdu_read size s (Count count)) (rw p refl) refl
        going false true p q = rw (sent_read _ count true p q)
            (goes_on (partial_next count) (sent + 1) (λ more.
            let at = are.at in
            sent_at (sent + 1) (partial.at + size) count more (omega arith) (eqb-true count _ q)))
        going false false p q = sent_read _ count false p q

-- how a device transfers: by its kind, with the COUNT that it keeps of the last write, and in
-- segments of this size
pub record Manner : Type 0 where
  pub kind : Kind
  pub counted : Option ℕ
  pub size : ℕ
  pub law : AreTexts size

abbrev pub manner : (far : Far) → AreTexts (layout_of far).od → Manner
manner far law =
    record { kind = far.kind; counted = far.counted; size = (layout_of far).od; law = law }

-- the state is as known
abbrev pub Holds : Manner → Transfer → IsduState → Type 0
Holds by transfer state = IsUnderWay by.kind.hands_over by.counted by.size transfer state

-- the state once a read was worked
abbrev pub read_by : Manner → IsduState → Flow → IsduState
read_by by state flow = isdu_read by.size (remaining_isdu by.kind.recalls by.size state) flow

-- what a device knows that has sent nothing of an answer, stays
abbrev pub Unsent : IsduState → Type 0
Unsent (Answered request answer (Some sent)) = ⊥
Unsent state = Unit {0}

pub stays : (recalls : Recalls) (size : ℕ) (state : IsduState) → Unsent state
    → remaining_isdu recalls size state ≡ state
stays UntilSent size (Answered request answer (Some sent)) u = absurd u
stays recalls size state u = refl

module _ (by : Manner) where
  pub answered_start : (partial : PartialAnswer) (state : IsduState)
      → IsAnswered by.size partial state
      → Holds by (first_resent by.kind.recalls by.size partial) (read_by by state Start)
  answered_start partial state h = grind (arith, common_steps, start_goes)

  pub answered_count : (partial : PartialAnswer) (state : IsduState) (count : ℕ)
      → IsAnswered by.size partial state
      → Holds by (answered_read by.kind.recalls by.size partial count)
      (read_by by state (Count count))
  answered_count partial state count h = grind (arith, common_steps, count_goes)

  -- or the answer had ended before
  pub still_goes : (transfer : Transfer) (state : IsduState) → Holds by transfer state
      → Holds by (or_ended transfer) state
  still_goes (known.Answered partial) state h = inl h
  still_goes transfer state h = h

  further_ended : (f : Further) (partial : PartialAnswer)
      → Holds by (or_ended (while_further f partial)) Empty
  further_ended Ends partial = refl
  further_ended f partial = inr refl

  pub resent_ended : (recalls : Recalls) (partial repeat : PartialAnswer)
      → Holds by (or_ended (resent recalls by.size partial repeat)) Empty
  resent_ended UntilLeft partial repeat = inr refl
  resent_ended UntilSent partial repeat = further_ended _ (reaching (partial.at + by.size) repeat)

  pub partial_ended : (partial : PartialAnswer) (count : ℕ)
      → Holds by (or_ended (answered_read by.kind.recalls by.size partial count)) Empty
  partial_ended partial count = grind (arith, common_steps, resent_ended, further_ended)

  -- a segment isn't read of a state that has sent none
  pub none_read : (state : IsduState) (count : ℕ) → Unsent state
      → read_by by state (Count count) ≡ Empty
  none_read (Answered request answer (Some sent)) count u = absurd u
  none_read state count u = rw (stays _ _ state u) refl
