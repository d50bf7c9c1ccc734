-- What is known of an ISDU transfer holds once a device worked a message.
-- For the clauses of `laws::honest_lines_are_never_blamed`.
use Rattle.std.proofs.lemmas.Grind.{common_steps}
use Rattle.std.proofs.Common.{◌≡◌, inl, inr, ℕ, zero, suc, Bool, true, false, List, refl, ap, ◌⊎◌, arith}
use Rattle.std.specs.Prelude.{Option, Some, None, ◌==◌, if◌then◌else◌, ◌++◌, IfSome, IsTrue}
use Rattle.iol_octets.specs.declared.flow_control.Flow.TheVariants.{Start, Count}
use Rattle.iol_isdu.specs.declared.values.Request.{Request}
use Rattle.iol_segment.specs.Join.{Stage, next_count, is_last}
use Rattle.iol_far.specs.Isdu.{IsduState, Empty, Receiving, Whole, Handed, Answered, fits, isdu_written, isdu_read, remaining_isdu, handed_over, written_over, written_by, counted_by}
use Rattle.iol_far.specs.Isdu as far
use Rattle.iol_far.specs.declared.kind.HandsOver.{HandsOver}
use Rattle.iol_far.specs.declared.kind.HandsOver.TheVariants.{FirstRead, LastSegment}
use Rattle.iol_far.specs.declared.kind.Recalls.{Recalls}
use Rattle.iol_judge.specs.declared.partial.PartialAnswer.{PartialAnswer}
use Rattle.iol_judge.specs.declared.transfer.Transfer.{Transfer}
use Rattle.iol_judge.specs.declared.transfer.Transfer.TheVariants as known
use Rattle.iol_judge.specs.Transfers.{transfer_of_request, count_written, transfer_of_octets, transfer_at_stage, answered_read, asked_repeated, count_read, is_quiet, or_ended, start_read, transfer_after, transfer_on, transfer_unknown, whole_read, apart, is_apart}
use Rattle.iol_judge.specs.Admitted.{One}
use Rattle.iol_judge.specs.UnderWay.{IsCounted, IsUnderWay, IsHanded, IsAnswerAsked, IsAnswered, IsWhole}
use Rattle.iol_judge.proofs.Sets.{asked_covers}
use Rattle.iol_octets.specs.declared.control.Channel.{Channel}
use Rattle.iol_octets.specs.declared.control.Channel.TheVariants.{Isdu}
use Rattle.iol_octets.specs.declared.flow_control.Flow.{Flow}
use Rattle.iol_isdu.specs.declared.values.Answer.{Answer}
use Rattle.iol_isdu.specs.Answers.{is_read}
use Rattle.iol_far.specs.declared.kind.Kind.{Kind}
use Rattle.iol_far.specs.Far.{isdu_after, counted_after}
use Rattle.iol_judge.specs.Answers.{unread_answer}
use Rattle.iol_judge.proofs.Sending.{AreTexts, Holds, Manner, Unsent, resent_ended, answered_count, answered_start, partial_ended, none_holds, none_read, read_by, stays, still_goes}

-- A write

-- the COUNT of a write that comes again is kept
counted_same : (last : Option ℕ) (count : ℕ) → is_last last count ≡ true → Some count ≡ last
counted_same last count e = grind (arith, common_steps)

-- a request that is whole is handed over with its last segment, or stays
abbrev left_by : HandsOver → IsduState → IsduState
left_by FirstRead state = state
left_by LastSegment state = handed_over state

module _ (by : HandsOver) (counted : Option ℕ) (size : ℕ) where
  completed_under_way : (request : Option Request) (last : Option ℕ) → IsCounted by counted last
      → IsUnderWay by counted size (transfer_of_request request last)
      (left_by by (far.whole_or_empty request last))
  completed_under_way request last e = grind (arith, common_steps)

  received_under_way : (found : Stage) (octets : List ℕ) (last : Option ℕ)
      → IsCounted by counted last → IsUnderWay by counted size
      (transfer_at_stage found octets last) (left_by by (far.received_at found octets last))
  received_under_way found octets last e = grind (arith, common_steps, completed_under_way)

  -- a text goes on, by a segment under a COUNT
  goes_on : (text octets : List ℕ) (last : Option ℕ) (count : ℕ) (same next : Bool)
      → IsCounted by counted (Some count) → IsUnderWay by counted size
      (if same then known.Receiving (record { items = text }) last else if next then
      transfer_of_octets
      (text ++ octets) (Some count) else known.Quiet) (left_by by (if same then Receiving text last
      else if next then far.isdu_with_octets (text ++ octets) (Some count) else Empty))
  goes_on text octets last count same next e = grind (arith, common_steps, received_under_way)

  pub start_under_way : (state : IsduState) (octets : List ℕ)
      → IsUnderWay by (counted_by by counted Start) size
      (transfer_of_octets octets None) (written_by by counted state Start octets)
  start_under_way state octets = grind (arith, common_steps)

-- what is left of an answer doesn't matter to a write
pub recalled_written : (recalls : Recalls) (size : ℕ) (hands_over : HandsOver) (counted : Option ℕ)
    (state : IsduState) (count : ℕ) (octets : List ℕ)
    → written_by hands_over counted (remaining_isdu recalls size state) (Count count) octets
    ≡ written_by hands_over counted state (Count count) octets
recalled_written recalls size hands_over counted state count octets = grind (arith, common_steps)

-- what a write under its COUNT keeps
repeat_preserves : (by : HandsOver) (now : Option ℕ) (size : ℕ) (here : Transfer)
    (state : IsduState)
    (counted last : Option ℕ) (count : ℕ) → counted ≡ last
    → (is_last last count ≡ true → IsUnderWay by now size here state)
    → IsUnderWay by now size (if is_last last count then here else known.Quiet)
    (if is_last counted count then state else Empty)
repeat_preserves by now size here state counted last count same preserves =
    grind (arith, common_steps)

module _ (counted : Option ℕ) (size count : ℕ) (octets : List ℕ) where
  -- a write under COUNT leaves nothing of a request that was handed over at the first read
  abbrev Writes : IsduState → Type 0
  Writes state = isdu_written state (Count count) octets ≡ Empty

  asked_written : (read : Bool) (last : Option ℕ) (state : IsduState)
      → IsAnswerAsked FirstRead counted read last state → Writes state
  asked_written read last state h = grind (arith, common_steps)

  answered_written : (partial : PartialAnswer) (state : IsduState) → IsAnswered size partial state
      → Writes state
  answered_written partial state h = grind (arith, common_steps)

  count_first : (transfer : Transfer) (state : IsduState)
      → IsUnderWay FirstRead counted size transfer state → IsUnderWay FirstRead counted size
      (count_written FirstRead transfer count octets) (isdu_written state (Count count) octets)
  count_first known.Quiet state h = ap (λ (s : IsduState). isdu_written s (Count count) octets) h
  count_first (known.Receiving text last) state h = rw h (goes_on FirstRead counted size text.items
      octets last count (is_last last count) (count == next_count last) tt)
  count_first (known.Whole read last) (Whole request a) h = repeat_preserves FirstRead counted size
      (known.Whole read last) (Whole request a) a last count h.1 (λ e. h)
  count_first (known.Handed read last) state h =
      asked_written read last state (asked_covers FirstRead counted read last state h)
  count_first (known.Asked read last) state h = asked_written read last state h
  count_first (known.Answered partial) state h = answered_written partial state h
  count_first (known.Perhaps partial) state h = elim h [
    | inl is ↦ answered_written partial state is
    | inr none ↦ ap (λ (s : IsduState). isdu_written s (Count count) octets) none
  ]
  count_first known.Free state h = tt
  count_first transfer state h = absurd h

  -- where it was handed over at the last segment, that one may come again
  abbrev Repeats : Transfer → IsduState → Option ℕ → Type 0
  Repeats here state last = IsUnderWay LastSegment (Some count) size
      (if is_last last count then here else known.Quiet)
      (written_over counted state (Count count) octets)

  handed_repeat : (here : Transfer) (read : Bool) (last : Option ℕ) → ((s : IsduState) → IsHanded
      LastSegment (Some count) read last s → IsUnderWay LastSegment (Some count) size here s)
      → (state : IsduState) → IsHanded LastSegment counted read last state → Repeats here state last
  handed_repeat here read last preserves state h =
      grind (arith, common_steps, repeat_preserves, counted_same)

  asked_over : (read : Bool) (last : Option ℕ) (state : IsduState)
      → IsAnswerAsked LastSegment counted read last state → Repeats known.Free state last
  asked_over read last state h = grind (arith, common_steps, handed_repeat)

  answered_over : (partial : PartialAnswer) (state : IsduState) → IsAnswered size partial state
      → written_over counted state (Count count) octets ≡ Empty
  answered_over partial state h = grind (arith, common_steps)

  count_last : (transfer : Transfer) (state : IsduState)
      → IsUnderWay LastSegment counted size transfer state
      → IsUnderWay LastSegment (Some count) size (count_written LastSegment transfer count octets)
      (written_over counted state (Count count) octets)
  count_last known.Quiet state h =
      ap (λ (s : IsduState). written_over counted s (Count count) octets) h
  count_last (known.Receiving text last) state h = rw h (goes_on LastSegment (Some count) size
      text.items octets last count (is_last last count) (count == next_count last) refl)
  count_last (known.Whole read last) state h = handed_repeat _ read last (λ s k. k) state h
  count_last (known.Handed read last) state h = handed_repeat _ read last (λ s k. k) state h
  count_last (known.Asked read last) state h = asked_over read last state h
  count_last (known.Answered partial) state h = answered_over partial state h
  count_last (known.Perhaps partial) state h = elim h [
    | inl is ↦ answered_over partial state is
    | inr none ↦ ap (λ (s : IsduState). written_over counted s (Count count) octets) none
  ]
  count_last known.Free state h = tt

pub count_under_way : (hands_over : HandsOver) (counted : Option ℕ) (size : ℕ) (transfer : Transfer)
    (state : IsduState) (count : ℕ) (octets : List ℕ) → IsUnderWay hands_over counted size transfer
    state → IsUnderWay hands_over (counted_by hands_over counted (Count count)) size (count_written
    hands_over transfer count octets) (written_by hands_over counted state (Count count) octets)
count_under_way hands_over counted size transfer state count octets h =
    grind (arith, common_steps, count_first, count_last)

-- A read under START, and under COUNT

pub unread_goes : (size : ℕ) → AreTexts size → (read : Bool) (request : Request) (answer : Answer)
    → is_read request ≡ read → IsTrue (fits request answer)
    → IsAnswered size (unread_answer read) (Answered request answer (Some 0))
unread_goes size law read request answer is fit =
    (is, fit, none_holds size law read request answer fit)

handed_unsent : (hands_over : HandsOver) (counted : Option ℕ) (read : Bool) (last : Option ℕ)
    (state : IsduState) → IsHanded hands_over counted read last state → Unsent state
handed_unsent hands_over counted read last state h = grind (arith, common_steps)

whole_unsent : (hands_over : HandsOver) (counted : Option ℕ) (read : Bool) (last : Option ℕ)
    (state : IsduState) → IsWhole hands_over counted read last state → Unsent state
whole_unsent hands_over counted read last state h = grind (arith, common_steps, handed_unsent)

asked_start : (hands_over : HandsOver) (counted : Option ℕ) (recalls : Recalls) (size : ℕ)
    (read : Bool) (last : Option ℕ) (state : IsduState)
    → IsAnswerAsked hands_over counted read last state
    → IsUnderWay hands_over counted size (asked_repeated recalls read last)
    (isdu_read size (remaining_isdu recalls size state) Start)
asked_start hands_over counted recalls size read last state h = grind (arith, common_steps)

module _ (by : Manner) where
  handed_start : (hands_over : HandsOver) (read : Bool) (last : Option ℕ) (state : IsduState)
      → IsHanded hands_over by.counted read last state
      → IsUnderWay hands_over by.counted by.size (known.Asked read last) (read_by by state Start)
  handed_start hands_over read last state h = grind (arith, common_steps)

  whole_start : (hands_over : HandsOver) (read : Bool) (last : Option ℕ) (state : IsduState)
      → IsWhole hands_over by.counted read last state → IsUnderWay hands_over by.counted by.size
      (whole_read hands_over read last) (read_by by state Start)
  whole_start hands_over read last state h = grind (arith, common_steps, handed_start)

  -- of an answer that may have ended before
  perhaps_goes : (transfer : Transfer) (flow : Flow) (partial : PartialAnswer) (state : IsduState)
      → Holds by (or_ended transfer) Empty → isdu_read by.size Empty flow ≡ Empty
      → (IsAnswered by.size partial state → Holds by transfer (read_by by state flow)) → IsAnswered
      by.size partial state ⊎ (state ≡ Empty) → Holds by (or_ended transfer) (read_by by state flow)
  perhaps_goes transfer flow partial state ended empty goes h =
      grind (arith, common_steps, still_goes)

  asked_count : (read : Bool) (last : Option ℕ) (state : IsduState) (count : ℕ)
      → IsAnswerAsked by.kind.hands_over by.counted read last state
      → Holds by (or_ended (answered_read by.kind.recalls by.size (unread_answer read) count))
      (read_by by state (Count count))
  asked_count read last (Answered request answer (Some zero)) count h = still_goes by _ _
      (answered_count by (unread_answer read) (Answered request answer (Some 0)) count
      (unread_goes by.size by.law read request answer h.0 h.1))
  asked_count read last (Answered request answer (Some (suc sent))) count h = absurd h
  asked_count read last state count h =
      rw (none_read by state count (handed_unsent by.kind.hands_over by.counted read last state h))
      (partial_ended by (unread_answer read) count)

  start_read_under_way : (transfer : Transfer) (state : IsduState) → Holds by transfer state
      → Holds by (start_read by.kind by.size transfer) (read_by by state Start)
  start_read_under_way known.Quiet state h = rw (h, stays _ _ Empty tt) refl
  start_read_under_way (known.Receiving text last) state h = rw (h, stays _ _ _ tt) refl
  start_read_under_way (known.Whole read last) state h = whole_start _ read last state h
  start_read_under_way (known.Handed read last) state h = handed_start _ read last state h
  start_read_under_way (known.Asked read last) state h = asked_start _ _ _ _ read last state h
  start_read_under_way (known.Answered partial) state h = answered_start by partial state h
  start_read_under_way (known.Perhaps partial) state h =
      perhaps_goes _ Start partial state (resent_ended by _ partial _) refl
      (answered_start by partial state) h
  start_read_under_way known.Free state h = tt

  count_read_under_way : (transfer : Transfer) (state : IsduState) (count : ℕ)
      → Holds by transfer state → Holds by (count_read by.kind.recalls by.size transfer count)
      (read_by by state (Count count))
  count_read_under_way known.Quiet state count h = rw h (none_read by Empty count tt)
  count_read_under_way (known.Receiving text last) state count h =
      rw h (none_read by (Receiving text.items last) count tt)
  count_read_under_way (known.Whole read last) state count h =
      none_read by state count (whole_unsent by.kind.hands_over by.counted read last state h)
  count_read_under_way (known.Handed read last) state count h =
      none_read by state count (handed_unsent by.kind.hands_over by.counted read last state h)
  count_read_under_way (known.Asked read last) state count h = asked_count read last state count h
  count_read_under_way (known.Answered partial) state count h =
      answered_count by partial state count h
  count_read_under_way (known.Perhaps partial) state count h =
      perhaps_goes (answered_read by.kind.recalls by.size partial count) (Count count) partial state
      (partial_ended by partial count) refl (answered_count by partial state count) h
  count_read_under_way known.Free state count h = tt

-- A message

-- under neither START nor COUNT
abbrev IsOther : Flow → Type 0
IsOther Start = ⊥
IsOther (Count count) = ⊥
IsOther flow = Unit {0}

-- other writes leave nothing
other_written : (hands_over : HandsOver) (counted : Option ℕ) (state : IsduState) (flow : Flow)
    (octets : List ℕ) → IsOther flow → written_by hands_over counted state flow octets ≡ Empty
other_written hands_over counted state flow octets other = grind (arith, common_steps)

other_read : (size : ℕ) (state : IsduState) (flow : Flow) → IsOther flow
    → isdu_read size state flow ≡ Empty
other_read size state flow other = grind (arith, common_steps)

abbrev IsNoStart : Bool → Flow → Type 0
IsNoStart false Start = ⊥
IsNoStart read flow = Unit {0}

module _ (by : Manner) where
  -- the state once a message on the ISDU channel was worked
  abbrev after : Bool → IsduState → Bool → Flow → List ℕ → IsduState
  after knows state read flow octets =
      isdu_after by.kind by.counted knows by.size state Isdu read flow octets

  -- what was done to the device
  abbrev Works : Bool → Transfer → IsduState → Bool → Flow → List ℕ → Type 0
  Works knows transfer state read flow octets = IsUnderWay by.kind.hands_over
      (counted_after by.kind.hands_over by.counted knows Isdu read flow) by.size transfer
      (after knows state read flow octets)

  other_worked : (state : IsduState) (read : Bool) (flow : Flow) (octets : List ℕ) → IsOther flow
      → after true state read flow octets ≡ Empty
  other_worked state false flow octets other = other_written _ _ _ flow _ other
  other_worked state true flow octets other = other_read _ _ flow other

  on_worked : (transfer : Transfer) (state : IsduState) (read : Bool) (flow : Flow)
      (octets : List ℕ) → Holds by transfer state
      → Works true (transfer_on by.kind by.size transfer read flow octets) state read flow octets
  on_worked transfer state false Start octets h =
      start_under_way by.kind.hands_over by.counted by.size _ octets
  on_worked transfer state false (Count count) octets h =
      rw (recalled_written by.kind.recalls by.size by.kind.hands_over by.counted state count octets)
      (count_under_way by.kind.hands_over by.counted by.size transfer state count octets h)
  on_worked transfer state true Start octets h = start_read_under_way by transfer state h
  on_worked transfer state true (Count count) octets h =
      count_read_under_way by transfer state count h
  on_worked transfer state read flow octets h = other_worked state read flow octets tt

  -- of nothing comes nothing, but by a START write
  still_empty : (knows read : Bool) (flow : Flow) (octets : List ℕ) → IsNoStart read flow
      → after knows Empty read flow octets ≡ Empty
  still_empty knows read flow octets other =
      grind (arith, common_steps, none_read, recalled_written, other_worked)

  perhaps : (knows : Bool) (transfer : Transfer) (state : IsduState) (read : Bool) (flow : Flow)
      (octets : List ℕ) → IsNoStart read flow → Holds by transfer state
      → Works knows (if is_quiet transfer then known.Quiet else known.Free) state read flow octets
  perhaps knows transfer state read flow octets other h = grind (arith, common_steps, still_empty)

  unknown_worked : (knows : Bool) (transfer : Transfer) (state : IsduState) (read : Bool)
      (flow : Flow) (octets : List ℕ) → Holds by transfer state
      → Works knows (transfer_unknown transfer read flow) state read flow octets
  unknown_worked knows transfer state read flow octets h =
      grind (arith, common_steps, perhaps, other_worked)

  pub transfer_worked : (isdu : Option Bool) (knows : Bool) → IfSome isdu (λ b. knows ≡ b)
      → (transfer : Transfer) (state : IsduState) (channel : Channel) (read : Bool) (flow : Flow)
      (octets : List ℕ) → Holds by transfer state → IsUnderWay by.kind.hands_over
      (counted_after by.kind.hands_over by.counted knows channel read flow) by.size
      (transfer_after by.kind isdu by.size transfer channel read flow octets)
      (isdu_after by.kind by.counted knows by.size state channel read flow octets)
  transfer_worked (Some true) knows is transfer state Isdu read flow octets h =
      rw is (on_worked transfer state read flow octets h)
  transfer_worked (Some false) knows is transfer state Isdu read flow octets h = rw is refl
  transfer_worked None knows is transfer state Isdu read flow octets h =
      unknown_worked knows transfer state read flow octets h
  transfer_worked isdu knows is transfer state channel read flow octets h = h

-- Where a message tells no kinds of device apart, all do the same; and else one of the parts holds

pub alike_after : (a b : Kind) (isdu : Option Bool) (size : ℕ) (transfer : Transfer)
    (channel : Channel) (read : Bool) (flow : Flow) (octets : List ℕ)
    → is_apart transfer channel read flow ≡ false → transfer_after a isdu size transfer channel read
    flow octets ≡ transfer_after b isdu size transfer channel read flow octets
alike_after a b isdu size transfer channel read flow octets e = grind (arith, common_steps)

-- What a transfer is told apart into holds of one of the parts

abbrev pub OneUnderWay : HandsOver → Option ℕ → ℕ → List Transfer → IsduState → Type 0
OneUnderWay hands_over counted size transfers state =
    One (λ transfer. IsUnderWay hands_over counted size transfer state) transfers

module _ (hands_over : HandsOver) (counted : Option ℕ) (size : ℕ) (law : AreTexts size) where
  asked_apart : (read : Bool) (last : Option ℕ) (state : IsduState)
      → IsAnswerAsked hands_over counted read last state
      → IsHanded hands_over counted read last state
      ⊎ (IsAnswered size (unread_answer read) state ⊎ ⊥)
  asked_apart read last (Handed request) h = inl h
  asked_apart read last (Answered request answer None) h = inl h
  asked_apart read last (Answered request answer (Some zero)) h =
      inr (inl (unread_goes size law read _ _ h.0 h.1))
  asked_apart read last state h = absurd h

  pub apart_under_way : (transfer : Transfer) (state : IsduState) → IsUnderWay hands_over counted
      size transfer state → OneUnderWay hands_over counted size (apart transfer) state
  apart_under_way (known.Asked read last) state h = asked_apart read last state h
  apart_under_way transfer state h = inl h
