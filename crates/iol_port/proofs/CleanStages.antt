-- One turn brings a request one stage on.
-- For the clauses of `Port::run` and `PortCore::turn`.
use Rattle.std.proofs.Common.{◌≡◌, inl, inr, ℕ, zero, suc, ◌+◌, ◌*◌, ◌%◌, ◌<◌, ◌≤◌, Bool, true, false, ◌==◌, List, [], length, refl, sym, ap, ◌∙◌, arith, Option, Some, None, Ok, ◌++◌, subst}
use Rattle.std.proofs.lemmas.Grind.{common_steps}
use Rattle.std.specs.Prelude.{IsTrue, if◌then◌else◌, MatchBool}
use Rattle.std.proofs.lemmas.Bool.{cases_lt}
use Rattle.std.proofs.lemmas.Bool.Decides.{nat_tests}
use Rattle.std.proofs.lemmas.List.{length-append, append-nil}
use Rattle.std.proofs.Math.Numerals.{add-one}
use Rattle.iol_octets.specs.declared.flow_control.Flow.TheVariants.{Start, Count, Idle1}
use Rattle.iol_octets.specs.Flow.{flow_address}
use Rattle.iol_isdu.specs.declared.values.Request.{Request}
use Rattle.iol_isdu.specs.declared.values.Answer.{Answer}
use Rattle.iol_isdu.specs.Answers.{is_read}
use Rattle.iol_isdu.specs.Texts.{IsRequest, FitsAnswer, request_front, request_text, answer_front}
use Rattle.iol_segment.specs.Cut.{segment, segments, flow_at}
use Rattle.iol_segment.specs.Join.{empty, is_last, next_count}
use Rattle.iol_segment.specs.JoinLaws.{count_at, joiner_at, took_at}
use Rattle.iol_segment.specs.TextLaws.{TextLaws, HoldsLength, segments_up_to}
use Rattle.iol_far.specs.Codec.{flow_of}
use Rattle.iol_far.specs.declared.kind.Kind.{Kind}
use Rattle.iol_far.specs.declared.kind.HandsOver.{HandsOver}
use Rattle.iol_far.specs.declared.kind.HandsOver.TheVariants.{FirstRead, LastSegment}
use Rattle.iol_far.specs.declared.kind.Recalls.{Recalls}
use Rattle.iol_far.specs.declared.kind.Recalls.TheVariants.{UntilSent}
use Rattle.iol_far.specs.Isdu.{Receiving as TextSoFar, Whole, Handed, Answered, isdu_with_octets, isdu_read, answer_text_to, fits, handed_request, IsduState, isdu_data, remaining_isdu, written_by}
use Rattle.iol_far.specs.SegmentLaws.{SegmentLaws}
use Rattle.iol_app.specs.declared.event_work.EventRoom.{EventRoom}
use Rattle.iol_app.specs.declared.request.Current.{Current}
use Rattle.iol_app.specs.declared.request.RequestProgress.{RequestProgress}
use Rattle.iol_app.specs.declared.request.RequestProgress.TheVariants.{Sending, Asking, Receiving}
use Rattle.iol_app.specs.Requests.{current_after_segment, GoesOn, HasText, effect_of_segment, effect_of_start_read, effect_of_count_read, IsEffectReport, ReplyEffect, effect_of_reply, current_of_effect}
use Rattle.iol_app.specs.declared.report.Said.{Said}
use Rattle.iol_app.specs.declared.report.Said.TheVariants.{Answered as ReportAnswered, Busy as ReportBusy}
use Rattle.iol_port.specs.Turns.{current_at, RequestStage, Written, Waiting, Reading, Ended, busy_replies, turns_at, once_written, StageFits}
use Rattle.iol_page.specs.declared.page.Layouts.{Layouts}
use Rattle.iol_far.specs.declared.carried.Carried.{Carried}
use Rattle.iol_far.specs.Far.{Far, isdu_moved}
use Rattle.iol_far.specs.Record.{takes_more}
use Rattle.iol_far.specs.Local.{Carry, local, has_room, IsWorkedOff}
use Rattle.iol_far.specs.Level.{FarLink, grown_by}
use Rattle.iol_link.specs.WireFacts.{WireFacts}
use Rattle.iol_app.specs.Messages.{Head, progress_head, progress_data}
use Rattle.iol_app.specs.Core.{CoreState}
use Rattle.iol_port.specs.Clean.{CleanLaws, ExchangesCleanly, Stood, At}
use Rattle.iol_port.proofs.CleanSession.{IsTurn, SameBut, work_same, Turned, turned}

-- Numbers of segments

-- a segment that begins within a text is one of its segments
pub segment_within : {size : ℕ} → TextLaws size → (text : List ℕ) (i : ℕ)
    → i * size < length text → i < segments size text
segment_within laws text i begins = grind (arith, laws.past text i)

segments_last : {size : ℕ} → TextLaws size → (text : List ℕ) (i : ℕ)
    → i * size < length text → length text ≤ suc i * size → segments size text ≡ suc i
segments_last laws text i begins ends =
    grind (arith, laws.past text i, laws.within text (suc i))

text_some : (request : Request) (size : ℕ) → 0 * size < length (request_text request)
text_some request size = omega (arith, length-append (request_front request))

answer_some : (request : Request) (answer : Answer) (size : ℕ)
    → 0 * size < length (answer_text_to request answer)
answer_some request answer size =
    omega (arith, length-append (answer_front (is_read request) answer))

-- Flows

flow_start : flow_of 0x10 ≡ Start
unfolding flow_of
flow_start = refl

pub flow_idle : flow_of 0x11 ≡ Idle1
unfolding flow_of
flow_idle = refl

flow_count : (n : ℕ) → flow_of (n % 16) ≡ Count (n % 16)
unfolding flow_of
flow_count n = grind (arith, nat_tests)

flow_next : (i : ℕ) → flow_at (suc i) ≡ Count (suc i % 16)
flow_next i = grind (arith, nat_tests)

-- The request's side

-- the cursor at a segment that is still to be sent, and behind the last one
abbrev sends : Request → ℕ → ℕ → Current
sends request size i = current_at request size (suc i)
    (Sending (flow_at i) (record { items = segment size (request_text request) i }))

abbrev asks : Request → ℕ → ℕ → ℕ → Current
asks request size issued busy = current_at request size issued (Asking busy)

-- which of them it is
sends_is : {current : Option Current} (request : Request) (size i : ℕ)
    → current ≡ Some (current_after_segment (asks request size i 0))
    → i * size < length (request_text request) → current ≡ Some (sends request size i)
sends_is request size i is more = is ∙ grind (arith, nat_tests)

asks_is : {current : Option Current} (request : Request) (size i : ℕ)
    → current ≡ Some (current_after_segment (asks request size i 0))
    → length (request_text request) ≤ i * size → current ≡ Some (asks request size i 0)
asks_is request size i is ends = is ∙ grind (arith, nat_tests)

-- The device's side

not_last : (i : ℕ) → is_last (count_at i) (suc i % 16) ≡ false
not_last i = grind (arith, nat_tests)

is_next : (i : ℕ) → (suc i % 16 == next_count (count_at i)) ≡ true
is_next i = grind (arith, nat_tests)

-- what a device keeps that forgets an answer once it is sent, every device keeps
same_recalled : (recalls : Recalls) (size : ℕ) (state : IsduState)
    → remaining_isdu UntilSent size state ≡ state → remaining_isdu recalls size state ≡ state
same_recalled recalls size state e = grind (arith, common_steps)

-- a START write, at any state
begun : (hands_over : HandsOver) (counted : Option ℕ) (state : IsduState) (octets : List ℕ)
    → written_by hands_over counted state Start octets
    ≡ once_written hands_over (isdu_with_octets octets None)
begun hands_over counted state octets = grind (arith, common_steps)

-- before its last segment a request's text is received
open_text : {size : ℕ} (hands_over : HandsOver) → SegmentLaws size → (request : Request) (i : ℕ)
    → IsRequest request → suc i * size < length (request_text request)
    → once_written hands_over (isdu_with_octets (segments_up_to size (request_text request) i)
    (count_at i))
    ≡ TextSoFar (segments_up_to size (request_text request) i) (count_at i)
open_text hands_over laws request i valid more =
    grind (arith, common_steps, laws.grows request i (count_at i) valid more)

-- the next segment of a request
written_next : (hands_over : HandsOver) (recalls : Recalls) (counted : Option ℕ) (size i : ℕ)
    (text octets : List ℕ)
    → written_by hands_over counted (remaining_isdu recalls size (TextSoFar text (count_at i)))
    (flow_of (flow_address (flow_at (suc i)))) octets
    ≡ once_written hands_over (isdu_with_octets (text ++ octets) (count_at (suc i)))
written_next hands_over recalls counted size i text octets =
    rw (flow_next i, flow_count (suc i))
    (grind (arith, common_steps, not_last i, is_next i, same_recalled))

-- a START read at what every device keeps
read_start : (recalls : Recalls) (size : ℕ) (state : IsduState)
    → remaining_isdu UntilSent size state ≡ state
    → isdu_read size (remaining_isdu recalls size state) (flow_of 0x10) ≡ isdu_read size state Start
read_start recalls size state same = rw (same_recalled recalls size state same, flow_start) refl

-- the answer's next segment
read_next : (recalls : Recalls) (size : ℕ) (request : Request) (answer : Answer) (j : ℕ)
    → suc j * size < length (answer_text_to request answer)
    → isdu_read size (remaining_isdu recalls size (Answered request answer (Some j)))
    (flow_of ((j + 1) % 16)) ≡ Answered request answer (Some (suc j))
read_next recalls size request answer j more =
    rw (add-one j, flow_count (suc j)) (grind (arith, nat_tests, common_steps, add-one j))

-- The answer's side at the master

-- the cursor behind a segment of the answer
abbrev gets : Request → ℕ → Answer → ℕ → ℕ → Current
gets request size answer issued j = current_at request size issued
    (Receiving (joiner_at size (answer_text_to request answer) j) j)

-- what the reply with a segment makes of the request
abbrev comes : ℕ → Request → Answer → ℕ → RequestProgress → ℕ → ReplyEffect
comes size request answer issued p j = effect_of_segment j
    (Ok (took_at size (answer_text_to request answer) j))
    (joiner_at size (answer_text_to request answer) j) (current_at request size issued p)

-- a segment before the last is kept
joined_more : (size : ℕ) (request : Request) (answer : Answer) (issued j : ℕ) (p : RequestProgress)
    → suc j * size < length (answer_text_to request answer)
    → comes size request answer issued p j ≡ GoesOn (gets request size answer issued j)
joined_more size request answer issued j p more = grind (arith, nat_tests)

module _ (laws : CleanLaws) (size : ℕ) (low : 1 ≤ size) (request : Request) (answer : Answer)
    (fitting : IsTrue (fits request answer)) where
  abbrev text : List ℕ
  text = answer_text_to request answer

  fits_answer : FitsAnswer (is_read request) answer
  fits_answer = (laws.segments size low).fitting request answer fitting

  holds : HoldsLength text
  holds = (laws.texts size low).answers _ answer fits_answer

  -- with the last one the text is whole
  joined_last : (issued j : ℕ) (p : RequestProgress) → length text ≤ suc j * size
      → comes size request answer issued p j ≡ HasText text
  joined_last issued j p all =
      let whole = (laws.joins size low).whole text j all in
      let fine = (laws.texts size low).accepted (is_read request) answer fits_answer in
      grind (arith, nat_tests, common_steps, whole, fine)

  first_joined : (issued busy limit : ℕ)
      → effect_of_start_read busy limit (segment size text 0) (asks request size issued busy)
      ≡ comes size request answer issued (Asking busy) 0
  first_joined issued busy limit =
      rw (
        (laws.texts size low).busy _ answer fits_answer,
        (laws.texts size low).silent _ answer fits_answer,
        (laws.joins size low).first empty text holds,
      ) refl

  next_joined : (issued j : ℕ) → suc j * size < length text
      → effect_of_count_read false (joiner_at size text j) (j + 1) (segment size text (suc j))
      (gets request size answer issued j)
      ≡ comes size request answer issued (Receiving (joiner_at size text j) j) (suc j)
  next_joined issued j more =
      let took = rw (flow_next j) at ((laws.joins size low).next text j holds more) in
      rw (add-one j, took) refl

  -- what is said of a whole text
  report_last : {report : Said} → IsEffectReport (is_read request) (HasText text) report
      → report ≡ ReportAnswered answer
  report_last h = h.only answer (record {
    text = text;
    rest = [];
    spells = (laws.one _ answer fits_answer text).1 refl;
    whole = sym (append-nil text);
  })

-- One turn over a clean wire brings a request one stage on.

-- what is said of a request that is there
abbrev pub ReportAt : RequestStage → Said → Type 0
ReportAt (Ended answer) report = report ≡ ReportAnswered answer
ReportAt stage report = report ≡ ReportBusy

-- The work

pub work_none : (f ready : Far) → handed_request f.isdu ≡ None
    → IsWorkedOff (handed_request f.isdu) f ready
    → ready ≡ f
work_none f ready e h = rw e at h

-- a request that was handed over is answered
abbrev Worked : Request → List Carried → Far → Type 0
Worked request base ready = (answer : Answer) × IsTrue (fits request answer)
    × (ready.isdu ≡ Answered request answer None) × (ready.carried ≡ grown_by base request answer)

work_done : (f ready : Far) (request : Request) (base : List Carried) → f.isdu ≡ Handed request
    → f.carried ≡ base → takes_more f.room base ≡ true → IsWorkedOff (handed_request f.isdu) f ready
    → Worked request base ready
work_done f ready request base is carried room h =
    by (has_room f) (rw carried room)
    (subst (λ (q : Option Request). IsWorkedOff q f ready) (ap handed_request is) h)
  where
    by : (b : Bool) → b ≡ true → MatchBool b ((answer : Answer) × IsTrue (fits request answer)
        × (ready ≡ local f (Carry answer))) (ready ≡ f) → Worked request base ready
    by false some h = absurd (cc)
    by true some (answer, fitting, ready_is) =
        (answer, fitting, grind (arith, common_steps), grind (arith, common_steps))

module _ {W : Type 0} (facts : WireFacts W) where
  open facts use {far}

  pub record Next (kind : Kind) (layouts : Layouts) (request : Request) (base : List Carried)
      (turns : ℕ) (report : Said) (new : CoreState) (wire' : W) : Type 0 where
    pub stage : RequestStage
    pub at : At facts kind layouts request base stage new wire'
    pub turns_are : turns_at kind.hands_over layouts.run.od request stage ≡ suc turns
    pub report_is : ReportAt stage report

  module _ (laws : CleanLaws) (cleanly : ExchangesCleanly facts) {kind : Kind} {layouts : Layouts}
      (low : 1 ≤ layouts.run.od) (request : Request) (valid : IsRequest request)
      (base : List Carried) (room : EventRoom) {link : FarLink} {old : CoreState}
      {wire wire' : W} (report : Said) (new : CoreState)
      (stood : Stood facts kind layouts link old wire)
      (turn : IsTurn facts room old wire report new wire')
      (some : takes_more (far wire).room base ≡ true)
      (limit : 2 ≤ old.session.limit) where
    abbrev size : ℕ
    size = layouts.run.od

    -- how many turns it takes until the device has the request, and its answer
    abbrev delivered : ℕ
    delivered = segments size (request_text request) + busy_replies kind.hands_over

    abbrev Goes : ℕ → Type 0
    Goes n = Next kind layouts request base n report new wire'

    abbrev Fits : RequestStage → Type 0
    Fits stage = StageFits kind.hands_over size request base stage old.session.current
        (far wire).isdu (far wire).carried

    abbrev Turns : Current → Type 0
    Turns c = Turned facts kind layouts old wire c report new wire'

    takes : {c : Current} → old.session.current ≡ Some c → c.abort ≡ None → Turns c
    takes is free = turned facts cleanly laws room stood turn is free

    -- what the message makes of the device's ISDU state
    abbrev after : Current → Option ℕ → IsduState → IsduState
    after c counted state = isdu_moved kind counted size state (progress_head c.progress).read
        (flow_of (progress_head c.progress).address) (progress_data c.progress)

    module _ {c : Current} (t : Turns c) where
      same : SameBut (far wire) t.turn.ready
      same = work_same (far wire) t.turn.ready (handed_request (far wire).isdu) t.turn.work

      state_by : (far wire').isdu ≡ after c t.turn.heard_as.counted t.turn.heard_as.before
      state_by = grind (arith, common_steps)

      state_is : {state : IsduState} → link.waits ≡ None → t.turn.ready.isdu ≡ state
          → (far wire').isdu ≡ after c t.turn.heard_as.counted state
      state_is none is = state_by ∙ ap (after c t.turn.heard_as.counted)
          (t.turn.heard_as.before_is (ap (λ (l : FarLink). l.waits) (same.link_is ∙ stood.at)
          ∙ none)
          ∙ is)

      -- where nothing was handed over, nothing was worked off, and the record stays
      stays : handed_request (far wire).isdu ≡ None → (t.turn.ready.isdu ≡ (far wire).isdu)
          × ((far wire').carried ≡ (far wire).carried)
      stays none =
          let still = work_none (far wire) t.turn.ready none t.turn.work in (
            ap (λ (f : Far). f.isdu) still,
            t.turn.heard_as.carried ∙ ap (λ (f : Far). f.carried) still,
          )

      -- what the reply makes of the request, and what is said of it
      comes_to : {state : IsduState} → (far wire').isdu ≡ state → (o : ReplyEffect)
          → effect_of_reply old.session.limit
          (if (progress_head c.progress).read then isdu_data size state else []) c ≡ o
          → (new.session.current ≡ current_of_effect o)
          × IsEffectReport (is_read c.cutter.source) o report
      comes_to {state = state} state_now o e =
          let od : t.turn.reply.od.items
          ≡ (if (progress_head c.progress).read then isdu_data size state else []) =
          rw (t.turn.heard_as.od, ap (λ (h : Head). h.read) t.head, state_now) refl in
          let o_is : effect_of_reply old.session.limit t.turn.reply.od.items c ≡ o = rw od e in (
            t.current ∙ ap current_of_effect o_is,
            subst (λ (x : ReplyEffect). IsEffectReport (is_read c.cutter.source) x report) o_is
                t.report_is,
          )

      -- the request goes on, or has its answer
      next_is : {n : ℕ} (stage : RequestStage) → StageFits kind.hands_over size request base stage
          new.session.current (far wire').isdu (far wire').carried
          → turns_at kind.hands_over size request stage ≡ suc n → ReportAt stage report → Goes n
      next_is stage fits turns is = record {
        stage = stage;
        at = grind (
          arith,
          common_steps,
          t.turn.stood,
          t.turn.heard_as.room,
          same.room,
          t.limit,
          t.idle,
        );
        turns_are = turns;
        report_is = is;
      }

    -- one more segment of the answer was had
    reading_step : {n : ℕ} (issued j : ℕ) (progress : RequestProgress)
        (t : Turns (current_at request size issued progress)) (answer : Answer)
        (fitting : IsTrue (fits request answer))
        → (far wire').isdu ≡ Answered request answer (Some j)
        → (far wire').carried ≡ grown_by base request answer
        → j * size < length (answer_text_to request answer)
        → effect_of_reply old.session.limit
        (if (progress_head progress).read then segment size (answer_text_to request answer) j
        else [])
        (current_at request size issued progress) ≡ comes size request answer issued progress j
        → suc n ≡ delivered + suc j → Goes n
    reading_step issued j progress t answer fitting state carried begins outcome count =
        elim (cases_lt (suc j * size) (length (answer_text_to request answer))) [
          | inl more ↦
              let goes = comes_to t state (GoesOn (gets request size answer issued j))
              (outcome ∙ joined_more size request answer issued j progress more) in
              next_is t (Reading answer (suc j)) (issued, goes.0, state, carried, fitting, more)
              (sym count) goes.1
          | inr all ↦
              let goes = comes_to t state (HasText (answer_text_to request answer))
              (outcome ∙ joined_last laws size low request answer fitting issued j progress all) in
              let last = segments_last (laws.texts size low) (answer_text_to request answer) j
              begins all in
              next_is t (Ended answer) (goes.0, carried, fitting, (j, state))
              (omega (arith, count, last)) (report_last laws size low request answer fitting goes.1)
        ]

    module _ (calm : link.waits ≡ None) where
      -- the answer's first segment, of a request that was handed over
      first_step : (issued busy n : ℕ) → old.session.current ≡ Some (asks request size issued busy)
          → (far wire).isdu ≡ Handed request → (far wire).carried ≡ base → n ≡ delivered → Goes n
      first_step issued busy n is handed_is carried count =
          let t = takes is refl in
          let (answer, fitting, ready, grown) =
          work_done (far wire) t.turn.ready request base handed_is carried some t.turn.work in
          reading_step issued 0 (Asking busy) t answer fitting
          (state_is t calm ready ∙ read_start kind.recalls size (Answered request answer None) refl)
          (t.turn.heard_as.carried ∙ grown) (answer_some request answer size)
          (first_joined laws size low request answer fitting issued busy old.session.limit)
          (omega (arith, count))

      -- another segment of the request
      write_step : (i : ℕ) → Fits (Written (suc i)) → suc i * size < length (request_text request)
          → Goes (suc i)
      write_step i at more =
          let text : List ℕ = segments_up_to size (request_text request) i in
          let t = takes (sends_is request size (suc i) at.1 more) refl in
          let is : (far wire).isdu ≡ TextSoFar text (count_at i) = at.2
          ∙ open_text kind.hands_over (laws.segments size low) request i valid more in
          let still = stays t (ap handed_request is) in
          let state = state_is t calm (still.0 ∙ is)
          ∙ written_next kind.hands_over kind.recalls t.turn.heard_as.counted size i text
          (segment size (request_text request) (suc i)) in
          let goes = comes_to t state (GoesOn
          (current_after_segment (asks request size (suc (suc i)) 0)))
          refl in
          next_is t (Written (suc (suc i))) (more, goes.0, state, still.1 ∙ at.3) refl goes.1

      -- behind the last one the device has it whole; it hands it over, and says that it is busy,
      -- or has handed it over already
      asked_step : (i : ℕ) (hands_over : HandsOver) → kind.hands_over ≡ hands_over
          → Fits (Written (suc i)) → length (request_text request) ≤ suc i * size
          → (far wire).isdu ≡ once_written hands_over (Whole request (count_at i))
          → Goes (suc i)
      asked_step i FirstRead by_read at ends whole =
          let t = takes (asks_is request size (suc i) at.1 ends) refl in
          let still = stays t (ap handed_request whole) in
          let state = state_is t calm (still.0 ∙ whole)
          ∙ read_start kind.recalls size (Whole request (count_at i)) refl in
          let few : (1 == old.session.limit) ≡ false = grind (arith, nat_tests) in
          let goes = comes_to t state (GoesOn (asks request size (suc i) 1)) (rw few refl) in
          let count = segments_last (laws.texts size low) (request_text request) i at.0 ends in
          let one : busy_replies kind.hands_over ≡ 1 = ap busy_replies by_read in
          next_is t Waiting (suc i, goes.0, state, still.1 ∙ at.3, by_read)
          (omega (arith, count, one)) goes.1
      asked_step i LastSegment by_write at ends whole =
          let count = segments_last (laws.texts size low) (request_text request) i at.0 ends in
          let none : busy_replies kind.hands_over ≡ 0 = ap busy_replies by_write in
          first_step (suc i) 0 (suc i) (asks_is request size (suc i) at.1 ends) whole at.3
          (omega (arith, count, none))

      -- from each stage to the next
      pub step : (stage : RequestStage) → Fits stage
          → ((answer : Answer) → stage ≡ Ended answer → ⊥)
          → Goes (turns_at kind.hands_over size request stage)
      step (Written zero) at goes = absurd at
      step (Written (suc i)) at goes =
          elim (cases_lt (suc i * size) (length (request_text request))) [
            | inl more ↦ write_step i at more
            | inr ends ↦ asked_step i kind.hands_over refl at ends
                (at.2 ∙ ap (once_written kind.hands_over)
                ((laws.segments size low).ends request i (count_at i) valid (at.0, ends)))
          ]
      step Waiting at goes = first_step at.0 1 delivered at.1 at.2 at.3 refl
      step (Reading answer zero) at goes = absurd at
      step (Reading answer (suc j)) at goes =
          let t = takes at.1 refl in
          let still = stays t (ap handed_request at.2) in
          reading_step at.0 (suc j) (Receiving (joiner_at size (answer_text_to request answer) j) j)
          t answer at.4
          (state_is t calm (still.0 ∙ at.2)
          ∙ read_next kind.recalls size request answer j at.5)
          (still.1 ∙ at.3) at.5 (next_joined laws size low request answer at.4 at.0 j at.5)
          (omega arith)
      step (Ended answer) at goes = absurd (goes answer refl)

    -- The first turn: the request was begun, and nothing is handed at the device

    -- it is cut in segments of the layout's size
    same_size : (other : ℕ) → old.session.current
        ≡ Some (current_after_segment (asks request other 0 0)) → other ≡ size
    same_size other current =
        let t = takes (sends_is request other 0 current (text_some request other)) refl in
        sym (laws.pieces other (request_text request) 0) ∙ sym (ap length t.octets)
        ∙ t.turn.parts.od ∙ ap (λ (h : Head). if h.read then 0 else size) t.head

    pub first : (other : ℕ) → old.session.current
        ≡ Some (current_after_segment (asks request other 0 0))
        → handed_request (far wire).isdu ≡ None
        → (far wire).carried ≡ base → Goes 0
    first other current unhanded carried =
        let some_text = text_some request size in
        let t = takes (sends_is request size 0 (rw (same_size other current) at current) some_text)
        refl in
        let state : (far wire').isdu ≡ once_written kind.hands_over
        (isdu_with_octets (segments_up_to size (request_text request) 0) (count_at 0)) =
        state_by t ∙ (rw flow_start (begun kind.hands_over t.turn.heard_as.counted
        (remaining_isdu kind.recalls size t.turn.heard_as.before)
        (segment size (request_text request) 0))) in
        let goes = comes_to t state (GoesOn (current_after_segment (asks request size 1 0))) refl in
        next_is t (Written 1)
        (some_text, goes.0, state, (stays t unhanded).1 ∙ carried) refl goes.1
