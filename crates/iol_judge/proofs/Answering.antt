-- A state explains each reply of a device that it stands for, and what is known of an ISDU transfer
-- holds once the reply was had.
-- For the clauses of `laws::honest_lines_are_never_blamed`.
use Rattle.std.proofs.lemmas.Grind.{common_steps}
use Rattle.std.proofs.Common.{◌≡◌, inl, inr, ℕ, zero, suc, ◌+◌, ◌-◌, ◌≤◌, Bool, true, false, List, ◌∷◌, length, drop, get_or, replicate, refl, ◌∙◌, ap, arith, eqb-true, []}
use Rattle.std.proofs.lemmas.Bool.{cond_both}
use Rattle.std.specs.Prelude.{Option, Some, None, is_some, not, IfSome, ◌&&◌, ◌==◌, IsTrue, if◌then◌else◌, unwrap_or, slice_index}
use Rattle.iol_octets.specs.declared.control.Channel.{Channel}
use Rattle.iol_octets.specs.declared.control.Channel.TheVariants.{Process, Isdu, Diagnosis}
use Rattle.iol_octets.specs.declared.flow_control.Flow.{Flow}
use Rattle.iol_isdu.specs.declared.values.Request.{Request}
use Rattle.iol_isdu.specs.declared.values.Answer.{Answer}
use Rattle.iol_isdu.specs.Answers.{is_read}
use Rattle.iol_segment.specs.Cut.{segment}
use Rattle.iol_far.specs.declared.kind.Kind.{Kind}
use Rattle.iol_far.specs.declared.kind.HandsOver.{HandsOver}
use Rattle.iol_far.specs.Isdu.{IsduState, Empty, Handed, Answered, answer_text_to, fits, isdu_read, isdu_data}
use Rattle.iol_far.specs.Far.{Far, isdu_after, layout_of, far_after_message, reply_to, data_of, page_octet_of}
use Rattle.iol_far.specs.Codec.{message_in, reply_octets}
use Rattle.iol_mseq.specs.declared.master.MasterMsg.{MasterMsg}
use Rattle.std.specs.Option.{option_or}
use Rattle.iol_judge.specs.declared.partial.PartialAnswer.{PartialAnswer}
use Rattle.iol_judge.specs.declared.reason.Reason.{Reason}
use Rattle.iol_judge.specs.declared.reason.Reason.TheVariants.{InvalidNotZero}
use Rattle.iol_judge.specs.declared.transfer.Transfer.{Transfer}
use Rattle.iol_judge.specs.declared.transfer.Transfer.TheVariants as known
use Rattle.iol_judge.specs.Answers.{partial_with, is_busy, unread_answer, segment_fault, text_fault}
use Rattle.iol_judge.specs.Transfers.{asked_updated, transfer_fault, transfer_updated_by, transfer_updated}
use Rattle.iol_judge.specs.UnderWay.{AreObserved, IsUnderWay, IsAnswered, IsAnswerAsked}
use Rattle.iol_judge.proofs.Sending.{AreTexts, none_holds, same_by}
use Rattle.std.proofs.lemmas.Bool.Decides.{nat_tests}
use Rattle.iol_octets.specs.Zeros.{are_zeros}
use Rattle.iol_mseq.specs.Shape.{Shape}
use Rattle.iol_mseq.specs.Replies.{reply_in}
use Rattle.iol_mseq.specs.declared.reply.Reply.{Reply}
use Rattle.iol_event.specs.Memory.{IsEventMemory, is_empty}
use Rattle.iol_judge.specs.declared.verdict.Odd.{Odd}
use Rattle.iol_judge.specs.declared.events.ShownEvents.{ShownEvents}
use Rattle.iol_judge.specs.Observed.{is_of_page, page_noted}
use Rattle.iol_judge.specs.State.{KnownState}
use Rattle.iol_judge.specs.Taking.{Taken}
use Rattle.iol_judge.specs.Replies.{By, Not, cycle_updated, data_fault, data_oddity, explanation_of, held_against, state_after_reply, no_zeros, page_fault, page_oddity, fault_in_reply, reply_oddity, shown_updated}
use Rattle.iol_judge.specs.Judged.{page_after_reply, noted_at}
use Rattle.iol_judge.specs.Octets.{Agrees, are_as_known, with_octets}
use Rattle.iol_judge.specs.Admitted.{Admits, AreAsKnown}
use Rattle.iol_judge.proofs.Hearing.{control_is, shown_awake, under_way_awake}
use Rattle.iol_judge.proofs.Sets.{events_fit, flag_fits, flagged_shown, updated_shown}
use Rattle.iol_judge.proofs.Known.{AreAt, fits_known, text_is_no_fault, same_known, segment_at, set_agrees, with_agrees, with_long}

-- Behind a read of the ISDU channel an answer was sent, if there is one

abbrev pub IsSent : IsduState → Type 0
IsSent (Answered request answer None) = ⊥
IsSent state = Unit {0}

abbrev pub IsSentBy : Bool → Channel → IsduState → Type 0
IsSentBy read Process state = Unit {0}
IsSentBy true Isdu state = IsSent state
IsSentBy read channel state = Unit {0}

read_sent : (size : ℕ) (state : IsduState) (flow : Flow) → IsSent (isdu_read size state flow)
read_sent size state flow = grind (arith, common_steps)

sent_by : (kind : Kind) (counted : Option ℕ) (knows : Bool) (size : ℕ) (state : IsduState)
    (channel : Channel) (read : Bool) (flow : Flow) (octets : List ℕ)
    → IsSentBy read channel (isdu_after kind counted knows size state channel read flow octets)
sent_by kind counted knows size state channel read flow octets =
    grind (arith, common_steps, read_sent)

pub worked_sent : (there : Far) (octets : List ℕ) (message : MasterMsg)
    → IsSentBy message.mc.read message.mc.channel (far_after_message there octets message).isdu
worked_sent there octets message = grind (arith, common_steps, sent_by)

-- What it brings

pub zeros_are : (n : ℕ) → are_zeros (replicate n 0) ≡ true
zeros_are zero = refl
zeros_are (suc n) = zeros_are n

busy_is : (size : ℕ) → is_busy (1 ∷ replicate (size - 1) 0) ≡ true
busy_is size = zeros_are (size - 1)

pub neither : (a b : Option Reason) → a ≡ None → b ≡ None → option_or a b ≡ None
neither None b e f = f
neither (Some x) b e f = absurd (cc)

abbrev pub IsNone : Option Reason → Type 0
IsNone fault = fault ≡ None

module _ (size : ℕ) (law : AreTexts size) (request : Request) (answer : Answer)
    (fit : IsTrue (fits request answer)) where
  abbrev its_text : List ℕ
  its_text = answer_text_to request answer

  not_busy : is_busy (segment size its_text 0) ≡ false
  not_busy = ap (λ (b : Bool). b && are_zeros (drop 1 (segment size its_text 0)))
      (law.texts.busy (is_read request) answer (law.fitting request answer fit))

  module _ (partial : PartialAnswer) (sent : ℕ) (are : AreObserved size partial its_text sent)
      (read : is_read request ≡ partial.read) where
    -- the segment that was sent
    abbrev its_segment : List ℕ
    its_segment = segment size its_text sent

    not_busy_again : (partial.at == 0 && is_busy its_segment) ≡ false
    not_busy_again = split (partial.at == 0) refl
      where
        split : (b : Bool) → (partial.at == 0) ≡ b → (b && is_busy its_segment) ≡ false
        split false e = refl
        split true e = rw (same_by size law.some sent 0 (omega (arith, eqb-true _ 0 e))) not_busy

    there : AreAt partial.at its_segment (λ k. get_or its_text k 0)
    there k less = ap (λ n. get_or its_text (n + k) 0) are.at
        ∙ segment_at size its_text sent (law.sized size its_text sent) k less

    -- and once it was had
    partial_holds : AreObserved size (partial_with partial its_segment) its_text sent
    partial_holds = record {
      octets = with_agrees partial.octets partial.at its_segment its_text are.octets there;
      places = with_long partial.octets partial.at its_segment ∙ are.places;
      begun = are.begun;
      within = are.within;
      at = are.at;
      count = are.count;
    }

    none_other : are_as_known (drop partial.at partial.octets) its_segment ≡ true
    none_other = fits_known partial.octets partial.at its_segment its_text are.octets there

    text_fits : text_fault partial.read partial.begun
        (with_octets partial.octets partial.at its_segment) ≡ None
    text_fits =
        let fits = law.fitting request answer fit in
        let holds = partial_holds in
        rw (← read) (text_is_no_fault (is_read request) its_text
        (law.texts.answers (is_read request) answer fits)
        (law.texts.accepted (is_read request) answer fits) _ holds.octets holds.places partial.begun
        are.begun)

    segment_fits : segment_fault partial its_segment ≡ None
    segment_fits = rw (not_busy_again, none_other) text_fits

answered_fits : (size : ℕ) → AreTexts size → (partial : PartialAnswer) (state : IsduState)
    → IsAnswered size partial state → segment_fault partial (isdu_data size state) ≡ None
answered_fits size law partial (Answered request answer (Some i)) h =
    segment_fits size law request answer h.1 partial i h.2 h.0
answered_fits size law partial state h = absurd h

updated_answered : (size : ℕ) → AreTexts size → (partial : PartialAnswer) (state : IsduState)
    → IsAnswered size partial state → IsAnswered size
    (partial_with partial (isdu_data size state)) state
updated_answered size law partial (Answered request answer (Some i)) h = (
  h.0,
  h.1,
  partial_holds size law _ _ h.1 partial i h.2 h.0,
)
updated_answered size law partial state h = absurd h

module _ (hands_over : HandsOver) (counted : Option ℕ) (size : ℕ) (law : AreTexts size) where
  pub isdu_fits : (transfer : Transfer) (state : IsduState) → IsUnderWay hands_over counted size
      transfer state → IsSent state → transfer_fault transfer (isdu_data size state) ≡ None
  isdu_fits known.Quiet state h s = rw (h, zeros_are size) refl
  isdu_fits (known.Receiving text last) state h s = rw (h, zeros_are size) refl
  isdu_fits (known.Whole read last) state h s = refl
  isdu_fits (known.Handed read last) (Handed request) h s = rw (busy_is size) refl
  isdu_fits (known.Handed read last) (Answered request answer None) h s = absurd s
  isdu_fits (known.Asked read last) (Handed request) h s = rw (busy_is size) refl
  isdu_fits (known.Asked read last) (Answered request answer (Some zero)) h s =
      cond_both _ _ _ IsNone (λ e. refl) (λ e. segment_fits size law request answer h.1
      (unread_answer read) 0 (none_holds size law read request answer h.1) h.0)
  isdu_fits (known.Asked read last) (Answered request answer None) h s = absurd s
  isdu_fits (known.Answered partial) state h s = answered_fits size law partial state h
  isdu_fits (known.Perhaps partial) state h s = elim h [
    | inl is ↦ cond_both _ _ _ IsNone (λ e. refl) (λ e. answered_fits size law partial state is)
    | inr none ↦ rw (none, zeros_are size) refl
  ]
  isdu_fits known.Free state h s = refl
  isdu_fits transfer state h s = absurd h

  updated_asked : (read : Bool) (last : Option ℕ) (state : IsduState)
      → IsAnswerAsked hands_over counted read last state → IsSent state
      → IsUnderWay hands_over counted size (asked_updated read last (isdu_data size state)) state
  updated_asked read last (Handed request) h s = rw (busy_is size) h
  updated_asked read last (Answered request answer (Some zero)) h s =
      rw (not_busy size law request answer h.1) (
        h.0,
        h.1,
        partial_holds size law request answer h.1
            (unread_answer read) 0 (none_holds size law read request answer h.1) h.0,
      )
  updated_asked read last (Answered request answer None) h s = absurd s
  updated_asked read last state h s = absurd h

  pub updated_under_way : (transfer : Transfer) (state : IsduState)
      → IsUnderWay hands_over counted size transfer state → IsSent state
      → IsUnderWay hands_over counted size (transfer_updated_by transfer (isdu_data size state))
      state
  updated_under_way (known.Asked read last) state h s = updated_asked read last state h s
  updated_under_way (known.Answered partial) state h s = updated_answered size law partial state h
  -- where it was sent, or the answer had ended before
  updated_under_way (known.Perhaps partial) state h s = elim h [
    | inl is ↦
        let recorded = partial_with partial (isdu_data size state) in
        rw (answered_fits size law partial state is)
        (cond_both (not (are_zeros (isdu_data size state)))
        (known.Answered recorded) (known.Perhaps recorded)
        (λ (t : Transfer). IsUnderWay hands_over counted size t state)
        (λ e. updated_answered size law partial state is)
        (λ e. inl (updated_answered size law partial state is)))
    | inr none ↦
        let zeros = replicate size 0 in
        rw (none, zeros_are size) (cond_both (is_some (segment_fault partial zeros)) known.Quiet
        (known.Perhaps (partial_with partial zeros))
        (λ (t : Transfer). IsUnderWay hands_over counted size t Empty) (λ e. refl) (λ e. inr refl))
  ]
  updated_under_way transfer state h s = h

-- The checks of a reply

status_fits : (a b : Bool) → ((not a && b) && a) ≡ false
status_fits a b = grind (arith, common_steps)

invalid_zeros : (input : Option (List ℕ)) (size : ℕ) → (if not (size == 0) && not (is_some input)
    then no_zeros (if size == 0 then [] else unwrap_or input (replicate size 0)) InvalidNotZero
    else None) ≡ None
invalid_zeros input size = grind (arith, common_steps, zeros_are)

one_outside : (address : ℕ) → is_of_page address ≡ true → (address == 1) ≡ false
one_outside address e = grind (arith, nat_tests)

-- an address of the page reads as its octet there
page_at : (far : Far) (address : ℕ) → is_of_page address ≡ true
    → page_octet_of far address ≡ slice_index far.page (address - 2)
page_at far address e = rw (one_outside _ e, e) refl

-- that is what is known of it
observed_fits : (observed : List (Option ℕ)) (far : Far) (address : ℕ) → Agrees observed far.page
    → (if is_of_page address then page_fault observed address (page_octet_of far address) else None)
    ≡ None
observed_fits observed far address agrees = cond_both _ _ _ IsNone
    (λ e. rw (page_at far address e, e, same_known _ _ (agrees (address - 2))) refl) (λ e. refl)

-- and nothing is odd in it
page_even : (cycle : Option ℕ) (far : Far) (address : ℕ) → IfSome cycle (λ o. far.cycle_time ≡ o)
    → page_oddity cycle address (page_octet_of far address) ≡ None
page_even cycle far address at = grind (arith, common_steps, same_known)

-- the data that a reply brings, where it brings some
abbrev reply_data : Far → ℕ → Bool → Channel → ℕ → List ℕ
reply_data far size read channel address = if read then data_of far size channel address else []

module _ (observed : List (Option ℕ)) (state : KnownState) (far : Far) (size : ℕ)
    (law : AreTexts size)
    (agrees : Agrees observed far.page) (six : length far.events.frozen ≤ 6)
    (shown : AreAsKnown state.events far.events)
    (under_way : IsUnderWay far.kind.hands_over far.counted size state.transfer far.isdu) where
  data_fits : (read : Bool) (channel : Channel) (address : ℕ) → IsSentBy read channel far.isdu
      → (if read then data_fault observed state (not (is_empty far.events.frozen)) channel address
      (reply_data far size read channel address) else None) ≡ None
  data_fits read channel address sent =
      grind (arith, common_steps, observed_fits, events_fit, isdu_fits)

data_even : (cycle : Option ℕ) (far : Far) (size : ℕ) (read : Bool) (channel : Channel)
    (address : ℕ) → IfSome cycle (λ o. far.cycle_time ≡ o) → (if read
    then data_oddity cycle channel address (reply_data far size read channel address) else None)
    ≡ None
data_even cycle far size read channel address at =
    grind (arith, common_steps, zeros_are, neither, page_even)

nothing_odd : (odd : Odd) (state : KnownState) (fault oddity : Option Reason) → fault ≡ None
    → oddity ≡ None → (elim (held_against odd fault oddity) [
      | None ↦ By state oddity
      | Some reason ↦ Not reason
    ]) ≡ By state None
nothing_odd odd state fault oddity e f = grind arith

module _ (observed : List (Option ℕ)) (there : Far) (octets : List ℕ) (message : MasterMsg)
    (law : AreTexts (layout_of there).od) (awake : there.awake ≡ true)
    (memory : IsEventMemory (far_after_message there octets message).events)
    (agrees : Agrees observed there.page) where
  -- the device that worked the message
  abbrev worked_far : Far
  worked_far = far_after_message there octets message

  abbrev its_answer : Reply
  its_answer = reply_to worked_far (layout_of there) message

  no_fault : (state : KnownState) → Admits state worked_far
      → fault_in_reply observed state (layout_of there) message.mc its_answer ≡ None
  no_fault state admits =
      let shown = shown_awake state worked_far awake admits in
      rw (status_fits ((layout_of there).pd_in == 0) (not (is_some there.input))) (neither _ _
      (flag_fits state.events worked_far.events shown)
      (data_fits observed state worked_far (layout_of
      there).od law agrees memory.frozen shown (under_way_awake state worked_far awake admits)
      message.mc.read message.mc.channel message.mc.address (worked_sent there octets message)))

  -- nor is anything odd
  no_oddity : (state : KnownState) → Admits state worked_far
      → reply_oddity state.cycle message.mc its_answer ≡ None
  no_oddity state admits = grind (arith, common_steps, neither, invalid_zeros, data_even)

  pub explains : (odd : Odd) (found : Taken) (reply : List ℕ) → found.message ≡ message
      → found.layout ≡ layout_of there → Admits found.state worked_far
      → reply_in (layout_of there) message.mc.read reply ≡ Some its_answer
      → explanation_of odd observed (Some found) reply
      ≡ By (state_after_reply found.state message.mc its_answer) None
  explains odd found reply same_message same_layout admits reads =
      grind (arith, common_steps, nothing_odd, no_fault, no_oddity)

-- What a reply tells

cycle_learned : (old : Option ℕ) (far : Far) (size : ℕ) (read : Bool) (channel : Channel)
    (address : ℕ) → IfSome old (λ o. far.cycle_time ≡ o)
    → IfSome (cycle_updated old read channel address
    (slice_index (reply_data far size read channel address) 0)) (λ o. far.cycle_time ≡ o)
cycle_learned old far size read channel address h = grind (arith, common_steps)

events_learned : (events : ShownEvents) (far : Far) (size : ℕ) (read : Bool) (channel : Channel)
    (address : ℕ) → length far.events.frozen ≤ 6 → AreAsKnown events far.events
    → AreAsKnown (shown_updated events read channel address
    (slice_index (reply_data far size read channel address) 0)) far.events
events_learned events far size true Diagnosis address six s = updated_shown _ _ six s _
events_learned events far size read channel address six s = s

isdu_learned : (size : ℕ) → AreTexts size → (transfer : Transfer) (far : Far) (read : Bool)
    (channel : Channel) (address : ℕ)
    → IsUnderWay far.kind.hands_over far.counted size transfer far.isdu
    → IsSentBy read channel far.isdu
    → IsUnderWay far.kind.hands_over far.counted size (transfer_updated transfer read channel
    (reply_data far size read channel address)) far.isdu
isdu_learned size law transfer far true Isdu address h sent =
    updated_under_way _ _ size law _ _ h sent
isdu_learned size law transfer far read channel address h sent = h

pub learned_admits : (state : KnownState) (far : Far) (message : MasterMsg)
    → AreTexts (layout_of far).od → far.awake ≡ true → IsEventMemory far.events
    → IsSentBy message.mc.read message.mc.channel far.isdu → Admits state far
    → Admits (state_after_reply state message.mc (reply_to far (layout_of far) message)) far
learned_admits state far message law awake memory sent h =
    grind (
      arith,
      common_steps,
      shown_awake,
      events_learned,
      flagged_shown,
      isdu_learned,
      under_way_awake,
      cycle_learned,
    )

page_updated : (observed : List (Option ℕ)) (far : Far) (address : ℕ) → Agrees observed far.page
    → Agrees (page_noted observed address (page_octet_of far address)) far.page
page_updated observed far address agrees =
    cond_both _ _ _ (λ (s : List (Option ℕ)). Agrees s far.page)
    (λ e. rw (page_at far address e) (set_agrees observed _ _ _ agrees refl)) (λ e. agrees)

noted_updated : (observed : List (Option ℕ)) (far : Far) (reply : Reply) (size : ℕ) (read : Bool)
    (channel : Channel) (address : ℕ) → reply.od.items ≡ (reply_data far size read channel address)
    → Agrees observed far.page
    → Agrees (noted_at observed read channel address (slice_index (reply_octets reply) 0)) far.page
unfolding reply_octets
noted_updated observed far reply size read channel address e agrees =
    grind (arith, common_steps, page_updated)

pub noted_agrees : (observed : List (Option ℕ)) (far : Far) (sent : List ℕ) (layout : Shape)
    (message : MasterMsg) → message_in layout sent ≡ Some message → (size : Shape)
    → Agrees observed far.page
    → Agrees (page_after_reply observed sent (reply_octets (reply_to far size message))) far.page
noted_agrees observed far sent layout message h size agrees =
    rw (← control_is layout sent message h)
    (noted_updated observed far (reply_to far size message) size.od message.mc.read
    message.mc.channel message.mc.address refl agrees)
