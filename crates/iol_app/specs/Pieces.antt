-- The two pieces of a turn, without the wire: what goes out, and what is made of what comes back.
use Rattle.std.specs.Prelude.{◌≡◌, ◌⊎◌, ℕ, Bool, true, false, List, Option, Some, None, IsTrue, is_some}
use Rattle.arrayvec.specs.ArrayVec.{ArrayVec}
use Rattle.iol_octets.specs.Checksum.{has_checksum}
use Rattle.iol_mseq.specs.Master.{HasMasterParts}
use Rattle.iol_mseq.specs.declared.master.MasterMsg.{MasterMsg}
use Rattle.iol_far.specs.Far.{Far}
use Rattle.iol_far.specs.Octets.{octets_in}
use Rattle.iol_page.specs.declared.page.Layouts.{Layouts}
use Rattle.iol_link.specs.Attempts.{Sending}
use Rattle.iol_link.specs.Honest.{HonestWake, HonestExchange}
use Rattle.iol_link.specs.WireFacts.{WireFacts, Passes, Wakes}
use Rattle.iol_link.specs.declared.wire.Rate.{Rate}
use Rattle.iol_mode.specs.declared.states.State.{State}
use Rattle.iol_mode.specs.declared.states.State.TheVariants.{Operate as AtOperate}
use Rattle.iol_mode.specs.Exchanges.{IsSending, AreFew, ExchangeGives, StandsOn, WakeStands, text_out, layout_out}
use Rattle.iol_mode.specs.Messages.{new_sending}
use Rattle.iol_mode.specs.States.{IsDown, StateFits, NextModeFits, next_state}
use Rattle.iol_app.specs.declared.report.Said.{Said}
use Rattle.iol_app.specs.declared.report.Said.TheVariants.{Idle}
use Rattle.iol_app.specs.declared.transmission.Transmission.{Transmission}
use Rattle.iol_app.specs.declared.transmission.Transmission.TheVariants.{Wake, Exchange}
use Rattle.iol_app.specs.declared.wire_result.WireResult.{WireResult}
use Rattle.iol_app.specs.declared.event_work.EventRoom.{EventRoom}
use Rattle.iol_app.specs.declared.event_work.EventRoom.TheVariants.{Left, Full}
use Rattle.iol_app.specs.Asking.{outgoing_of, asked_in, IsCall}
use Rattle.iol_app.specs.WireResults.{wire_result_in, woken_by}
use Rattle.iol_app.specs.Due.{due_of}
use Rattle.iol_app.specs.Outputs.{output_to_carry}
use Rattle.iol_app.specs.Reports.{has_begun_reading, ReportFits}
use Rattle.iol_app.specs.Requests.{request_under_way, request_after}
use Rattle.iol_app.specs.State.{SessionState, IsSession, session_sending, IsMessageFor}
use Rattle.iol_app.specs.StationState.{SessionFits, IsSettledReport, settled_session}
use Rattle.iol_app.specs.Core.{CoreState, Ghost}
use Rattle.iol_app.specs.CoreStands.{BothEndsStand, IsAttempted}
use Rattle.iol_app.specs.CoreGives.{CallGives, ordered_output}
use Rattle.iol_app.specs.CoreTurns.{SendGives, after_exchange, after_wake, received_mode, core_out, made_ghost}

-- What is out

-- the message that is out, in the layout of its mode, with the right checksum; in down a wake
abbrev pub IsAskedOut : Transmission → State → Type 0
IsAskedOut Wake state = IsDown state
IsAskedOut (Exchange out) state =
    IsSending state × (out ≡ outgoing_of (layout_out state) (text_out state))
    × IsTrue (has_checksum 1 out.octets.items)

-- whether a message is out, and it is the one asked for
abbrev pub IsOutAsAsked : Bool → Transmission → State → Type 0
IsOutAsAsked true asked state =
    IsSending state × (asked ≡ Exchange (outgoing_of (layout_out state) (text_out state)))
IsOutAsAsked false asked state = IsDown state × (asked ≡ Wake)

-- a new message for what is due is out from now on
pub record NewOut (layouts : Layouts) (t : SessionState)
    (room : EventRoom) (new : CoreState) : Type 0 where
  pub message : MasterMsg
  pub is : new ≡ core_out layouts (new_sending message) (session_sending (due_of t room) t)
      (due_of t room)
      t.current
  pub due : IsMessageFor (due_of t room) (session_sending (due_of t room) t) message
  pub parts : HasMasterParts layouts.run message
  pub carries : message.out.items ≡ output_to_carry t.output

abbrev pub OutAfter : Option Sending → Layouts → SessionState → EventRoom → CoreState
    → CoreState → Type 0
OutAfter None layouts t room old new = NewOut layouts t room new
OutAfter (Some out) layouts t room old new = new ≡ old

abbrev pub SentBy : State → EventRoom → CoreState → CoreState → Type 0
SentBy (AtOperate s) room old new = OutAfter s.out s.layouts old.session room old new
SentBy s room old new = new ≡ old

-- In OPERATE, where no message is out, a new one is; else nothing changes: what goes out
-- a second time is what went out
-- PORT-8
abbrev pub SendsMessage : EventRoom → CoreState → CoreState → Type 0
SendsMessage room old new = SentBy old.state room old new

-- a reading of events is begun only where there is room
abbrev pub ReadsOn : EventRoom → CoreState → CoreState → Type 0
ReadsOn room old new =
    has_begun_reading new.session ≡ true → (has_begun_reading old.session ≡ true) ⊎ (room ≡ Left)

-- What came back is judged by the message that is out
pub record IsSettledBy (old : CoreState) (received : Option (List ℕ)) (report : Said)
    (wire_result : WireResult) :
    Type 0 where
  -- it was sent less than three times
  pub few : AreFew old.state
  -- the session, by itself, and to the mode
  pub valid : IsSession old.session
  pub joined : SessionFits old.state old.session
  -- the mode that it comes to, by itself, and over an honest wire to the far end
  pub fits : NextModeFits (received_mode old received)
  pub gives : ExchangeGives old.state received (received_mode old received)
  -- what is said of it
  pub report_is : IsSettledReport (received_mode old received) old.session report
  -- an answer and a cut end the request under way
  pub request : request_under_way (settled_session (received_mode old received) old.session).current
      ≡ request_after (request_under_way old.session.current) report
  -- what the exchange brought
  pub wire_result_is : wire_result ≡ wire_result_in old.state received

-- and is taken up
pub record IsTakenUp (old : CoreState) (received : Option (List ℕ)) (report : Said)
    (wire_result : WireResult)
    (new : CoreState) : Type 0 where
  pub settled : IsSettledBy old received report wire_result
  -- a message without a good reply goes out again, or a question in its place
  pub is : new ≡ after_exchange (received_mode old received) old.session
  -- and the mode stands to each far end as that which was settled
  pub on : StandsOn (next_state (received_mode old received)) new.state

-- The message that is out went out over the wire, and what came back was taken up
pub record IsPassed {W : Type 0} (facts : WireFacts W) (wire wire_new : W) (old : CoreState)
    (report : Said) (wire_result : WireResult) (new : CoreState) : Type 0 where
  pub received : Option (ArrayVec ℕ)
  pub called : facts.exchange_gives wire (text_out old.state) received wire_new
  pub passes : Passes facts wire (text_out old.state) received wire_new
  pub honesty : facts.honest wire_new ≡ facts.honest wire
  pub taken : IsTakenUp old (octets_in received) report wire_result new

-- Over an honest wire

-- what went out before goes out again: it asks for what is wanted, where it was sent and the
-- far end isn't silent
pub record Resends (old new : CoreState) (silence : ℕ) : Type 0 where
  pub same : new ≡ old
  pub asks : IsAttempted old.state → silence ≡ 0
      → ordered_output old.state old.session ≡ old.session.output.wanted

-- both ends stand on, and no step but Make is taken
unfoldable pub SendSteps : CoreState → CoreState → Type 0
SendSteps old new =
    (g : Ghost) (far : Far) (silence : ℕ) → BothEndsStand old g far silence
    → Resends old new silence ⊎ SendGives old new g (made_ghost old.session g) far silence

-- all that a sending makes of the core
pub record PutsOut (room : EventRoom) (old new : CoreState) : Type 0 where
  -- a message for what is due is out, where none was
  pub sent : SendsMessage room old new
  -- a reading of events is begun only where there is room
  pub reads : ReadsOn room old new
  -- the mode stands to each far end as before
  pub on : StandsOn old.state new.state
  -- where both ends stand, they stand on
  pub steps : SendSteps old new

-- what comes back is taken up: a message that is out afterwards was sent
pub record TakeUpGives (old : CoreState) (g : Ghost) (far : Far) (silence : ℕ) (report : Said)
    (new : CoreState)
    (far_new : Far) (silence_new : ℕ) : Type 0 where
  pub gives : CallGives old g far silence report new far_new silence_new
  pub attempted : IsAttempted new.state

-- this came of a wake
unfoldable pub WakeSteps : CoreState → Bool → CoreState → Type 0
WakeSteps old answered new =
    (g : Ghost) (far far_new : Far) (silence : ℕ) → BothEndsStand old g far silence
    → HonestWake far answered far_new → TakeUpGives old g far silence Idle new far_new silence

-- this came back to the message that is out
unfoldable pub ReceiveSteps : CoreState → Option (List ℕ) → Said → CoreState → Type 0
ReceiveSteps old received report new =
    (g : Ghost) (far far_new : Far) (silence silence_new : ℕ) → BothEndsStand old g far silence
    → HonestExchange far silence (text_out old.state) received far_new silence_new
    → TakeUpGives old g far silence report new far_new silence_new

-- A wake went out over the wire, and what it brought was taken up
pub record IsWoken {W : Type 0} (facts : WireFacts W) (wire wire_new : W) (old : CoreState)
    (report : Said) (wire_result : WireResult) (new : CoreState) : Type 0 where
  pub answer : Option Rate
  pub called : facts.wake_gives wire answer wire_new
  pub passes : Wakes facts wire answer wire_new
  pub honesty : facts.honest wire_new ≡ facts.honest wire
  pub quiet : facts.silence wire_new ≡ facts.silence wire
  -- the session was still, and a start-up begins where the wake was answered
  pub still : SessionFits old.state old.session
  pub stands : WakeStands old.session.configuration.devices (is_some answer)
  pub idle : report ≡ Idle
  pub is : new ≡ after_wake (is_some answer) old.session
  pub wire_result_is : wire_result ≡ woken_by (is_some answer)

-- The one call of the wire between the two pieces of a turn is the one asked for; what it brought
-- was taken up
abbrev pub IsMade : {W : Type 0} → WireFacts W → W → W → Transmission → CoreState → Said
    → WireResult
    → CoreState → Type 0
IsMade facts wire wire_new asked mid report wire_result new =
    (IsOutAsAsked true asked mid.state × IsPassed facts wire wire_new mid report wire_result new)
    ⊎ (IsOutAsAsked false asked mid.state × IsWoken facts wire wire_new mid report wire_result new)

-- A turn over this wire, where there is room for events or not: what goes out, one call of the
-- wire, and what is made of what came back
pub record IsWholeTurn {W : Type 0} (facts : WireFacts W) (room : EventRoom) (wire wire_new : W)
    (old : CoreState) (report : Said) (wire_result : WireResult) (new : CoreState) : Type 0 where
  pub fits : StateFits old.state
  pub mid : CoreState
  pub puts : PutsOut room old mid
  pub made : IsMade facts wire wire_new (asked_in old.state old.session room) mid report
      wire_result new
  pub asked : IsCall facts (asked_in old.state old.session room) wire wire_new
  -- what is said of it
  pub report_fits : ReportFits Full mid.session report new.session
  -- where the wire is honest, both ends stand on
  pub takes : IsTrue (facts.honest wire) → (g : Ghost)
      → BothEndsStand mid g (facts.far wire) (facts.silence wire)
      → TakeUpGives mid g (facts.far wire) (facts.silence wire) report new (facts.far wire_new)
      (facts.silence wire_new)
