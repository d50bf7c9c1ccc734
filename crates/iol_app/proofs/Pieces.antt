-- The two pieces of a turn, over the core's own data.
-- For the clauses of `Core::put_due`, `Core::receive_wake`, `Core::receive` and 3 more.
use Rattle.std.proofs.lemmas.Grind.{common_steps}
use Rattle.std.proofs.Common.{◌≡◌, ◌⊎◌, ◌||◌, inl, inr, ℕ, Bool, true, false, List, refl, ap, Option, Some, None, arith}
use Rattle.iol_octets.specs.Control.{control_of}
use Rattle.iol_mseq.specs.Shape.{startup_shape}
use Rattle.iol_mseq.specs.Master.{HasMasterParts}
use Rattle.iol_mseq.specs.declared.master.MasterMsg.{MasterMsg}
use Rattle.iol_mseq.specs.declared.reply.Reply.{Reply}
use Rattle.iol_page.specs.declared.page.Layouts.{Layouts}
use Rattle.iol_page.specs.declared.master_command.MasterCommand.TheVariants.{DeviceStartup}
use Rattle.iol_far.specs.Far.{Far}
use Rattle.iol_link.specs.Attempts.{Sending, good_reply, attempt_of}
use Rattle.iol_link.specs.Honest.{HonestExchange}
use Rattle.iol_mode.specs.declared.configuration.Devices.{Devices}
use Rattle.iol_mode.specs.declared.states.Operate.{Operate}
use Rattle.iol_mode.specs.declared.states.State.{State}
use Rattle.iol_mode.specs.declared.states.State.TheVariants.{Down as AtDown, Startup as AtStartup, Preoperate as AtPreoperate, Operate as AtOperate}
use Rattle.iol_mode.specs.Messages.{command_message, new_sending}
use Rattle.iol_mode.specs.Next.{EnteredFits}
use Rattle.iol_mode.specs.States.{NextMode, NextModeFits, StateFits, IsDown, next_state, mode_after_wake, operate_by, sending_after_try}
use Rattle.iol_mode.specs.Exchanges.{IsSending, AcceptedBy, StandsOn, WakeStands, mode_after_reply, text_out}
use Rattle.iol_mode.specs.Stands.{StateStands}
use Rattle.iol_app.specs.declared.report.Said.{Said}
use Rattle.iol_app.specs.declared.report.Said.TheVariants.{Idle}
use Rattle.iol_app.specs.declared.event_work.EventRoom.{EventRoom}
use Rattle.iol_app.specs.declared.session.Purpose.{Purpose}
use Rattle.iol_app.specs.declared.wire_result.WireResult.{WireResult}
use Rattle.iol_app.specs.declared.event_work.EventRoom.TheVariants.{Left}
use Rattle.iol_app.specs.Due.{due_of, is_under_way}
use Rattle.iol_app.specs.Outputs.{output_to_carry}
use Rattle.iol_app.specs.Reports.{is_read_out, has_begun_reading}
use Rattle.iol_app.specs.State.{SessionState, IsSession, IsMessageFor, session_sending, IsOutBy}
use Rattle.iol_app.specs.StationState.{SessionFits, IsStill, NextFits, IsSettledReport}
use Rattle.iol_app.specs.StationLaws.{StationLaws}
use Rattle.iol_app.specs.Core.{CoreState, Ghost}
use Rattle.iol_app.specs.CoreStands.{BothEndsStand, IsAttempted}
use Rattle.iol_app.specs.CoreGives.{CallGives, ordered_output}
use Rattle.iol_app.specs.CoreTurns.{after_exchange, settled_core, after_wake, core_out, free_core}
use Rattle.iol_app.proofs.DueFacts.{IsDue, due_is}
use Rattle.iol_app.proofs.Orderly.{first_parts}
use Rattle.iol_app.proofs.Doubts.{core_of, after_fits}
use Rattle.iol_app.specs.Pieces.{SendsMessage, SentBy, OutAfter, ReadsOn, IsSettledBy, IsTakenUp, SendSteps, TakeUpGives, WakeSteps, ReceiveSteps}
use Rattle.iol_app.proofs.Turns.{startup_next, preoperate_next, operate_next}
use Rattle.iol_app.proofs.Settling.{settled_fits}

reset_parts : HasMasterParts startup_shape (command_message startup_shape DeviceStartup)
unfolding control_of
reset_parts = record { out = refl; od = refl }

waked_fits : (devices : Devices) (answered : Bool) → NextModeFits (mode_after_wake devices answered)
waked_fits devices answered = grind (arith, common_steps, first_parts, reset_parts)

-- in a start-up nothing is said
pub still_report : (outcome : NextMode) (s : SessionState) (report : Said) → IsStill s
    → IsSettledReport outcome s report → report ≡ Idle
still_report outcome s report still h = grind (arith, common_steps)

-- none is out where the session has none
pub no_exchange : (e : Option Purpose) (s : SessionState) → IsOutBy e s None → e ≡ None
no_exchange e s h = grind (arith, common_steps)

-- after a turn a message that is out was sent
operate_tried : (w : Sending) (layouts : Layouts) (reply : Option Reply) (s : SessionState)
    → IsAttempted (after_exchange
    (operate_by (sending_after_try w reply) layouts (attempt_of w.tries reply)) s).state
operate_tried w layouts reply s = grind (arith, common_steps)

-- nor does a turn of a start-up leave one that would go out again in OPERATE
risen_settled : (outcome : NextMode) (s : SessionState) (n : ℕ) (far : Far)
    → EnteredFits outcome n far
    → (after_exchange outcome s ≡ settled_core outcome s) × IsAttempted (next_state outcome)
risen_settled outcome s n far h = grind (arith, common_steps)

waked_tried : (devices : Devices) (answered : Bool)
    → IsAttempted (next_state (mode_after_wake devices answered))
waked_tried devices answered = grind (arith, common_steps)

pub wanted_at : (state : State) (t : SessionState) (n : ℕ) (far : Far) → IsAttempted state
    → StateStands state n far → n ≡ 0 → ordered_output state t ≡ t.output.wanted
wanted_at state t n far tried stands none = grind (arith, common_steps)

-- what went out before goes out again
pub same_sends : (old : CoreState) → SendSteps old old
unfolding SendSteps
same_sends old = λ g far n stands.
    let asks = λ (tried : IsAttempted old.state) (calm : n ≡ 0).
    wanted_at old.state old.session n far tried stands.link calm in
    inl (assumption asks)

-- a first read goes out only where a reading was begun, or there is room
read_due : (s : SessionState) (room : EventRoom) (exchange : Purpose) → IsDue s room exchange
    → is_read_out (Some exchange) ≡ true
    → (is_under_way s.events.reading ≡ true) ⊎ (room ≡ Left)
read_due s room exchange due read = grind (arith, common_steps)

out_reads : (s : SessionState) (room : EventRoom) (exchange : Purpose) → IsDue s room exchange
    → (is_read_out (Some exchange) || is_under_way s.events.reading) ≡ true
    → (has_begun_reading s ≡ true) ⊎ (room ≡ Left)
out_reads s room exchange due begun =
    let read = read_due s room exchange due in
    grind (arith, common_steps, read)

put_reads : (out : Option Sending) (layouts : Layouts) (room : EventRoom) (old new : CoreState)
    → OutAfter out layouts old.session room old new → ReadsOn room old new
put_reads None layouts room old new sent =
    rw sent.is
    (out_reads old.session room (due_of old.session room) (due_is old.session room))
put_reads (Some out) layouts room old new sent = rw sent (λ begun. inl begun)

sent_by_reads : (state : State) (room : EventRoom) (old new : CoreState)
    → SentBy state room old new → ReadsOn room old new
sent_by_reads (AtDown d) room old new sent = rw sent (λ begun. inl begun)
sent_by_reads (AtStartup o) room old new sent = rw sent (λ begun. inl begun)
sent_by_reads (AtPreoperate o) room old new sent = rw sent (λ begun. inl begun)
sent_by_reads (AtOperate o) room old new sent =
    put_reads o.out o.layouts room old new sent

pub sent_reads : (room : EventRoom) (old new : CoreState) → SendsMessage room old new
    → ReadsOn room old new
sent_reads room old new sent = sent_by_reads old.state room old new sent

-- what is made of what comes back may be taken up
out_next : (out : Option Sending) (layouts : Layouts) (received : Option (List ℕ))
    (s : SessionState) → let state : Operate = record { out = out; layouts = layouts } in
    IsSending (AtOperate state) → SessionFits (AtOperate state) s
    → NextFits (mode_after_reply s.configuration (AtOperate state) received) s
out_next out layouts received s sends fits = grind (arith, common_steps, operate_next)

pub judged_next : (state : State) (received : Option (List ℕ)) (s : SessionState) → IsSending state
    → SessionFits state s → NextFits (mode_after_reply s.configuration state received) s
judged_next state received s sends fits =
    grind (arith, common_steps, startup_next, preoperate_next, out_next)

module _ (laws : StationLaws) (received : Option (List ℕ)) (report : Said)
    (wire_result : WireResult)
    (g : Ghost)
    (far far' : Far) (n n' : ℕ) where
  -- what it comes to
  abbrev outcome : State → SessionState → NextMode
  outcome state s = mode_after_reply s.configuration state received

  abbrev Received : State → SessionState → Type 0
  Received state s =
      TakeUpGives (core_of state s) g far n report (after_exchange (outcome state s) s) far' n'

  abbrev Gives : State → SessionState → Type 0
  Gives state s = BothEndsStand (core_of state s) g far n
      → HonestExchange far n (text_out state) received far' n'
      → IsSettledBy (core_of state s) received report wire_result
      → StandsOn (next_state (outcome state s)) (after_exchange (outcome state s) s).state
      → Received state s

  -- in OPERATE, where the message is for this
  operate_gives : (out : Option Sending) (layouts : Layouts) (t : SessionState)
      (e : Option Purpose) → IsSending (AtOperate (record { out = out; layouts = layouts }))
      → Gives (AtOperate (record { out = out; layouts = layouts })) (record t { exchange = e })
  operate_gives None layouts t e sends stands x j on =
      absurd (let e : false ≡ true = sends in cc)
  operate_gives (Some w) layouts t None sends stands x j on = absurd stands.joined.out_for
  operate_gives (Some w) layouts t (Some e) sends stands x j on =
      let s : SessionState = record t { exchange = Some e } in
      let reply : Option Reply = good_reply layouts.run w.message received in
      let met = j.gives far far' n n' stands.link x in
      let fitting = after_fits (sending_after_try w reply) layouts (attempt_of w.tries reply) s
      j.valid
      stands.joined.has_layouts.0 j.fits (settled_fits
      (operate_by (sending_after_try w reply) layouts (attempt_of w.tries reply)) s j.fits
      (out_next (Some w) layouts received s refl stands.joined)) in
      let got = laws.receives.gives layouts w t e g far far' n n' received report stands j.valid
      x j.few
      met.0 met.1 on fitting.0 fitting.1 j.report_is in
      record {
        gives = got;
        attempted = operate_tried w layouts reply s;
      }

  state_gives : (state : State) (s : SessionState) → IsSending state → Gives state s
  state_gives (AtDown o) s sends = absurd sends
  state_gives (AtOperate o) s sends = operate_gives o.out o.layouts s s.exchange sends
  -- in both modes of a start-up
  state_gives state s sends = λ stands x j on.
      let o : NextMode = outcome state s in
      let risen = j.gives far far' n n' stands.link x in
      let gives : CallGives (core_of state s) g far n Idle (settled_core o s) far' n' =
      laws.rises.gives (core_of state s) g far far' n n' received refl stands j.valid x risen j.fits
      (settled_fits o s j.fits (judged_next state received s sends stands.joined)) in
      let settled = risen_settled o s n' far' risen.entered in
      rw (settled.0, still_report o s report stands.joined.0 j.report_is)
      (record { gives = gives; attempted = settled.1 })

pub receive_steps : StationLaws → {old : CoreState} {received : Option (List ℕ)} {report : Said}
    {wire_result : WireResult} {new : CoreState} → IsSending old.state
    → IsTakenUp old received report wire_result new
    → ReceiveSteps old received report new
unfolding ReceiveSteps
receive_steps laws {old} {received} {report} {wire_result} sends t =
    λ g far far' n n' stands x. rw t.is
    (state_gives laws received report wire_result g far far' n n' old.state old.session sends
    stands x
    t.settled (rw t.is at t.on))

-- In OPERATE a new message goes out
module _ (laws : StationLaws) (layouts : Layouts) (t : SessionState) (room : EventRoom)
    (m : MasterMsg) (valid : IsSession t) where
  abbrev due : Purpose
  due = due_of t room

  abbrev free : SessionState → CoreState
  free s = record { state = AtOperate (record { out = None; layouts = layouts }); session = s }

  abbrev next : CoreState
  next = core_out layouts (new_sending m) (session_sending due t) due t.current

  pub new_sends : t.exchange ≡ None → IsMessageFor due (session_sending due t) m
      → m.out.items ≡ output_to_carry t.output → StateFits next.state
      → ((far : Far) → AcceptedBy next.state far) → StandsOn (free t).state next.state
      → SendSteps (free t) next
  unfolding SendSteps
  new_sends none is carries fits accepted on = λ g far n stands.
      let same : free t ≡ free_core layouts t =
      ap (λ (x : Option Purpose). free (record t { exchange = x })) none in
      inr (rw same (laws.sends.gives layouts t room m g far n (rw same at stands) valid is carries
      (on far n stands.link) fits (λ link operating. accepted far stands.link.read_from link
      operating)))

-- A wake

pub wake_steps : StationLaws → (old : CoreState) (answered : Bool) (new : CoreState)
    → IsDown old.state
    → WakeStands old.session.configuration.devices answered
    → new ≡ after_wake answered old.session → WakeSteps old answered new
unfolding WakeSteps
wake_steps laws old answered new down stands_by e = λ g far far' n stands x.
    let gives : CallGives old g far n Idle (after_wake answered old.session) far' n =
    laws.wakes.gives old g far far' n answered stands down x (stands_by far far' n stands.sees x)
    (waked_fits old.session.configuration.devices answered) in
    rw e (record {
      gives = gives;
      attempted = waked_tried old.session.configuration.devices answered;
    })
