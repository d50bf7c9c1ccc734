-- A wake, and an exchange in each mode: what becomes of a port's own data, and the laws of it.
use Rattle.std.specs.Prelude.{◌≡◌, ℕ, ◌<◌, Bool, true, List, Option, Some, None, ⊤}
use Rattle.iol_far.specs.Level.{FarLink}
use Rattle.iol_link.specs.Attempts.{Sending, most_attempts}
use Rattle.iol_link.specs.Honest.{HonestWake, HonestExchange}
use Rattle.iol_mode.specs.declared.states.State.{State}
use Rattle.iol_mode.specs.declared.states.State.TheVariants.{Preoperate as AtPreoperate, Operate as AtOperate}
use Rattle.iol_mode.specs.States.{NextMode, NextModeFits, StateFits, IsDown, next_state, is_reset, is_starting, mode_after_wake}
use Rattle.iol_mode.specs.Exchanges.{StandsOn, text_out, mode_after_reply}
use Rattle.iol_mode.specs.Turns.{IsRisen, IsMet}
use Rattle.iol_mode.specs.Stands.{StateStands, IsOperating, IsAccepted}
use Rattle.iol_app.specs.declared.report.Said.{Said}
use Rattle.iol_app.specs.declared.report.Said.TheVariants.{Idle}
use Rattle.iol_app.specs.Abstract.Steps.{Make, WireCall}
use Rattle.iol_app.specs.Abstract.Images.{MayImages, images_after, image_or}
use Rattle.iol_app.specs.declared.event_work.EventRoom.{EventRoom}
use Rattle.iol_app.specs.declared.request.Current.{Current}
use Rattle.iol_app.specs.State.{IsSession, IsMessageFor, session_sending, SessionState}
use Rattle.iol_app.specs.Due.{due_of}
use Rattle.iol_app.specs.Outputs.{output_to_carry}
use Rattle.iol_app.specs.StationState.{IsSettledReport, IsPresent, SessionFits, waked_session, settled_session, missed_state, missed_session}
use Rattle.iol_app.specs.declared.session.Purpose.{Purpose}
use Rattle.iol_page.specs.declared.page.Layouts.{Layouts}
use Rattle.iol_mseq.specs.declared.master.MasterMsg.{MasterMsg}
use Rattle.iol_far.specs.Far.{Far}
use Rattle.iol_mode.specs.Messages.{new_sending}
use Rattle.iol_app.specs.Core.{CoreState, Ghost, session_in, frozen_in, images_in}
use Rattle.iol_app.specs.CoreStands.{BothEndsStand}
use Rattle.iol_app.specs.CoreGives.{ordered_output, moment_of, TermsStay, CallGives}

-- a wake: the code's own functions say what becomes of the data
abbrev pub after_wake : Bool → SessionState → CoreState
after_wake answered s = record {
  state = next_state (mode_after_wake s.configuration.devices answered);
  session = settled_session (mode_after_wake s.configuration.devices answered)
      (waked_session answered s);
}

pub record WakesDevice : Type 0 where
  pub gives : (c : CoreState) (g : Ghost) (far far_new : Far) (silence : ℕ) (answered : Bool)
      → BothEndsStand c g far silence → IsDown c.state → HonestWake far answered far_new
      -- the link's own law
      → StateStands (next_state (mode_after_wake c.session.configuration.devices answered))
      silence far_new
      → StateFits (next_state (mode_after_wake c.session.configuration.devices answered))
      → CallGives c g far silence Idle (after_wake answered c.session) far_new silence

-- an exchange: the link says what becomes of the mode
abbrev pub settled_core : NextMode → SessionState → CoreState
settled_core outcome t = record { state = next_state outcome; session = settled_session outcome t }

-- what is left of an attempt without a good reply, where what is out goes out again
abbrev pub after_missed : CoreState → CoreState
after_missed c = record {
  state = missed_state c.state c.session;
  session = missed_session c.state c.session;
}

abbrev pub after_exchange : NextMode → SessionState → CoreState
after_exchange outcome t = after_missed (settled_core outcome t)

-- what comes back to the message that is out is judged by it, and by what start-ups ask
abbrev pub received_mode : CoreState → Option (List ℕ) → NextMode
received_mode c received = mode_after_reply c.session.configuration c.state received

-- in both modes of a start-up
pub record Rises : Type 0 where
  pub gives :
      (c : CoreState) (g : Ghost) (far far_new : Far) (silence silence_new : ℕ)
      (received : Option (List ℕ))
      → is_starting c.state ≡ true → BothEndsStand c g far silence → IsSession c.session
      → HonestExchange far silence (text_out c.state) received far_new silence_new
      → let outcome : NextMode = received_mode c received in
      -- the link's own laws, and the session's
      IsRisen (is_reset c.state) outcome silence_new far far_new → NextModeFits outcome
      → SessionFits (next_state outcome) (settled_session outcome c.session)
      → CallGives c g far silence Idle (settled_core outcome c.session) far_new silence_new

-- in a session whose page was checked, the device is the one that was expected then
abbrev pub IsRightIn : State → SessionState → Type 0
IsRightIn (AtPreoperate s) t = IsPresent s.layouts t.present
IsRightIn (AtOperate s) t = IsPresent s.layouts t.present
IsRightIn s t = ⊤

abbrev pub IsRight : CoreState → Type 0
IsRight c = IsRightIn c.state c.session

abbrev pub core_out : Layouts → Sending → SessionState → Purpose → Option Current → CoreState
core_out layouts out t exchange current = record {
  state = AtOperate (record { out = Some out; layouts = layouts });
  session = record t { exchange = Some exchange; current = current };
}

-- a new message goes out: the step Make alone, and what it asks for is what is wanted
abbrev pub made_ghost : SessionState → Ghost → Ghost
made_ghost t g = record g { sent = image_or t.output.wanted g.sent }

abbrev pub free_core : Layouts → SessionState → CoreState
free_core layouts t = record {
  state = AtOperate (record { out = None; layouts = layouts });
  session = record t { exchange = None };
}

pub record SendGives (c next : CoreState) (g after : Ghost) (far : Far) (silence : ℕ) : Type 0 where
  pub stands : BothEndsStand next after far silence
  pub session : session_in c g far ≡ session_in next after far
  pub frozen : frozen_in g far ≡ frozen_in after far
  pub may : (call : WireCall) → MayImages (moment_of c g silence call) Make (images_in c g far)
  pub terms : TermsStay c next g after
  pub images : (call : WireCall)
      → images_after (moment_of c g silence call) Make (images_in c g far)
      ≡ images_in next after far
  pub asks : ordered_output next.state next.session ≡ c.session.output.wanted

pub record Sends : Type 0 where
  pub gives :
      (layouts : Layouts) (t : SessionState) (room : EventRoom) (message : MasterMsg) (g : Ghost)
      (far : Far) (silence : ℕ)
      → let next : CoreState =
      core_out layouts (new_sending message) (session_sending (due_of t room) t) (due_of t room)
      t.current in
      BothEndsStand (free_core layouts t) g far silence → IsSession t
      -- the message is that of what is due, and carries the output wanted
      → IsMessageFor (due_of t room) (session_sending (due_of t room) t) message
      → message.out.items ≡ output_to_carry t.output
      -- the link's own laws
      → StateStands next.state silence far → StateFits next.state
      → ((link : FarLink) → IsOperating layouts link → IsAccepted layouts far.page link message)
      → SendGives (free_core layouts t) next g (made_ghost t g) far silence

-- what comes back to the message that is out
pub record Receives : Type 0 where
  pub gives :
      (layouts : Layouts) (out : Sending) (t : SessionState) (exchange : Purpose) (g : Ghost)
      (far far_new : Far) (silence silence_new : ℕ) (received : Option (List ℕ)) (report : Said)
      → let c : CoreState = core_out layouts out t exchange t.current in
      BothEndsStand c g far silence → IsSession c.session
      → HonestExchange far silence (text_out c.state) received far_new silence_new
      → out.tries < most_attempts
      → let outcome : NextMode = received_mode c received in
      let next : CoreState = after_exchange outcome c.session in
      -- the link's own laws
      IsMet outcome silence_new far_new
      → ((link : FarLink) → IsOperating layouts link → IsAccepted layouts far.page link out.message)
      → StandsOn (next_state outcome) next.state → StateFits next.state
      -- the session's own
      → SessionFits next.state next.session → IsSettledReport outcome c.session report
      → CallGives c g far silence report next far_new silence_new
