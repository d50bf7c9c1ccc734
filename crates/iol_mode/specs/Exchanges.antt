-- What goes out in a mode, what is made of what comes back, and what one exchange
-- over an honest wire gives: plain data, without the wire.
use Rattle.std.specs.Prelude.{◌≡◌, ℕ, ◌<◌, List, [], Option, Some, None, IsSome, IfSome, ⊤, Bool, true}
use Rattle.arrayvec.specs.ArrayVec.{ArrayVec}
use Rattle.iol_mseq.specs.Shape.{Shape, startup_shape}
use Rattle.iol_mseq.specs.Texts.{master_text}
use Rattle.iol_mseq.specs.declared.master.MasterMsg.{MasterMsg}
use Rattle.iol_page.specs.declared.page.Layouts.{Layouts}
use Rattle.iol_far.specs.Far.{Far}
use Rattle.iol_far.specs.Octets.{octets_in}
use Rattle.iol_far.specs.Level.{FarLink}
use Rattle.iol_link.specs.declared.handler.Attempt.{Attempt}
use Rattle.iol_link.specs.declared.handler.Attempt.TheVariants.{Retry}
use Rattle.iol_link.specs.Attempts.{Sending, good_reply, attempt_of, most_attempts}
use Rattle.iol_link.specs.Honest.{HonestWake, HonestExchange}
use Rattle.iol_link.specs.WireFacts.{WireFacts, Passes}
use Rattle.iol_mode.specs.declared.configuration.Configuration.{Configuration}
use Rattle.iol_mode.specs.declared.configuration.Devices.{Devices}
use Rattle.iol_mode.specs.declared.configuration.Devices.TheVariants.{Own}
use Rattle.iol_mode.specs.declared.states.State.{State}
use Rattle.iol_mode.specs.declared.states.State.TheVariants.{Down as AtDown, Startup as AtStartup, Preoperate as AtPreoperate, Operate as AtOperate}
use Rattle.iol_mode.specs.States.{NextMode, InDown, InOperate, StateFits, any_device, is_behind, sending_after_try, operate_by, outcome_with, startup_turned, preoperate_turned, sending_of, next_state, mode_after_wake}
use Rattle.iol_mode.specs.Stands.{IsOperating, IsAccepted, AreReadFrom, StateStands, text_in, sending_tries}
use Rattle.iol_mode.specs.Turns.{IsMet, IsRisen}
use Rattle.iol_mode.specs.Kinds.{SeesPulses, IsHonestFor}

-- a message is out
abbrev pub IsSending : State → Type 0
IsSending (AtDown s) = ⊥
IsSending (AtStartup s) = ⊤
IsSending (AtPreoperate s) = ⊤
IsSending (AtOperate s) = IsSome s.out

-- OPERATE, and one is
abbrev pub IsOperateSending : State → Type 0
IsOperateSending (AtOperate s) = IsSome s.out
IsOperateSending s = ⊥

-- its octets
abbrev pub text_out : State → List ℕ
text_out (AtDown s) = []
text_out (AtStartup s) = master_text startup_shape s.sent.message
text_out (AtPreoperate s) = master_text s.pre s.sent.message
text_out (AtOperate s) = text_in s.layouts.run s.out

-- the layout of its mode
abbrev pub layout_out : State → Shape
layout_out (AtDown s) = startup_shape
layout_out (AtStartup s) = startup_shape
layout_out (AtPreoperate s) = s.pre
layout_out (AtOperate s) = s.layouts.run

abbrev pub tries_in : State → ℕ
tries_in (AtDown s) = 0
tries_in (AtStartup s) = s.sent.tries
tries_in (AtPreoperate s) = s.sent.tries
tries_in (AtOperate s) = sending_tries s.out

-- in OPERATE the message that is out stays so, else this one is out from now on
abbrev pub state_with_out : MasterMsg → State → State
state_with_out message (AtOperate s) =
    AtOperate (record { out = Some (sending_of s.out message); layouts = s.layouts })
state_with_out message s = s

-- in OPERATE this message is out in place of the one that is, whose attempts count on
abbrev pub instead : MasterMsg → Option Sending → Option Sending
instead message None = None
instead message (Some sent) = Some (record sent { message = message })

abbrev pub putting_instead : MasterMsg → State → State
putting_instead message (AtOperate s) = AtOperate (record s { out = instead message s.out })
putting_instead message s = s

-- what is made of what comes back to it
abbrev pub judged_out : Option Sending → Layouts → Option (List ℕ) → NextMode
judged_out None layouts received = InOperate (record { out = None; layouts = layouts }) None
judged_out (Some sent) layouts received =
    operate_by (sending_after_try sent (good_reply layouts.run sent.message received)) layouts
    (attempt_of sent.tries (good_reply layouts.run sent.message received))

-- what a start-up asks of the device counts where its page becomes whole
abbrev pub mode_after_reply : Configuration → State → Option (List ℕ) → NextMode
mode_after_reply c (AtDown s) received = InDown s
mode_after_reply c (AtStartup s) received =
    startup_turned c s (good_reply startup_shape s.sent.message received)
mode_after_reply c (AtPreoperate s) received =
    preoperate_turned s (good_reply s.pre s.sent.message received)
mode_after_reply c (AtOperate s) received = judged_out s.out s.layouts received

-- how the attempt ends
abbrev pub attempt_at : Option Sending → Shape → Option (List ℕ) → Attempt
attempt_at None layout received = Retry
attempt_at (Some sent) layout received =
    attempt_of sent.tries (good_reply layout sent.message received)

abbrev pub attempt_result : State → Option (List ℕ) → Attempt
attempt_result (AtDown s) received = Retry
attempt_result (AtStartup s) received = attempt_at (Some s.sent) startup_shape received
attempt_result (AtPreoperate s) received = attempt_at (Some s.sent) s.pre received
attempt_result (AtOperate s) received = attempt_at s.out s.layouts.run received

-- the attempts at it are fewer than three
abbrev pub AreFew : State → Type 0
AreFew (AtDown s) = ⊤
AreFew (AtStartup s) = s.sent.tries < most_attempts
AreFew (AtPreoperate s) = s.sent.tries < most_attempts
AreFew (AtOperate s) = IfSome s.out (λ sent. sent.tries < most_attempts)

-- what came back to the message that was out is judged, and this is how the attempt ends
pub record IsJudged (c : Configuration) (old : State) (received : Option (List ℕ))
    (attempt : Attempt) (new : State) : Type 0 where
  pub state : outcome_with attempt new ≡ mode_after_reply c old received
  pub fits : StateFits new
  pub few : AreFew old
  pub attempt_is : attempt ≡ attempt_result old received

-- Over an honest wire, whose far end and silence were and are these

-- in OPERATE it accepts the message that is out, in whichever link it is
abbrev pub OutAccepted : Option Sending → Layouts → Far → Type 0
OutAccepted None layouts far = ⊤
OutAccepted (Some sent) layouts far =
    (link : FarLink) → IsOperating layouts link → IsAccepted layouts far.page link sent.message

abbrev pub OutGives : Option Sending → Layouts → Far → NextMode → ℕ → Far → Type 0
OutGives None layouts far outcome silence_new far_new = ⊤
OutGives (Some sent) layouts far outcome silence_new far_new =
    IsMet outcome silence_new far_new × OutAccepted (Some sent) layouts far

abbrev pub StateGives : State → Far → NextMode → ℕ → Far → Type 0
StateGives (AtDown s) far outcome silence_new far_new = ⊤
StateGives (AtStartup s) far outcome silence_new far_new =
    IsRisen (is_behind s.step) outcome silence_new far far_new
StateGives (AtPreoperate s) far outcome silence_new far_new =
    IsRisen true outcome silence_new far far_new
StateGives (AtOperate s) far outcome silence_new far_new =
    OutGives s.out s.layouts far outcome silence_new far_new

-- one exchange, of which this came back
abbrev pub ExchangeGives : State → Option (List ℕ) → NextMode → Type 0
ExchangeGives s received outcome =
    (far far_new : Far) (silence silence_new : ℕ) → StateStands s silence far
    → HonestExchange far silence (text_out s) received far_new silence_new
    → StateGives s far outcome silence_new far_new

-- both ends stand as before
abbrev pub StandsOn : State → State → Type 0
StandsOn old new = (far : Far) (silence : ℕ) → StateStands old silence far
    → StateStands new silence far

-- a far end whose page asks for the layouts accepts the message that is out
abbrev pub AcceptedBy : State → Far → Type 0
AcceptedBy (AtOperate s) far = AreReadFrom s.layouts far → OutAccepted s.out s.layouts far
AcceptedBy s far = ⊤

-- one wake of a port for these devices, which was answered or not
abbrev pub WakeStands : Devices → Bool → Type 0
WakeStands devices answered =
    (far far_new : Far) (silence : ℕ) → SeesPulses devices far → HonestWake far answered far_new
    → StateStands (next_state (mode_after_wake devices answered)) silence far_new

-- one exchange over this wire of the message that is out, at a link that expects any device
pub record IsExchanged {W : Type 0} (facts : WireFacts W) (wire : W) (old : State) (new : W)
    (attempt : Attempt) (state : State) : Type 0 where
  pub sends : IsSending old
  pub answer : Option (ArrayVec ℕ)
  pub called : facts.exchange_gives wire (text_out old) answer new
  pub passes : Passes facts wire (text_out old) answer new
  pub judged : IsJudged any_device old (octets_in answer) attempt state
  pub gives : ExchangeGives old (octets_in answer) (outcome_with attempt state)
  pub honesty : facts.honest new ≡ facts.honest wire
  pub saw : IsHonestFor facts Own new → IsHonestFor facts Own wire
