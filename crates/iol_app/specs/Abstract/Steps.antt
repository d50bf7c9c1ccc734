-- What may happen at one port: an alphabet of steps, and a turn as they are judged in it.
use Rattle.std.specs.Prelude.{◌≡◌, ℕ, ◌+◌, min, Bool, true, false, List, [], ◌∷◌, Option, Some, None, Result, Ok, Err, ⊤}
use Rattle.iol_page.specs.Identity.{is_expected}
use Rattle.iol_page.specs.Page.{layouts_of}
use Rattle.iol_page.specs.declared.identity.Identity.{Identity}
use Rattle.iol_page.specs.declared.page.Layouts.{Layouts}
use Rattle.iol_page.specs.declared.fault.PageFault.{PageFault}
use Rattle.iol_isdu.specs.declared.values.Request.{Request}
use Rattle.iol_isdu.specs.declared.values.Answer.{Answer}
use Rattle.iol_isdu.specs.declared.values.Cause.{Cause}
use Rattle.iol_event.specs.declared.event.Event.{Event}
use Rattle.iol_far.specs.declared.kind.Kind.{Kind}
use Rattle.iol_far.specs.declared.kind.HandsOver.{HandsOver}
use Rattle.iol_far.specs.declared.kind.Recalls.{Recalls}
use Rattle.iol_far.specs.declared.kind.Recalls.TheVariants.{UntilSent}
use Rattle.iol_far.specs.declared.mode.DeviceMode.TheVariants.{Operate as FarOperate}
use Rattle.iol_far.specs.Codec.{layout_in}
use Rattle.iol_far.specs.Level.{Move as MasterMove, Begin, hands_whole}
use Rattle.iol_link.specs.Attempts.{most_attempts}
use Rattle.iol_app.specs.declared.mode.Mode.{Mode}
use Rattle.iol_app.specs.declared.mode.Mode.TheVariants.{Down, Startup, Preoperate, Operate}
use Rattle.iol_mode.specs.declared.configuration.Devices.{Devices}
use Rattle.iol_mode.specs.declared.configuration.Devices.TheVariants.{Own, Any}
use Rattle.iol_mode.specs.declared.why.Why.{Why}
use Rattle.iol_mode.specs.Why.{why_of}

-- the octets of one direction's process data
abbrev pub ImageOctets : Type 0
ImageOctets = List ℕ

pub data PortStep : Type 0 where
  -- a request, under the number of its ticket, is under way
  Take : ℕ → Request → PortStep
  -- the request of this ticket is answered NoIsdu, and never under way
  Deny : ℕ → PortStep
  -- the device carries out the request under way, and answers this
  Carry : Answer → PortStep
  -- it has answered the request under way, and is handed it once more
  Redeliver : PortStep
  -- the request under way has this answer, or is cut off
  Done : Answer → PortStep
  Unknown : Cause → PortStep
  -- the device carries out a request that was cut off
  LateCarry : Answer → PortStep
  -- at a port for any device a wake-up request was answered
  Start : PortStep
  -- the device was reset by a wake-up request, or it has left the mode that it was in
  Reset : PortStep
  -- an event is raised at the device, which takes it
  Raise : Event → PortStep
  -- the device freezes events; the master has read them; the device hears the confirm
  Freeze : List Event → PortStep
  Report : List Event → PortStep
  Confirm : PortStep
  -- at a port for any device a confirm had no good reply: what is frozen still counts as unreported
  Unreport : PortStep
  -- the port's image becomes the device's input, or none
  ShowImage : PortStep
  DropImage : PortStep
  -- a message is made in OPERATE, with the output wanted
  Make : PortStep
  -- a message is heard, after which the device's output is the one sent, or none
  OutputOn : PortStep
  OutputOff : PortStep
  -- the device's input becomes this
  Input : Option ImageOctets → PortStep
  -- the device has a power cycle
  PowerLoss : PortStep
  -- the device's page is read and checked
  PageRead : PortStep
  -- the device replies that it is busy with the request
  Busy : PortStep
  -- the link takes another mode, or is down for a cause
  Move : Mode → Option Why → PortStep

-- The one call of the wire in a turn: a wake, and whether it was answered; an
-- exchange, and whether it brought a good reply
pub data WireCall : Type 0 where
  Woke : Bool → WireCall
  Exchanged : Bool → WireCall

-- how many exchanges in a row brought no unaltered reply, counted up to the most attempts
abbrev pub silence_by : WireCall → ℕ → ℕ
silence_by (Woke answered) silence = silence
silence_by (Exchanged true) silence = 0
silence_by (Exchanged false) silence = min most_attempts (silence + 1)

-- a port that is down wakes its device, any other makes an exchange
-- LINK-1
abbrev pub CallFits : Mode → WireCall → Type 0
CallFits Down (Woke answered) = ⊤
CallFits Startup (Exchanged replied) = ⊤
CallFits Preoperate (Exchanged replied) = ⊤
CallFits Operate (Exchanged replied) = ⊤
CallFits mode call = ⊥

-- what no turn changes: for which devices the port is, how many busy replies a request may have,
-- the page and the kind of the port's device, and the device that is expected
pub record Terms : Type 0 where
  pub devices : Devices
  pub busy_limit : ℕ
  pub page : List ℕ
  pub kind : Kind
  pub expected : Option Identity

-- the device is the one that is expected, if one is
abbrev pub is_right : Terms → Bool
is_right terms = is_expected terms.expected terms.page

-- a port for our own devices repeats the segment of a request that had no good reply, and one that
-- hands it over with its last segment takes the repeat of a whole text for another request
-- REQ-15
abbrev pub repeats_at : Devices → HandsOver → ℕ → MasterMove → Bool
repeats_at Own hands_over size what = hands_whole hands_over size what
repeats_at Any hands_over size what = false

-- whether the device may carry the request out more than once
abbrev pub may_repeat : Terms → Request → Bool
may_repeat terms request = repeats_at terms.devices terms.kind.hands_over
    (layout_in terms.page FarOperate).od (Begin request)

-- such a port trusts its device to know an answer until it is left: from one that doesn't it may
-- take zeros for a part of it
-- REQ-15
abbrev pub misreads_at : Devices → Recalls → Bool
misreads_at Own UntilSent = true
misreads_at devices recalls = false

-- whether an answer that is told may be another than the device's
abbrev pub may_misread : Terms → Bool
may_misread terms = misreads_at terms.devices terms.kind.recalls

-- whether it may be in doubt what the device made of a request
abbrev pub doubts_at : Devices → Recalls → Bool
doubts_at Any recalls = true
doubts_at Own recalls = misreads_at Own recalls

-- how many octets of process data the device gives, and how many it takes
abbrev pub input_length : List ℕ → ℕ
input_length page = (layout_in page FarOperate).pd_in

abbrev pub output_length : List ℕ → ℕ
output_length page = (layout_in page FarOperate).pd_out

abbrev pub fault_in : Result Layouts PageFault → Option Why
fault_in (Ok layouts) = None
fault_in (Err fault) = Some (why_of fault)

-- why a page can't be taken into use
abbrev pub page_refusal : List ℕ → Option Why
page_refusal octets = fault_in (layouts_of octets)

-- a turn, as its steps are judged: the mode and the silence at its beginning, and its wire call
pub record Moment : Type 0 where
  pub terms : Terms
  pub began : Mode
  pub silence : ℕ
  pub call : WireCall

-- the silence at its end
abbrev pub silence_left : Moment → ℕ
silence_left moment = silence_by moment.call moment.silence

-- the steps that bring events to the port
abbrev pub is_report : PortStep → Bool
is_report (Report events) = true
is_report step = false

-- A part of the abstract port, by the steps that it allows and what each leaves of it

module _ {S : Type 0} (after : PortStep → S → S) where
  -- what a list of steps leaves
  abbrev pub through_steps : List PortStep → S → S
  through_steps [] s = s
  through_steps (step ∷ steps) s = through_steps steps (after step s)

module _ {S : Type 0} (May : PortStep → S → Type 0) (after : PortStep → S → S) where
  -- each step of a list is allowed
  abbrev pub MayAll : List PortStep → S → Type 0
  MayAll [] s = ⊤
  MayAll (step ∷ steps) s = May step s × MayAll steps (after step s)

  -- these steps are allowed, and leave this
  abbrev pub TakesSteps : S → List PortStep → S → Type 0
  TakesSteps s steps next = MayAll steps s × (through_steps after steps s ≡ next)
