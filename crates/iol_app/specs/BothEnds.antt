-- How a session's request, its reading of events and the device stand together.
use Rattle.std.specs.Prelude.{◌≡◌, ◌⊎◌, ℕ, ◌*◌, ◌≤◌, Bool, true, false, List, ◌∷◌, length, Option, Some, None, IfSome, ⊤}
use Rattle.iol_mseq.specs.declared.master.MasterMsg.{MasterMsg}
use Rattle.iol_page.specs.declared.master_command.MasterCommand.{MasterCommand}
use Rattle.iol_page.specs.declared.master_command.MasterCommand.TheVariants.{ProcessDataOutputOperate, DeviceOperate}
use Rattle.iol_isdu.specs.declared.values.Request.{Request}
use Rattle.iol_isdu.specs.declared.values.Answer.{Answer}
use Rattle.iol_event.specs.declared.event.Event.{Event}
use Rattle.iol_event.specs.Memory.{Events}
use Rattle.iol_event.specs.Reading.{reading}
use Rattle.iol_far.specs.declared.carried.Carried.{Carried}
use Rattle.iol_far.specs.declared.mode.DeviceMode as far
use Rattle.iol_far.specs.declared.mode.DeviceMode.TheVariants.{Startup as FarStartup, Preoperate as FarPreoperate, Operate as FarOperate}
use Rattle.iol_far.specs.Far.{Far, is_mode}
use Rattle.iol_far.specs.Level.{Progress, Quiet, NoneHeld, Perhaps, Written, Received, Unsure, grown_by, Busy as IsBusy}
use Rattle.iol_far.specs.Laws.{IsFrozen, IsConfirming}
use Rattle.iol_app.specs.declared.mode.Mode.{Mode}
use Rattle.iol_app.specs.declared.mode.Mode.TheVariants.{Down, Startup, Preoperate, Operate}
use Rattle.iol_app.specs.Abstract.OfDevice.{Hidden, confirms_by}

-- The fields

-- the reading of events
pub data ReadingState : Type 0 where
  -- none is due
  Resting : ReadingState
  -- the last good reply had the Event flag, and no octet is read yet
  Flagged : ReadingState
  -- these octets are read
  Under : List ℕ → ReadingState
  -- the list is whole and reported, and its confirm has no good reply yet
  Due : Event → List Event → ReadingState

abbrev pub wants_confirm : ReadingState → Bool
wants_confirm (Due first rest) = true
wants_confirm _ = false

-- the reading wants another octet
abbrev pub wants_octet : ReadingState → Bool
wants_octet Resting = false
wants_octet Flagged = true
wants_octet (Under octets) = true
wants_octet (Due first rest) = false

-- Layouts and messages

-- the device's mode in which a master of this mode sends
abbrev pub far_mode : Mode → far.DeviceMode
far_mode Down = FarStartup
far_mode Startup = FarStartup
far_mode Preoperate = FarPreoperate
far_mode Operate = FarOperate

abbrev pub is_confirm_message : MasterMsg → Bool
is_confirm_message message = confirms_by message.mc

-- in OPERATE two commands say whether the output is valid
abbrev pub output_by : Mode → Option MasterCommand → Option Bool
output_by Operate (Some ProcessDataOutputOperate) = Some true
output_by Operate (Some DeviceOperate) = Some false
output_by mode command = None

-- Both ends

-- the record was `base` when the request was begun, and has grown by the device's answer
abbrev pub AnswerFits : List Carried → Option Request → Hidden → List Carried → Type 0
AnswerFits base None hidden carried = carried ≡ base
AnswerFits base (Some request) hidden carried =
    ((hidden.answer ≡ None) × (carried ≡ base))
    ⊎ ((answer : Answer) × (hidden.answer ≡ Some answer) × (carried ≡ grown_by base request answer))

-- the progress is that of the request under way; at Quiet and NoneHeld none of its segments had a
-- good reply
abbrev pub ProgressFits : Progress → Option Request → Type 0
ProgressFits Quiet request = ⊤
ProgressFits NoneHeld request = ⊤
ProgressFits (Perhaps named) request = request ≡ Some named
ProgressFits (Written named i) request = request ≡ Some named
ProgressFits (IsBusy named) request = request ≡ Some named
ProgressFits (Received named i text) request = request ≡ Some named
ProgressFits (Unsure named) request = request ≡ Some named

-- the event memory while a list is read, and while its confirm is due; and while
-- the confirm is out, when it may have been heard
abbrev pub EventsFit : ReadingState → Bool → Events → Type 0
EventsFit Resting confirming memory = ⊤
EventsFit Flagged confirming memory = (first : Event) × (rest : List Event)
    × IsFrozen first rest memory
-- the octets are those of the frozen list's memory
EventsFit (Under octets) confirming memory =
    (first : Event) × (rest : List Event) × IsFrozen first rest memory
    × ((i : ℕ) × (i ≤ 3 * length (first ∷ rest)) × (octets ≡ reading (first ∷ rest) i))
EventsFit (Due first rest) false memory = IsFrozen first rest memory
EventsFit (Due first rest) true memory = IsConfirming first rest memory

-- a command that waits is for another mode
abbrev pub WaitsElsewhere : Far → Type 0
WaitsElsewhere far = IfSome far.waits (λ command. is_mode far.mode command.into ≡ false)
