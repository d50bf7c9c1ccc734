-- What a turn gives: one call of the wire and one list of steps, in order, allowed and with
-- their effects in each part of the abstract port.
use Rattle.std.specs.Prelude.{◌≡◌, ◌≢◌, ◌⊎◌, ◌≤◌, ℕ, Bool, true, false, List, [], ◌∷◌, ◌++◌, filter, Option, Some, None, IsTrue, ⊤}
use Rattle.std.specs.List.{list_all}
use Rattle.iol_isdu.specs.declared.values.Cause.TheVariants.{LinkLost}
use Rattle.iol_event.specs.declared.event.Event.{Event}
use Rattle.iol_mode.specs.declared.why.Why.TheVariants.{NoWake, Lost}
use Rattle.iol_app.specs.declared.mode.Mode.{Mode}
use Rattle.iol_app.specs.declared.mode.Mode.TheVariants.{Down, Startup, Preoperate, Operate}
use Rattle.iol_app.specs.Abstract.Steps.{PortStep, Carry, Redeliver, Done, Unknown, LateCarry, Start, Reset, Raise, Freeze, Report, Confirm, Unreport, ShowImage, DropImage, OutputOn, OutputOff, Input, PowerLoss, PageRead, Busy, Move, WireCall, Woke, Exchanged, silence_by, is_report, Moment}
use Rattle.iol_app.specs.Abstract.Events.{Frozen}
use Rattle.iol_app.specs.Abstract.Images.{Images}

-- The steps of one wake, or of one exchange

-- what a device does by itself, before it hears the message
abbrev pub is_own_step : PortStep → Bool
is_own_step (Carry answer) = true
is_own_step (LateCarry answer) = true
is_own_step (Raise event) = true
is_own_step (Freeze events) = true
is_own_step (Input input) = true
is_own_step PowerLoss = true
is_own_step step = false

-- then it may be handed the request under way once more
abbrev pub is_handing : List PortStep → Bool
is_handing [] = true
is_handing (Redeliver ∷ []) = true
is_handing steps = false

abbrev pub is_output_then : List PortStep → Bool
is_output_then (OutputOn ∷ steps) = is_handing steps
is_output_then (OutputOff ∷ steps) = is_handing steps
is_output_then steps = false

-- what it does with the message, if it hears it: only in OPERATE that is a confirm of events; any
-- other may have it freeze those that wait
abbrev pub is_hearing : Mode → List PortStep → Bool
is_hearing mode [] = true
is_hearing Operate (Confirm ∷ steps) = is_output_then steps
is_hearing mode (Freeze events ∷ steps) = is_output_then steps
is_hearing mode steps = is_output_then steps

-- What the answer brings the port

-- to a wake
abbrev pub wake_brings : Bool → List PortStep → Bool
wake_brings false (Move Down (Some NoWake) ∷ []) = true
wake_brings true (Start ∷ []) = true
wake_brings true (Reset ∷ []) = true
wake_brings answered steps = false

-- where it is no good reply: nothing, or that nothing counts as reported; or the link is lost
abbrev pub loss_brings : List PortStep → Bool
loss_brings [] = true
loss_brings (Unreport ∷ []) = true
loss_brings (Move Down (Some Lost) ∷ []) = true
loss_brings (DropImage ∷ Move Down (Some Lost) ∷ []) = true
loss_brings (Unknown LinkLost ∷ DropImage ∷ Move Down (Some Lost) ∷ []) = true
loss_brings steps = false

-- a good reply in STARTUP
abbrev pub startup_brings : List PortStep → Bool
startup_brings [] = true
startup_brings (Reset ∷ []) = true
startup_brings (PageRead ∷ []) = true
startup_brings (Move mode why ∷ []) = true
startup_brings steps = false

-- in PREOPERATE
abbrev pub preoperate_brings : List PortStep → Bool
preoperate_brings [] = true
preoperate_brings (Move mode why ∷ []) = true
preoperate_brings steps = false

-- in OPERATE: the input, behind what it says of the request or of the events
abbrev pub is_outcome_step : PortStep → Bool
is_outcome_step Busy = true
is_outcome_step (Done answer) = true
is_outcome_step (Unknown cause) = true
is_outcome_step (Report events) = true
is_outcome_step step = false

abbrev pub operate_brings : List PortStep → Bool
operate_brings (ShowImage ∷ []) = true
operate_brings (step ∷ ShowImage ∷ []) = is_outcome_step step
operate_brings steps = false

abbrev pub may_bring : Mode → WireCall → List PortStep → Bool
may_bring Down (Woke answered) steps = wake_brings answered steps
may_bring mode (Exchanged false) steps = loss_brings steps
may_bring Startup (Exchanged true) steps = startup_brings steps
may_bring Preoperate (Exchanged true) steps = preoperate_brings steps
may_bring Operate (Exchanged true) steps = operate_brings steps
may_bring mode call steps = false

-- the device's own steps, what it does with the message, and what the reply brings the port
pub record IsInOrder (mode : Mode) (call : WireCall) (steps : List PortStep) : Type 0 where
  pub own : List PortStep
  pub heard : List PortStep
  pub received : List PortStep
  pub is : steps ≡ own ++ heard ++ received
  pub by_itself : IsTrue (list_all is_own_step own)
  pub hears : IsTrue (is_hearing mode heard)
  pub brings : IsTrue (may_bring mode call received)

-- what is reported was frozen when the turn began, and not reported yet
abbrev pub WasFrozen : List PortStep → Option Frozen → Type 0
WasFrozen steps f = (events : List Event) → filter is_report steps ≡ Report events ∷ []
    → f ≡ Some (record { events = events; reported = false })

-- beyond STARTUP the page was read whole in this session
abbrev pub IsPageRead : Mode → List ℕ → Option (List ℕ) → Type 0
IsPageRead Preoperate page read = read ≡ Some page
IsPageRead Operate page read = read ≡ Some page
IsPageRead mode page read = ⊤

-- The images

-- a turn that began in OPERATE and leaves no silence leaves the image equal to the device's
-- input; one that ends in another mode leaves none; any other leaves the image as it was
-- PD-2
abbrev pub ImageIsLast : Moment → Mode → Images → Images → Type 0
ImageIsLast moment ended i next =
    ((moment.began ≡ Operate) × (silence_by moment.call moment.silence ≡ 0)
    → next.image ≡ next.input)
    × (ended ≢ Operate → next.image ≡ None)
    × ((moment.began ≢ Operate) ⊎ (1 ≤ silence_by moment.call moment.silence) → ended ≡ Operate
    → next.image ≡ i.image)

-- a turn that began in OPERATE without silence and leaves none leaves the device's output as wanted
-- PD-7
abbrev pub OutputIsWanted : Moment → Images → Images → Type 0
OutputIsWanted moment i next = (moment.began ≡ Operate) × (moment.silence ≡ 0)
    × (silence_by moment.call moment.silence ≡ 0) → next.output ≡ i.wanted
