-- From what happens at the far end to steps, and to what nothing stores: the
-- device's answer, a late request, and whether the frozen list was reported.
use Rattle.std.specs.Prelude.{◌≡◌, ℕ, Bool, true, false, not, ◌&&◌, if◌then◌else◌, List, [], ◌∷◌, ◌++◌, take, Option, Some, None, ⊤}
use Rattle.iol_octets.specs.declared.control.Mc.{Mc}
use Rattle.iol_mseq.specs.declared.master.MasterMsg.{MasterMsg}
use Rattle.iol_isdu.specs.declared.values.Request.{Request}
use Rattle.iol_isdu.specs.declared.values.Answer.{Answer}
use Rattle.iol_event.specs.declared.event.Event.{Event}
use Rattle.iol_event.specs.Memory.{Events, is_empty, is_full, freezes_at_once}
use Rattle.iol_far.specs.Isdu.{IsduState, Handed, fits}
use Rattle.iol_far.specs.Far.{Far, accepted_message, far_after_message, is_confirm, output_of}
use Rattle.iol_far.specs.Local.{LocalStep, local, locals, has_room, is_input, Carry as OwnCarry, Raise as OwnRaise, Input as OwnInput, NoInput as OwnNoInput, Power as OwnPower}
use Rattle.iol_link.specs.Honest.{Passage, OutLost, BackLost, Clean}
use Rattle.iol_app.specs.Abstract.Steps.{PortStep, Carry, Redeliver, LateCarry, Raise, Freeze, Confirm, OutputOn, OutputOff, Input, PowerLoss, ImageOctets}
use Rattle.iol_app.specs.Abstract.Session.{unanswered_request}

-- the answer that the device gave to the request under way, and a request that was
-- cut off and may yet be carried out
pub record Hidden : Type 0 where
  pub answer : Option Answer
  pub late : Option Request

-- the request that the device may still carry out: the one under way where it has
-- no answer; where none is, the late one
abbrev pub open_request : Option Request → Hidden → Option Request
open_request None hidden = hidden.late
open_request (Some request) hidden = unanswered_request hidden.answer request

-- what the device is handed is what it may still carry out
abbrev pub IsOpen : IsduState → Option Request → Hidden → Type 0
IsOpen (Handed held) request hidden = open_request request hidden ≡ Some held
IsOpen state request hidden = ⊤

-- What the device does by itself, while this request is under way

abbrev pub carry_step : Option Request → Answer → PortStep
carry_step None answer = LateCarry answer
carry_step (Some request) answer = Carry answer

-- an answer counts where the device is handed a request, has room and the answer fits
abbrev pub carry_steps : Option Request → IsduState → Far → Answer → List PortStep
carry_steps request (Handed held) far answer =
    if has_room far && fits held answer then carry_step request answer ∷ [] else []
carry_steps request state far answer = []

abbrev pub raise_steps : Events → Event → List PortStep
raise_steps memory event = if is_full memory then [] else
    Raise event ∷ (if freezes_at_once memory then Freeze (event ∷ []) ∷ [] else [])

abbrev pub own_step : Option Request → Far → LocalStep → List PortStep
own_step request far (OwnCarry answer) = carry_steps request far.isdu far answer
own_step request far (OwnRaise event) = raise_steps far.events event
own_step request far (OwnInput image) = if is_input far image then Input (Some image) ∷ [] else []
own_step request far OwnNoInput = Input None ∷ []
own_step request far OwnPower = PowerLoss ∷ []

abbrev pub own_steps : Option Request → Far → List LocalStep → List PortStep
own_steps request far [] = []
own_steps request far (step ∷ steps) =
    own_step request far step ++ own_steps request (local far step) steps

-- an answer belongs to the request under way, else to the late one
abbrev pub hidden_carried : Option Request → Answer → Hidden → Hidden
hidden_carried None answer hidden = record hidden { late = None }
hidden_carried (Some request) answer hidden = record hidden { answer = Some answer }

abbrev pub hidden_carry : Option Request → IsduState → Far → Answer → Hidden → Hidden
hidden_carry request (Handed held) far answer hidden =
    if has_room far && fits held answer then hidden_carried request answer hidden else hidden
hidden_carry request state far answer hidden = hidden

abbrev pub hidden_after : Option Request → Far → LocalStep → Hidden → Hidden
hidden_after request far (OwnCarry answer) hidden = hidden_carry request far.isdu far answer hidden
hidden_after request far step hidden = hidden

abbrev pub hidden_through : Option Request → Far → List LocalStep → Hidden → Hidden
hidden_through request far [] hidden = hidden
hidden_through request far (step ∷ steps) hidden =
    hidden_through request (local far step) steps (hidden_after request far step hidden)

-- what the device is handed has no answer, even if it had one before

abbrev pub redelivered_by : Option Answer → List PortStep
redelivered_by None = []
redelivered_by (Some answer) = Redeliver ∷ []

abbrev pub redeliver_steps : Option Request → IsduState → Hidden → List PortStep
redeliver_steps (Some request) (Handed held) hidden = redelivered_by hidden.answer
redeliver_steps request state hidden = []

abbrev pub hidden_redelivered : Option Request → IsduState → Hidden → Hidden
hidden_redelivered (Some request) (Handed held) hidden = record hidden { answer = None }
hidden_redelivered request state hidden = hidden

-- a list that is frozen now was not reported, nor is one after a power cycle
abbrev pub reported_after : Far → LocalStep → Bool → Bool
reported_after far (OwnRaise event) reported =
    if freezes_at_once far.events then false else reported
reported_after far OwnPower reported = false
reported_after far step reported = reported

abbrev pub reported_through : Far → List LocalStep → Bool → Bool
reported_through far [] reported = reported
reported_through far (step ∷ steps) reported =
    reported_through (local far step) steps (reported_after far step reported)

-- What a message does that the device accepts

abbrev pub confirm_steps : Events → List PortStep
confirm_steps memory = if not memory.held && not (is_empty memory.frozen) then Confirm ∷ [] else []

-- any other message, or a wake
abbrev pub release_steps : Events → List PortStep
release_steps memory = if is_empty memory.frozen && not (is_empty memory.waiting)
    then Freeze (take 6 memory.waiting) ∷ [] else []

abbrev pub event_steps : Events → Bool → List PortStep
event_steps memory true = confirm_steps memory
event_steps memory false = release_steps memory

abbrev pub output_steps : Option ImageOctets → List PortStep
output_steps None = OutputOff ∷ []
output_steps (Some image) = OutputOn ∷ []

-- whether a message is the confirm of events
abbrev pub confirms_by : Mc → Bool
confirms_by mc = is_confirm mc.channel mc.read mc.address

abbrev pub worked_steps : Far → List ℕ → MasterMsg → List PortStep
worked_steps far octets message = event_steps far.events (confirms_by message.mc)
    ++ output_steps (output_of (far_after_message far octets message))

abbrev pub heard_steps_as : Option (Far × MasterMsg) → List ℕ → List PortStep
heard_steps_as None octets = []
heard_steps_as (Some (there, message)) octets = worked_steps there octets message

abbrev pub heard_steps : Far → List ℕ → List PortStep
heard_steps far octets = heard_steps_as (accepted_message far octets) octets

abbrev pub reported_released : Events → Bool → Bool
reported_released memory reported =
    if is_empty memory.frozen && not (is_empty memory.waiting) then false else reported

abbrev pub reported_worked : Events → Bool → Bool → Bool
reported_worked memory true reported = reported
reported_worked memory false reported = reported_released memory reported

abbrev pub reported_heard_as : Option (Far × MasterMsg) → Bool → Bool
reported_heard_as None reported = reported
reported_heard_as (Some (there, message)) reported =
    reported_worked there.events (confirms_by message.mc) reported

abbrev pub reported_heard : Far → List ℕ → Bool → Bool
reported_heard far octets reported = reported_heard_as (accepted_message far octets) reported

-- One exchange: the device's own steps, and what it hears

abbrev pub passed_steps : Passage → Far → List ℕ → List PortStep
passed_steps OutLost far octets = []
passed_steps BackLost far octets = heard_steps far octets
passed_steps Clean far octets = heard_steps far octets

abbrev pub reported_passed : Passage → Far → List ℕ → Bool → Bool
reported_passed OutLost far octets reported = reported
reported_passed BackLost far octets reported = reported_heard far octets reported
reported_passed Clean far octets reported = reported_heard far octets reported

abbrev pub exchange_steps : Option Request → Far → List LocalStep → Passage → List ℕ → List PortStep
exchange_steps request far steps passage octets =
    own_steps request far steps ++ passed_steps passage (locals far steps) octets

abbrev pub reported_exchanged : Far → List LocalStep → Passage → List ℕ → Bool → Bool
reported_exchanged far steps passage octets reported =
    reported_passed passage (locals far steps) octets (reported_through far steps reported)

-- One wake: the device's own steps, and the wake's effect, if any

abbrev pub woken_steps : Bool → Far → List PortStep
woken_steps true far = release_steps far.events ++ OutputOff ∷ []
woken_steps false far = []

abbrev pub reported_woken : Bool → Far → Bool → Bool
reported_woken true far reported = reported_released far.events reported
reported_woken false far reported = reported

abbrev pub wake_steps : Far → List LocalStep → Bool → List PortStep
wake_steps far steps wakes = own_steps None far steps ++ woken_steps wakes (locals far steps)

abbrev pub reported_wake : Far → List LocalStep → Bool → Bool → Bool
reported_wake far steps wakes reported =
    reported_woken wakes (locals far steps) (reported_through far steps reported)
