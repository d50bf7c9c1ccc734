-- What happens at the far end by itself, and at a wake.
use Rattle.std.specs.Prelude.{◌≡◌, ℕ, Bool, true, false, not, ◌&&◌, ◌==◌, if◌then◌else◌, List, [], ◌∷◌, ◌++◌, length, Option, Some, None, IsTrue, MatchBool}
use Rattle.iol_isdu.specs.declared.values.Request.{Request}
use Rattle.iol_isdu.specs.declared.values.Answer.{Answer}
use Rattle.iol_event.specs.declared.event.Event.{Event}
use Rattle.iol_event.specs.Memory.{no_events, events_after_raise, events_after_release}
use Rattle.iol_far.specs.declared.mode.DeviceMode.TheVariants.{Startup, Operate}
use Rattle.iol_far.specs.Isdu.{IsduState, Empty, Handed, Answered, fits, handed_request}
use Rattle.iol_far.specs.Codec.{layout_in}
use Rattle.iol_far.specs.Record.{takes_more}
use Rattle.iol_far.specs.History.{history_after_raise, history_after_input, history_after_power_cycle}
use Rattle.iol_far.specs.Far.{Far}

-- DEV-16
pub data LocalStep : Type 0 where
  -- the application answers the handed request
  Carry : Answer → LocalStep
  Raise : Event → LocalStep
  Input : List ℕ → LocalStep
  NoInput : LocalStep
  -- a power cycle
  Power : LocalStep

-- whether the record takes one more pair
abbrev pub has_room : Far → Bool
has_room far = takes_more far.room far.carried

-- a handed request is answered, and the pair goes to the end of the record
-- DEV-15
abbrev pub carried_by : IsduState → Far → Answer → Far
carried_by (Handed request) far answer =
    if has_room far && fits request answer
    then record far {
      isdu = Answered request answer None;
      carried = far.carried
          ++ record { request = request; answer = answer } ∷ [];
    }
    else far
carried_by state far answer = far

-- whether this answers a request: it fits one that is handed over
abbrev pub is_answer : Option Request → Answer → Bool
is_answer None answer = false
is_answer (Some request) answer = fits request answer

-- whether an answer is taken from elsewhere
abbrev pub takes_answer : Far → Answer → Bool
takes_answer far answer = has_room far && is_answer (handed_request far.isdu) answer

-- how many octets an input has, 0 where the page has no process data in
-- DEV-17
abbrev pub input_size : Far → ℕ
input_size far = (layout_in far.page Operate).pd_in

-- whether these octets can be the input
-- DEV-17
abbrev pub is_input : Far → List ℕ → Bool
is_input far image = not (input_size far == 0) && (length image == input_size far)

abbrev pub with_input : Far → Option (List ℕ) → Far
with_input far input =
    record far { input = input; history = history_after_input input far.history }

-- the far end after the step, unchanged where that can't be done
-- DEV-16
abbrev pub local : Far → LocalStep → Far
local far (Carry answer) = carried_by far.isdu far answer
local far (Raise event) = record far {
  events = events_after_raise far.events event;
  history = history_after_raise far.events event far.history;
}
local far (Input image) = if is_input far image then with_input far (Some image) else far
local far NoInput = with_input far None
local far Power = record far {
  awake = false;
  isdu = Empty;
  events = no_events;
  input = None;
  valid = false;
  history = history_after_power_cycle far.history;
}

abbrev pub locals : Far → List LocalStep → Far
locals far [] = far
locals far (step ∷ steps) = locals (local far step) steps

-- the far end after a wake
-- DEV-1
abbrev pub far_after_wake : Far → Far
far_after_wake far =
    record far {
      awake = true;
      mode = Startup;
      waits = None;
      isdu = Empty;
      events = events_after_release far.events;
      valid = false;
    }

-- Working a handed request off at the far end alone, whatever application stands behind
-- it: where the record has room, with some answer that fits; else nothing changes
abbrev pub IsWorkedOff : Option Request → Far → Far → Type 0
IsWorkedOff None old new = new ≡ old
IsWorkedOff (Some request) old new =
    MatchBool (has_room old)
    ((answer : Answer) × IsTrue (fits request answer) × (new ≡ local old (Carry answer)))
    (new ≡ old)
