-- Laws of the event memory and of its reading.
use Rattle.std.specs.Prelude.{◌≡◌, ℕ, zero, suc, ◌+◌, ◌*◌, ◌<◌, ◌≤◌, ◌-◌, List, [], ◌∷◌, ◌++◌, length, replicate, map, IsTrue, Option, Some, None, Result, Ok}
use Rattle.iol_event.specs.declared.event.Event.{Event}
use Rattle.iol_event.specs.declared.faults.EventForm.{EventForm}
use Rattle.iol_event.specs.Memory.{Events, IsEventMemory, no_events, events_after_raise, events_after_confirm, events_after_release, event_octet}
use Rattle.iol_event.specs.Reading.{IsEventList, is_readable, marked_places, places_size, ReaderStep, reader_step, next_address, reading}

-- whatever is raised and heard, the memory is one that calls lead to
pub record MemoryStaysValid : Type 0 where
  pub at_first : IsEventMemory no_events
  pub raise : (memory : Events) (event : Event) → IsEventMemory memory
      → IsEventMemory (events_after_raise memory event)
  pub confirm : (memory : Events) → IsEventMemory memory
      → IsEventMemory (events_after_confirm memory)
  pub other : (memory : Events) → IsEventMemory memory → IsEventMemory (events_after_release memory)

-- a reader that is given the octet of a device at the address that it asks for
abbrev pub taken_from : (ℕ → ℕ) → List ℕ → ReaderStep
taken_from device reader = reader_step reader (device (next_address reader))

-- the answers of a reader that is given so many octets, one after the other
abbrev pub answers : (ℕ → ℕ) → List ℕ → ℕ → List (Result (Option (List Event)) EventForm)
answers device reader zero = []
answers device reader (suc count) =
    let step = taken_from device reader in
    step.answer ∷ answers device step.reader count

-- the event that the octets at a place's addresses spell
abbrev pub event_at : (ℕ → ℕ) → ℕ → Event
event_at device place =
    record {
      qualifier = device (3 * place - 2);
      code = 256 * device (3 * place - 1) + device (3 * place);
    }

-- whatever stands at the addresses: a new reader answers none but to its last
-- octet, and then the events of the marked places in rising order
abbrev pub GivesMarkedPlaces : Type 0
GivesMarkedPlaces =
    (device : ℕ → ℕ) → IsTrue (is_readable (device 0))
    → answers device [] (places_size (device 0) + 1)
    ≡ replicate (places_size (device 0)) (Ok None)
    ++ Ok (Some (map (event_at device) (marked_places (device 0)))) ∷ []

-- a reader that has i octets of n frozen events asks for address i, the next of 0,
-- then 1, 2 and 3, up to 3n - 2, 3n - 1 and 3n
abbrev pub AsksInOrder : Type 0
AsksInOrder = (frozen : List Event) → IsEventList frozen → (i : ℕ) → i ≤ 3 * length frozen
    → next_address (reading frozen i) ≡ i

-- it answers none to each octet but the last
abbrev pub WaitsForAll : Type 0
WaitsForAll =
    (frozen : List Event) → IsEventList frozen → (i : ℕ) → i < 3 * length frozen
    → taken_from (event_octet frozen) (reading frozen i)
    ≡ record { answer = Ok None; reader = reading frozen (i + 1) }

-- it answers the frozen events to the last, and is new
abbrev pub GivesFrozen : Type 0
GivesFrozen =
    (frozen : List Event) → IsEventList frozen
    → taken_from (event_octet frozen) (reading frozen (3 * length frozen))
    ≡ record { answer = Ok (Some frozen); reader = [] }

-- a new reader answers none to the first 3n octets of n frozen events, and those events to the next
abbrev pub ReadsWhole : Type 0
ReadsWhole =
    (frozen : List Event) → IsEventList frozen
    → answers (event_octet frozen) [] (3 * length frozen + 1)
    ≡ replicate (3 * length frozen) (Ok None) ++ Ok (Some frozen) ∷ []
