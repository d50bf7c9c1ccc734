-- The event memory of a device, and its octets on the diagnosis channel (IEC
-- 61131-9, A.6 and 7.3.8).
use Rattle.std.specs.Prelude.{◌≡◌, ℕ, ◌+◌, ◌-◌, ◌/◌, ◌%◌, ◌^◌, ◌≤◌, Bool, true, false, not, ◌&&◌, nat_le, ◌==◌, if◌then◌else◌, List, [], ◌∷◌, ◌++◌, length, take, drop, Option, Some, None, slice_get, slice_index, IsTrue}
use Rattle.iol_event.specs.declared.event.Event.{Event}

-- an event memory
pub record Events : Type 0 where
  -- what the diagnosis channel shows, in the order raised
  pub frozen : List Event
  -- what is not shown yet, in the order raised
  pub waiting : List Event
  -- whether the last message was a confirm, which holds new events back
  pub held : Bool

abbrev pub no_events : Events
no_events = record { frozen = []; waiting = []; held = false }

abbrev pub is_empty : List Event → Bool
is_empty [] = true
is_empty (event ∷ events) = false

-- whether an event raised now is frozen at once
abbrev pub freezes_at_once : Events → Bool
freezes_at_once memory = is_empty memory.frozen && not memory.held

-- whether an event raised now finds no room
abbrev pub is_full : Events → Bool
is_full memory = not (freezes_at_once memory) && nat_le 32 (length memory.waiting)

-- the memory after an event is raised
-- EVT-1
abbrev pub events_after_raise : Events → Event → Events
events_after_raise memory event =
    if freezes_at_once memory then record memory { frozen = event ∷ [] } else
    if is_full memory then memory else
    record memory { waiting = memory.waiting ++ event ∷ [] }

-- the memory after a confirm: a confirm directly after a confirm does nothing
-- EVT-2
abbrev pub events_after_confirm : Events → Events
events_after_confirm memory =
    if memory.held then memory else record { frozen = []; waiting = memory.waiting; held = true }

-- the memory after any other message, or a wake: the hold ends, and where nothing
-- is frozen up to six waiting events are
-- EVT-3
abbrev pub events_after_release : Events → Events
events_after_release memory =
    if is_empty memory.frozen
    then record { frozen = take 6 memory.waiting; waiting = drop 6 memory.waiting; held = false }
    else record memory { held = false }

-- a memory that some calls lead to
-- EVT-1
pub record IsEventMemory (memory : Events) : Type 0 where
  pub frozen : length memory.frozen ≤ 6
  pub waiting : length memory.waiting ≤ 32
  -- nothing is frozen during the hold
  pub held : IsTrue memory.held → memory.frozen ≡ []
  -- while nothing is frozen, only the hold lets events wait
  pub waits : memory.frozen ≡ [] → IsTrue (not memory.held) → memory.waiting ≡ []

-- StatusCode: bit 7, and a bit for each filled place, bit 0 for place 1
-- EVT-4
abbrev pub status_code : List Event → ℕ
status_code frozen = 128 + (2 ^ length frozen - 1)

-- the octets of an event: the qualifier, the code's high octet, its low octet
abbrev pub octets_of : Event → List ℕ
octets_of event = event.qualifier ∷ (event.code / 256) ∷ (event.code % 256) ∷ []

-- an octet of a place, 0 where the place is not filled
abbrev pub place_octet : Option Event → ℕ → ℕ
place_octet None part = 0
place_octet (Some event) part = slice_index (octets_of event) part

-- the octet at a diagnosis address: StatusCode at 0, place n at 3n - 2, 3n - 1 and 3n
-- EVT-4
unfoldable pub event_octet : List Event → ℕ → ℕ
event_octet frozen address =
    if address == 0 then status_code frozen else
    place_octet (slice_get frozen ((address - 1) / 3)) ((address - 1) % 3)
