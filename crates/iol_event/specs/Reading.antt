-- Reading the events of a device, octet by octet. A reader is the list of the
-- octets that it has: StatusCode, then those of the places.
use Rattle.std.specs.Prelude.{ℕ, ◌+◌, ◌-◌, ◌*◌, ◌/◌, ◌%◌, ◌≤◌, zero, suc, Bool, true, not, ◌&&◌, nat_lt, ◌==◌, if◌then◌else◌, List, [], ◌∷◌, ◌++◌, length, filter, slice_index, Option, Some, None, Result, Ok, Err}
use Rattle.std.specs.Int.{bit_at}
use Rattle.iol_event.specs.declared.event.Event.{Event}
use Rattle.iol_event.specs.declared.faults.EventForm.{EventForm}
use Rattle.iol_event.specs.Faults.{event_form}
use Rattle.iol_event.specs.Memory.{event_octet}

-- whether a StatusCode marks a place, bit 0 for place 1
abbrev pub marks : ℕ → ℕ → Bool
marks status place = bit_at status (place - 1) == 1

-- the places that a StatusCode marks, in rising order
abbrev pub marked_places : ℕ → List ℕ
marked_places status = filter (marks status) (1 ∷ 2 ∷ 3 ∷ 4 ∷ 5 ∷ 6 ∷ [])

-- whether a StatusCode is one with details, by its bit 7, that marks a place; bit 6 is ignored
-- EVT-7
abbrev pub is_readable : ℕ → Bool
is_readable status = bit_at status 7 == 1 && nat_lt 0 (length (marked_places status))

-- how many octets of places a reading with this StatusCode has
abbrev pub places_size : ℕ → ℕ
places_size status = 3 * length (marked_places status)

-- the events whose octets these are, three for each: the qualifier, the code's high
-- octet, its low octet
abbrev pub events_of : List ℕ → List Event
events_of (qualifier ∷ high ∷ low ∷ rest) =
    record { qualifier = qualifier; code = 256 * high + low } ∷ events_of rest
events_of octets = []

-- the octets of a reading that is not at its end
abbrev pub is_reading : List ℕ → Bool
is_reading [] = true
is_reading (status ∷ octets) = is_readable status && nat_lt (length octets) (places_size status)

-- where the octets of the marked places stand, by their index: 3n - 2, 3n - 1 and
-- 3n for each marked place n
abbrev pub place_address : ℕ → ℕ → ℕ
place_address status index = 3 * slice_index (marked_places status) (index / 3) - 2 + index % 3

-- the diagnosis address that is read next: 0, then those of the marked places
-- EVT-6
abbrev pub next_address : List ℕ → ℕ
next_address [] = 0
next_address (status ∷ octets) = place_address status (length octets)

-- what a reader answers, and the octets that it goes on with
pub record ReaderStep : Type 0 where
  pub answer : Result (Option (List Event)) EventForm
  pub reader : List ℕ

-- by all octets of the reading: a StatusCode that is refused, more to come, or the
-- list; then the reader is new
abbrev pub taken_all : List ℕ → ReaderStep
taken_all [] = record { answer = Ok None; reader = [] }
taken_all (status ∷ octets) =
    if not (is_readable status) then record { answer = Err event_form; reader = [] } else
    if nat_lt (length octets) (places_size status)
    then record { answer = Ok None; reader = status ∷ octets } else
    record { answer = Ok (Some (events_of octets)); reader = [] }

-- what a reader does with the next octet
-- EVT-6
abbrev pub reader_step : List ℕ → ℕ → ReaderStep
reader_step reader octet = taken_all (reader ++ octet ∷ [])

-- one to six events
pub record IsEventList (events : List Event) : Type 0 where
  pub some : 1 ≤ length events
  pub most : length events ≤ 6

-- a reader that has the octets of a frozen memory at the first so many addresses
abbrev pub reading : List Event → ℕ → List ℕ
reading frozen zero = []
reading frozen (suc count) = reading frozen count ++ event_octet frozen count ∷ []
