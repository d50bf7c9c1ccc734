-- What is known of a device's events.
use Rattle.std.specs.Prelude.{ℕ, ◌+◌, ◌-◌, ◌/◌, max, Bool, true, false, not, ◌&&◌, ◌||◌, ◌==◌, nat_le, nat_lt, if◌then◌else◌, List, replicate, slice_index_or, slice_set, Option, Some, None}
use Rattle.std.specs.Cmp.Lexicographic.{pointwise}
use Rattle.iol_judge.specs.declared.events.FilledPlaces.{FilledPlaces}
use Rattle.iol_judge.specs.declared.events.ShownEvents.{ShownEvents}
use Rattle.iol_judge.specs.declared.events.ShownEvents.TheVariants.{Held, Any, Fresh, Filled}
use Rattle.iol_judge.specs.declared.reason.Reason.{Reason}
use Rattle.iol_judge.specs.declared.reason.Reason.TheVariants.{FlagAtConfirm, FlagGone, StatusCode, EventOctet}
use Rattle.iol_judge.specs.Octets.{is_known_in, is_other}

-- What the first allows whatever the second does

abbrev pub covers_places : FilledPlaces → FilledPlaces → Bool
covers_places a b =
    nat_le a.least b.least && nat_le b.most a.most && pointwise is_known_in a.octets b.octets

abbrev pub covers_events : ShownEvents → ShownEvents → Bool
covers_events Held Held = true
covers_events Any Any = true
covers_events Any Fresh = true
covers_events Any (Filled b) = true
covers_events Fresh Fresh = true
covers_events (Filled a) (Filled b) = covers_places a b
covers_events a b = false

-- A message, and a wake-up request, which does what a message does

-- the confirm holds new events back, and any other message ends that
abbrev pub shown_after : ShownEvents → Bool → ShownEvents
shown_after shown true = Held
shown_after Held false = Any
shown_after shown false = shown

-- The Event flag of the reply

abbrev pub flag_fault : ShownEvents → Bool → Option Reason
flag_fault Held true = Some FlagAtConfirm
flag_fault (Filled places) false = Some FlagGone
flag_fault shown flag = None

-- some places are filled, at most so many, and none was read
abbrev pub first_places : ℕ → ShownEvents
first_places most = Filled (record { least = 1; most = most; octets = replicate 18 None })

abbrev pub flag_updated : ShownEvents → Bool → ShownEvents
flag_updated Any true = first_places 6
flag_updated Fresh true = first_places 1
flag_updated Any false = Fresh
flag_updated shown flag = shown

-- The octets of the diagnosis channel, once the flag was had

-- how many places a StatusCode marks, the first ones; none where it marks others
abbrev pub marked_count : ℕ → Option ℕ
marked_count status =
    if status == 0x80 then Some 0 else
    if status == 0x81 then Some 1 else
    if status == 0x83 then Some 2 else
    if status == 0x87 then Some 3 else
    if status == 0x8F then Some 4 else
    if status == 0x9F then Some 5 else
    if status == 0xBF then Some 6 else
    None

abbrev pub status_fault : FilledPlaces → Option ℕ → Option Reason
status_fault places None = Some StatusCode
status_fault places (Some count) =
    if nat_le places.least count && nat_le count places.most then None else Some StatusCode

-- the octet of a diagnosis address, where it was read
abbrev pub place_known : List (Option ℕ) → ℕ → Option ℕ
place_known octets address =
    if nat_le 1 address && nat_le address 18 then slice_index_or octets (address - 1) None else None

-- an octet that isn't 0 stands in a filled place, and none changes
abbrev pub fills : FilledPlaces → ℕ → ℕ → Bool
fills places address octet =
    (octet == 0 || nat_lt ((address - 1) / 3) places.most)
    && not (is_other (place_known places.octets address) octet)

-- why a diagnosis address can't read as this octet
abbrev pub places_fault : FilledPlaces → ℕ → ℕ → Option Reason
places_fault places address octet =
    if address == 0 then status_fault places (marked_count octet) else
    if fills places address octet then None else Some EventOctet

abbrev pub no_places : FilledPlaces
no_places = record { least = 0; most = 0; octets = replicate 18 None }

abbrev pub places_of : ShownEvents → FilledPlaces
places_of (Filled places) = places
places_of shown = no_places

abbrev pub events_fault : ShownEvents → ℕ → ℕ → Option Reason
events_fault shown address octet = places_fault (places_of shown) address octet

abbrev pub marks_updated : FilledPlaces → Option ℕ → FilledPlaces
marks_updated places None = places
marks_updated places (Some count) = record places { least = count; most = count }

abbrev pub octet_updated : FilledPlaces → ℕ → ℕ → FilledPlaces
octet_updated places address octet = record places {
  least = if octet == 0 then places.least else max places.least ((address - 1) / 3 + 1);
  octets = slice_set places.octets (address - 1) (Some octet);
}

abbrev pub places_updated : FilledPlaces → ℕ → ℕ → FilledPlaces
places_updated places address octet =
    if address == 0 then marks_updated places (marked_count octet) else
    if nat_le address 18 then octet_updated places address octet else places

-- once a diagnosis address was read as this octet
abbrev pub events_updated : ShownEvents → ℕ → ℕ → ShownEvents
events_updated (Filled places) address octet = Filled (places_updated places address octet)
events_updated shown address octet = shown
