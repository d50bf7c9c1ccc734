-- The event work of a master: which message is due there.
use Rattle.std.specs.Prelude.{ℕ, Bool, true, false, not, ◌&&◌, ◌==◌, if◌then◌else◌, List, [], slice_index, Some, None, Ok, Err}
use Rattle.iol_event.specs.Reading.{next_address, reader_step}
use Rattle.iol_judge.specs.declared.master_reading.Reading.{Reading}
use Rattle.iol_judge.specs.declared.master_reading.Reading.TheVariants.{Resting, UnderWay, ConfirmDue, Refused}
use Rattle.iol_judge.specs.declared.master_reading.MasterEvents.{MasterEvents}
use Rattle.iol_judge.specs.declared.master_reading.TheConstants.{CONFIRM, STATUS_READ}

-- as a session begins
abbrev pub no_master_events : MasterEvents
no_master_events = record { flag = false; reading = Resting }

-- where the StatusCode is due
abbrev pub flagged_events : MasterEvents
flagged_events = record { flag = true; reading = Resting }

-- a read of the StatusCode, in place of a confirm
-- EVT-10
abbrev pub checks_instead : MasterEvents → List ℕ → List ℕ → Bool
checks_instead events out octets = elim events.reading [
  | ConfirmDue ↦ (slice_index out 0 == CONFIRM) && (slice_index octets 0 == STATUS_READ)
  | _ ↦ false
]

-- whether a new read or write of this diagnosis address is due
abbrev pub is_due : MasterEvents → Bool → ℕ → Bool
is_due events read address = elim events.reading [
  | Resting ↦ read && events.flag && (address == 0)
  | UnderWay reader ↦ read && (address == next_address reader)
  | ConfirmDue ↦ not read && (address == 0)
  | Refused ↦ false
]

-- with one more octet
abbrev pub read_on : List ℕ → ℕ → Reading
read_on reader octet =
    let next = reader_step reader octet in
    elim next.answer [
      | Ok None ↦ UnderWay next.reader
      | Ok (Some list) ↦ ConfirmDue
      | Err form ↦ Refused
    ]

-- with the StatusCode in place of a confirm it ends
abbrev pub reading_after : Reading → ℕ → Reading
reading_after reading octet = elim reading [
  | UnderWay reader ↦ read_on reader octet
  | ConfirmDue ↦ Resting
  | _ ↦ read_on [] octet
]

-- once the good reply to a read brought this octet, or one to the confirm came
abbrev pub reading_after_reply : Bool → ℕ → Reading → Reading
reading_after_reply read octet reading = if read then reading_after reading octet else Resting
