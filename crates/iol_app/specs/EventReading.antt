-- The reading of events: StatusCode, the octets of the marked places, the confirm
-- (IEC 61131-9, 7.3.8).
use Rattle.std.specs.Prelude.{ℕ, Bool, true, false, List, [], Option, Some, None, Result, Ok, Err, slice_index}
use Rattle.iol_mseq.specs.declared.reply.Reply.{Reply}
use Rattle.iol_event.specs.declared.event.Event.{Event}
use Rattle.iol_event.specs.declared.faults.EventForm.{EventForm}
use Rattle.iol_event.specs.Reading.{reader_step}
use Rattle.iol_app.specs.declared.report.Said.{Said}
use Rattle.iol_app.specs.declared.report.Said.TheVariants.{Reported}
use Rattle.iol_app.specs.declared.event_work.EventWork.{EventWork}
use Rattle.iol_app.specs.declared.event_work.ReadingProgress.{ReadingProgress}
use Rattle.iol_app.specs.declared.event_work.ReadingProgress.TheVariants.{Resting, UnderWay, ConfirmDue, Refused}
use Rattle.iol_app.specs.declared.session.Purpose.{Purpose}
use Rattle.iol_app.specs.declared.session.Purpose.TheVariants.{ReadEvent, ConfirmEvents}

-- as a start-up begins
abbrev pub new_event_work : EventWork
new_event_work = record { flag = false; reading = Resting }

-- the octets that the reading has
abbrev pub reader_of : ReadingProgress → List ℕ
reader_of (UnderWay reader) = reader
reader_of other = []

-- a StatusCode was refused since the last start-up
abbrev pub is_refused : ReadingProgress → Bool
is_refused Refused = true
is_refused other = false

-- goes on, ends with a list that is to be confirmed, or is refused
-- EVT-7
abbrev pub reading_by : Result (Option (List Event)) EventForm → List ℕ → ReadingProgress
reading_by (Ok None) reader = UnderWay reader
reading_by (Ok (Some list)) reader = ConfirmDue
reading_by (Err form) reader = Refused

abbrev pub list_by : Result (Option (List Event)) EventForm → Option (List Event)
list_by (Ok list) = list
list_by (Err form) = None

-- the reading after one more octet, and the list that is whole with it
abbrev pub reading_after_octet : ReadingProgress → ℕ → ReadingProgress
reading_after_octet reading octet =
    reading_by (reader_step (reader_of reading) octet).answer
    (reader_step (reader_of reading) octet).reader

abbrev pub list_after : ReadingProgress → ℕ → Option (List Event)
list_after reading octet = list_by (reader_step (reader_of reading) octet).answer

-- the reading after the good reply to a message that was sent for this, with these on-request data
abbrev pub reading_after_exchange : Purpose → List ℕ → ReadingProgress → ReadingProgress
reading_after_exchange ReadEvent od reading = reading_after_octet reading (slice_index od 0)
reading_after_exchange ConfirmEvents od _ = Resting
reading_after_exchange any od so_far = so_far

-- and the list that became whole
-- EVT-8
abbrev pub list_read : Purpose → List ℕ → ReadingProgress → Option (List Event)
list_read ReadEvent od reading = list_after reading (slice_index od 0)
list_read any od _ = None

-- what is said once that list is told; where none became whole it stays
abbrev pub reported_list : Option (List Event) → Said → Said
reported_list None report = report
reported_list (Some list) report = Reported list

-- the event work after that reply
abbrev pub event_work_after : Purpose → Reply → EventWork → EventWork
event_work_after exchange reply events =
    record {
      flag = reply.event;
      reading =
          reading_after_exchange exchange reply.od.items events.reading;
    }
