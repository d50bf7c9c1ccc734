-- What may be said of a request and of a reading of events, over every wire.
use Rattle.std.specs.Prelude.{◌≡◌, ◌⊎◌, Bool, true, false, ◌||◌, Option, Some}
use Rattle.iol_app.specs.declared.report.Said.{Said}
use Rattle.iol_app.specs.declared.report.Said.TheVariants.{Reported}
use Rattle.iol_app.specs.declared.event_work.EventRoom.{EventRoom}
use Rattle.iol_app.specs.declared.event_work.EventRoom.TheVariants.{Left}
use Rattle.iol_app.specs.declared.session.Purpose.{Purpose}
use Rattle.iol_app.specs.declared.session.Purpose.TheVariants.{ReadEvent}
use Rattle.iol_app.specs.Due.{is_under_way}
use Rattle.iol_app.specs.State.{SessionState}
use Rattle.iol_app.specs.Requests.{request_under_way, request_after, EndsRequest}

abbrev pub is_read_out : Option Purpose → Bool
is_read_out (Some ReadEvent) = true
is_read_out other = false

-- a reading of events was begun: its first read is out, or it has octets
abbrev pub has_begun_reading : SessionState → Bool
has_begun_reading s = is_read_out s.exchange || is_under_way s.events.reading

-- a report ends a reading that was begun before; and one begins only where there is room
abbrev pub ReadingAfter : EventRoom → Bool → Said → Bool → Type 0
ReadingAfter room before (Reported events) after = (before ≡ true) × (after ≡ false)
ReadingAfter room before report after = after ≡ true → (before ≡ true) ⊎ (room ≡ Left)

-- what is said fits what became of the session
pub record ReportFits (room : EventRoom) (old : SessionState) (report : Said) (new : SessionState) :
    Type 0 where
  -- an answer and a cut end the request under way
  pub request : request_under_way new.current ≡ request_after (request_under_way old.current) report
  -- both are said only of one
  pub ends : EndsRequest report (request_under_way old.current)
  -- a report ends a reading that was begun, and `room` says whether one may begin
  pub reading : ReadingAfter room (has_begun_reading old) report (has_begun_reading new)
