-- Which message is due.
use Rattle.std.specs.Prelude.{List, [], ◌∷◌, Bool, true, false, not, ◌&&◌, if◌then◌else◌, is_some, is_none}
use Rattle.iol_app.specs.declared.event_work.EventRoom.{EventRoom}
use Rattle.iol_app.specs.declared.event_work.EventRoom.TheVariants.{Left, Full}
use Rattle.iol_app.specs.declared.event_work.ReadingProgress.{ReadingProgress}
use Rattle.iol_app.specs.declared.event_work.ReadingProgress.TheVariants.{Resting, UnderWay, ConfirmDue}
use Rattle.iol_app.specs.declared.session.Purpose.{Purpose}
use Rattle.iol_app.specs.declared.session.Purpose.TheVariants.{EnableOutput, DropOutput, Abort, ReadEvent, ConfirmEvents, Request, Idle}
use Rattle.iol_app.specs.Requests.{aborts}
use Rattle.iol_mode.specs.declared.configuration.Devices.{Devices}
use Rattle.iol_mode.specs.declared.configuration.Devices.TheVariants.{Own, Any}
use Rattle.iol_app.specs.State.{SessionState}

-- the exchange at the first test that holds
abbrev pub first_due : List (Bool × Purpose) → Purpose
first_due [] = Idle
first_due (entry ∷ entries) = if entry.0 then entry.1 else first_due entries

abbrev pub is_under_way : ReadingProgress → Bool
is_under_way (UnderWay reader) = true
is_under_way other = false

abbrev pub is_confirm_due : ReadingProgress → Bool
is_confirm_due ConfirmDue = true
is_confirm_due other = false

abbrev pub is_resting : ReadingProgress → Bool
is_resting Resting = true
is_resting other = false

abbrev pub is_left : EventRoom → Bool
is_left Left = true
is_left Full = false

-- what the next new message is for, where there is room for events or not
-- EVT-5, PD-5, REQ-1
abbrev pub due_of : SessionState → EventRoom → Purpose
due_of s room = first_due (
    (is_some s.output.wanted && not s.output.acknowledged, EnableOutput) ∷
    (is_none s.output.wanted && s.output.acknowledged, DropOutput) ∷
    (aborts s.current, Abort) ∷
    (is_under_way s.events.reading, ReadEvent) ∷
    (is_confirm_due s.events.reading, ConfirmEvents) ∷
    (is_resting s.events.reading && s.events.flag && is_left room, ReadEvent) ∷
    (is_some s.current, Request) ∷ [])

abbrev pub is_idle : Purpose → Bool
is_idle Idle = true
is_idle other = false

-- a request may follow: at a port for any device where that surely holds no text
-- REQ-14
abbrev pub may_follow : Devices → Bool → Bool
may_follow Own idle = true
may_follow Any idle = idle

-- no message is out, the next one is IDLE 1, and a request may follow
-- REQ-2
abbrev pub is_ready : SessionState → EventRoom → Bool
is_ready s room = is_none s.exchange && is_idle (due_of s room)
    && may_follow s.configuration.devices s.idle
