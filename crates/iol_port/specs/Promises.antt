-- The laws of the abstract port, over whole runs.
use Rattle.std.specs.Prelude.{◌≡◌, ◌≢◌, ◌⊎◌, ℕ, Bool, true, false, List, ◌++◌, Option, Some, None, IfSome, length}
use Rattle.iol_far.specs.Far.{Far}
use Rattle.iol_book.specs.declared.limits.Limits.{Limits}
use Rattle.iol_book.specs.declared.entries.Ticket.{Ticket}
use Rattle.iol_book.specs.Replay.{is_taken}
use Rattle.iol_isdu.specs.declared.values.Cause.TheVariants.{Cancelled}
use Rattle.iol_event.specs.declared.event.Event.{Event}
use Rattle.iol_app.specs.Abstract.Steps.{PortStep, Unknown, Unreport, Exchanged, Moment, MayAll, input_length, is_right}
use Rattle.iol_app.specs.Abstract.Session.{Job, Session, MaySession, session_after}
use Rattle.iol_app.specs.declared.mode.Mode.TheVariants.{Operate, Startup, Down}
use Rattle.iol_port.specs.declared.call.Call.{Call}
use Rattle.iol_port.specs.declared.call.Call.TheVariants as call
use Rattle.iol_port.specs.declared.call.Answered.{Answered}
use Rattle.iol_port.specs.declared.call.Answered.TheVariants as answered
use Rattle.iol_port.specs.Run.{PortState, TurnOf, SendOf, ReceiveOf, Piece, Whole, PieceOf, Pieces, Run, port_at_opening}
use Rattle.iol_port.specs.Owners.{IsOneOf}
use Rattle.iol_port.specs.Sound.{PortIsSound}
use Rattle.iol_mode.specs.declared.configuration.Devices.{Devices}
use Rattle.iol_mode.specs.declared.configuration.Devices.TheVariants.{Any}

-- a port that is opened is sound
abbrev pub OpensSound : Type 0
OpensSound = (devices : Devices) (limits : Limits) (far : Far) (silence : ℕ)
    → PortIsSound (port_at_opening devices limits far silence)

-- and every run keeps it so
abbrev pub RunsSound : Type 0
RunsSound = (a b : PortState) (calls : List Call) (replies : List Answered) → Run a calls replies b
    → PortIsSound a → PortIsSound b

-- in pieces as well
abbrev pub PiecesSound : Type 0
PiecesSound =
    (a b : PortState) (pieces : List Piece) (replies : List Answered) → Pieces a pieces replies b
    → PortIsSound a → PortIsSound b

-- a turn that begins in OPERATE and brings a good reply ends in OPERATE
abbrev pub GoodLinkStays : Type 0
GoodLinkStays = (a b : PortState) → TurnOf a b → a.session.mode ≡ Operate → b.silence ≡ 0
    → b.session.mode ≡ Operate

-- events come with a good reply in OPERATE alone: those that the device had frozen when the turn
-- began, and that were not reported yet
abbrev pub EventsAreRead : Type 0
EventsAreRead = (a b : PortState) → TurnOf a b → (b.queued ≡ a.queued)
    ⊎ ((a.session.mode ≡ Operate) × (b.silence ≡ 0) × ((events : List Event)
    × (a.frozen ≡ Some (record { events = events; reported = false }))
    × (b.queued ≡ a.queued ++ events)))

-- a turn with a good reply that finds such events leaves them frozen, unless it reports them
abbrev pub NoneIsSwallowed : Type 0
NoneIsSwallowed = (a b : PortState) → TurnOf a b → a.session.mode ≢ Down → b.silence ≡ 0
    → (events : List Event) → a.frozen ≡ Some (record { events = events; reported = false })
    → (b.frozen ≡ a.frozen) ⊎ ((b.frozen ≡ Some (record { events = events; reported = true }))
    × (b.queued ≡ a.queued ++ events))

-- a device that had a power cycle stays asleep, and answers nothing, until a wake
abbrev pub AsleepAnswersNothing : Type 0
AsleepAnswersNothing = (a b : PortState) → TurnOf a b → a.session.mode ≢ Down
    → a.images.awake ≡ false → (b.images.awake ≡ false) × (b.silence ≢ 0)

-- an image that a good reply brings in OPERATE is none, or has the length that the page says
abbrev pub ImagesHaveLength : Type 0
ImagesHaveLength = (a b : PortState) → TurnOf a b → a.session.mode ≡ Operate → b.silence ≡ 0
    → IfSome b.images.image (λ image. length image ≡ input_length b.terms.page)

-- a start-up that has not read the page goes on to no other mode than down
abbrev pub StartsByPage : Type 0
StartsByPage = (a b : PortState) → TurnOf a b → a.session.mode ≡ Startup
    → a.images.page ≡ None → (b.session.mode ≡ Startup) ⊎ (b.session.mode ≡ Down)

-- and it doesn't read that of a device which is not the expected one
abbrev pub WrongPagesStayUnread : Type 0
WrongPagesStayUnread = (a b : PortState) → TurnOf a b → a.session.mode ≡ Startup
    → a.images.page ≡ None → is_right a.terms ≡ false → b.images.page ≡ None

-- where a reply is missing already, a turn changes that, so that nothing at all is no turn
abbrev pub NothingIsNoTurn : Type 0
NothingIsNoTurn = (a : PortState) → a.session.mode ≡ Operate → a.silence ≡ 1 → TurnOf a a → ⊥

-- a run and one that goes on from where it led are one run
abbrev pub RunsJoin : Type 0
RunsJoin =
    (a b c : PortState) (calls more : List Call) (replies others : List Answered)
    → Run a calls replies b → Run b more others c
    → Run a (calls ++ more) (replies ++ others) c

-- in pieces as well
abbrev pub PiecesJoin : Type 0
PiecesJoin =
    (a b c : PortState) (pieces more : List Piece) (replies others : List Answered)
    → Pieces a pieces replies b → Pieces b more others c
    → Pieces a (pieces ++ more) (replies ++ others) c

-- the two halves of a turn, with no call between them, are that turn
abbrev pub HalvesAreTurns : Type 0
HalvesAreTurns = (a m b : PortState) → SendOf a m → ReceiveOf m b → TurnOf a b

-- whether the program asked to cut off the request under way
abbrev pub is_cancel_asked : Option Job → Bool
is_cancel_asked None = false
is_cancel_asked (Some job) = job.asked

-- a request is cancelled only where the program had asked for it before the turn
abbrev pub CancelledWasAsked : Type 0
CancelledWasAsked = (moment : Moment) (steps : List PortStep) (s : Session)
    → MayAll (MaySession moment) session_after steps s
    → IsOneOf (Unknown Cancelled) steps
    → is_cancel_asked s.job ≡ true

-- and a request has that mark only by a cancel of its ticket, which was answered
abbrev pub AskedByCancel : Type 0
AskedByCancel =
    (a b : PortState) (piece : Piece) (reply : Answered) → PieceOf a piece reply b
    → is_cancel_asked b.session.job ≡ true
    → (is_cancel_asked a.session.job ≡ true)
    ⊎ ((ticket : Ticket) × (piece ≡ Whole (call.Cancel ticket)) × (reply ≡ answered.Nothing)
    × (is_taken a.book.standing ticket ≡ true))

-- what was reported counts as unreported again, outside down, only at a port for any device: by an
-- exchange in OPERATE without a good reply
-- EVT-9
abbrev pub OnlyMissesUnreport : Type 0
OnlyMissesUnreport = (moment : Moment) (steps : List PortStep) (s : Session)
    → MayAll (MaySession moment) session_after steps s → IsOneOf Unreport steps
    → (moment.terms.devices ≡ Any) × (moment.call ≡ Exchanged false)
