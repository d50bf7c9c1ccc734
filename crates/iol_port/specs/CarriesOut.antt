-- What a client may conclude of a whole run: which requests the device carried out
-- in it, each once, or more than once in a row.
use Rattle.std.specs.Prelude.{◌≡◌, ◌≤◌, ◌⊎◌, ℕ, false, List, [], ◌∷◌, ◌++◌, Option, Some, ⊤}
use Rattle.std.specs.Map.{lookup}
use Rattle.iol_isdu.specs.declared.values.Request.{Request}
use Rattle.iol_isdu.specs.declared.values.Answer.{Answer}
use Rattle.iol_isdu.specs.declared.values.Cause.{Cause}
use Rattle.iol_far.specs.Far.{Far}
use Rattle.iol_far.specs.declared.carried.Carried.{Carried}
use Rattle.iol_far.specs.Level.{grown_by}
use Rattle.iol_book.specs.declared.limits.Limits.{Limits}
use Rattle.iol_book.specs.declared.entries.Outcome.{Outcome}
use Rattle.iol_book.specs.declared.entries.Outcome.TheVariants.{Done, Unknown}
use Rattle.iol_book.specs.declared.entries.Ticket.{Ticket}
use Rattle.iol_book.specs.BookModel.{leaves_unsure}
use Rattle.iol_book.specs.Replay.{same_ticket}
use Rattle.iol_app.specs.declared.mode.Mode.{Mode}
use Rattle.iol_app.specs.declared.mode.Mode.TheVariants.{Down, Startup}
use Rattle.iol_port.specs.declared.call.Call.TheVariants as call
use Rattle.iol_port.specs.declared.call.Answered.{Answered}
use Rattle.iol_port.specs.declared.call.Answered.TheVariants as answered
use Rattle.iol_port.specs.Owners.{Owner, all, pairs_of, Fits, IsOneOf, HasEnded, allowance_of, times_of}
use Rattle.iol_port.specs.Run.{PortState, Piece, Whole, PieceOf, Pieces, port_at_opening}
use Rattle.iol_mode.specs.declared.configuration.Devices.{Devices}
use Rattle.iol_mode.specs.declared.configuration.Devices.TheVariants.{Any}

-- the run has this piece, with this reply
abbrev pub Happens : List Piece → List Answered → Piece → Answered → Type 0
Happens [] replies piece reply = ⊥
Happens (p ∷ pieces) [] piece reply = ⊥
Happens (p ∷ pieces) (r ∷ replies) piece reply = ((p ≡ piece) × (r ≡ reply))
    ⊎ Happens pieces replies piece reply

-- a request was submitted under this ticket, as an urgent one or as one of the others
abbrev pub IsSubmitted : List Piece → List Answered → Ticket → Request → Type 0
IsSubmitted pieces replies ticket request =
    Happens pieces replies (Whole (call.Submit request)) (answered.Ticket ticket)
    ⊎ Happens pieces replies (Whole (call.SubmitUrgent request)) (answered.Ticket ticket)

-- a record grew by nothing, or by one pair of this request
abbrev pub GrewBy : Option Request → List Carried → List Carried → Type 0
GrewBy late from before = (before ≡ from)
    ⊎ ((request : Request) × (answer : Answer) × (late ≡ Some request)
    × (before ≡ grown_by from request answer))

-- Of a run from an opening that led here: the record grew by at most one pair of the request that
-- the device was handed before the opening, and then by the pairs of the owners, in this order.
-- Each owner was submitted in the run, under a ticket of its own; it has at most one pair,
-- or more only where it may be carried out more than once; and each outcome Done that was collected
-- is that of such a request, whose last pair has the answer, but for what the allowance is
pub record CarriesOut (from : PortState) (pieces : List Piece) (replies : List Answered)
    (a : PortState) : Type 0 where
  pub before : GrewBy from.session.late from.session.carried a.owners.before
  pub record_is : a.session.carried ≡ a.owners.before ++ pairs_of (all a.owners)
  pub once : (number : ℕ) → times_of number (all a.owners) ≤ 1
  pub above : (number : ℕ) → number ≤ from.book.last → times_of number (all a.owners) ≡ 0
  pub fits : (owner : Owner) → IsOneOf owner (all a.owners)
      → Fits (allowance_of from.terms) owner
  pub asked : (owner : Owner) → IsOneOf owner (all a.owners)
      → IsSubmitted pieces replies owner.taking.ticket owner.taking.request
  pub done : (ticket : Ticket) (answer : Answer)
      → Happens pieces replies (Whole (call.Collect ticket)) (answered.Outcome (Done answer))
      → HasEnded (all a.owners) ticket (Done answer)

-- So it is in every run of a port that is opened, across losses, restarts, drains and archives
abbrev pub EachDoneHasItsPair : Type 0
EachDoneHasItsPair =
    (devices : Devices) (limits : Limits) (far : Far) (silence : ℕ) (pieces : List Piece)
    (replies : List Answered) (b : PortState)
    → Pieces (port_at_opening devices limits far silence) pieces replies b
    → CarriesOut (port_at_opening devices limits far silence) pieces replies b

-- the request of a ticket was cut off: that is its outcome, which was collected in
-- the run, or may still be
abbrev pub IsCutOff : List Piece → List Answered → PortState → Ticket → Cause → Type 0
IsCutOff pieces replies a ticket cause =
    Happens pieces replies (Whole (call.Collect ticket)) (answered.Outcome (Unknown cause))
    ⊎ (lookup (same_ticket ticket) a.book.standing.outcomes ≡ Some (Unknown cause))

-- the owner has the answers that it had, maybe more before them, and ended as it had
pub record OwnerGoesOn (earlier later : Owner) : Type 0 where
  pub ticket_is : later.taking.ticket ≡ earlier.taking.ticket
  pub request_is : later.taking.request ≡ earlier.taking.request
  pub ends : (outcome : Outcome) → earlier.taking.outcome ≡ Some outcome
      → later.taking.outcome ≡ Some outcome
  pub more : List Answer
  pub answers_are : later.answers ≡ more ++ earlier.answers

-- these are the same owners, but that the last one goes on
abbrev pub LastGoesOn : List Owner → List Owner → Type 0
LastGoesOn [] [] = Unit {0}
LastGoesOn (x ∷ earlier) (y ∷ later) = OwnerGoesOn x y × (later ≡ earlier)
LastGoesOn earlier later = ⊥

-- so they are, below those that were taken since
pub record GoOn (earlier later : List Owner) : Type 0 where
  pub more : List Owner
  pub others : List Owner
  pub owners_are : later ≡ more ++ others
  pub last : LastGoesOn earlier others

-- A run leads on from `a` to `c`: the owners of `a` go on there, and that of such a ticket has no
-- more answers
pub record LeavesOut (a c : PortState) (IsOut : Ticket → Type 0) : Type 0 where
  pub go_on : GoOn (all a.owners) (all c.owners)
  pub left_out : (owner : Owner) → IsOneOf owner (all c.owners)
      → IsOut owner.taking.ticket → IsOneOf owner (all a.owners)

-- A run comes to `a`, and goes on to `c`: of what is carried out from `a` on, nothing was cut off
-- before with the device's word that it has the request no more: for any cause but the loss of the
-- link and a restart
abbrev pub CutForGoodStaysOut : Type 0
CutForGoodStaysOut =
    (devices : Devices) (limits : Limits) (far : Far) (silence : ℕ) (pieces more : List Piece)
    (replies others : List Answered) (a c : PortState)
    → Pieces (port_at_opening devices limits far silence) pieces replies a → Pieces a more others c
    → CarriesOut (port_at_opening devices limits far silence) (pieces ++ more) (replies ++ others) c
    × LeavesOut a c (λ ticket. (cause : Cause) × (leaves_unsure (Unknown cause) ≡ false)
    × IsCutOff pieces replies a ticket cause)

-- below the reset of the device: down, and at a port for any device STARTUP too, in which it has it
-- leave its mode
abbrev pub IsBelow : Devices → Mode → Type 0
IsBelow devices Down = ⊤
IsBelow Any Startup = ⊤
IsBelow devices mode = ⊥

-- the device is reset behind it, in a whole turn or as what came is taken up: a wake that had
-- success, which leads out of down; at a port for any device what leads out of STARTUP, and on
pub record Resets (piece : Piece) (a b : PortState) : Type 0 where
  pub is : PieceOf a piece answered.Nothing b
  pub below : IsBelow a.terms.devices a.session.mode
  pub up : IsBelow b.terms.devices b.session.mode → ⊥

-- A run comes to `a`, by such a piece to `b`, and goes on to `c`: of what is carried
-- out from `b` on, nothing was cut off before, nor handed over before the opening
-- REQ-12
abbrev pub LateEnds : Type 0
LateEnds =
    (devices : Devices) (limits : Limits) (far : Far) (silence : ℕ) (pieces more : List Piece)
    (piece : Piece)
    (replies others : List Answered) (a b c : PortState)
    → Pieces (port_at_opening devices limits far silence) pieces replies a → Resets piece a b
    → Pieces b more others c
    → CarriesOut (port_at_opening devices limits far silence) (pieces ++ piece ∷ more)
    (replies ++ answered.Nothing ∷ others) c
    × LeavesOut b c (λ ticket. (cause : Cause) × IsCutOff pieces replies a ticket cause)
    × (c.owners.before ≡ b.owners.before)
