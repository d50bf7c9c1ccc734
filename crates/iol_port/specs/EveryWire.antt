-- What each call of a port answers and leaves on every wire, honest or not, from
-- the port's own parts.
use Rattle.std.specs.Prelude.{◌≡◌, ℕ, Bool, ◌&&◌, if◌then◌else◌, List, [], ◌∷◌, ◌++◌, drop, Option, Some, None, Result, is_ok, IfOk, IfErr, OnOk, OnErr, slice_get, ◌⊎◌, false, IsTrue}
use Rattle.std.specs.Option.{ok_or, option_map}
use Rattle.std.specs.Result.{result_err}
use Rattle.std.specs.Map.{lookup}
use Rattle.iol_isdu.specs.declared.values.Request.{Request}
use Rattle.iol_isdu.specs.declared.values.Cause.TheVariants.{Cancelled}
use Rattle.iol_event.specs.declared.event.Event.{Event}
use Rattle.iol_page.specs.declared.cycle.CycleTime.{CycleTime}
use Rattle.iol_page.specs.declared.identity.Identity.{Identity}
use Rattle.iol_link.specs.WireFacts.{WireFacts}
use Rattle.iol_book.specs.declared.entries.Entry.{Entry}
use Rattle.iol_book.specs.declared.entries.Outcome.{Outcome}
use Rattle.iol_book.specs.declared.entries.Ticket.{Ticket}
use Rattle.iol_book.specs.declared.entries.Serve.{Serve}
use Rattle.iol_book.specs.declared.entries.Outcome.TheVariants.{NoIsdu}
use Rattle.iol_book.specs.Replay.{same_ticket}
use Rattle.iol_book.specs.Limits.{has_journal}
use Rattle.iol_book.specs.BookModel.{BookState, BookValue, MemoryGrows, archive_refusal, drain_refusal, memory_archived, RefusesFor, submit_refusal, book_after_submit, book_after_urgent, next_ticket, next_taken, book_after_take, book_after_denial, waits, collect_answer, book_after_collect, withdraw_refusal, abandon_refusal, book_after_abandon, book_after_serve, book_after_withdrawal, flight_refusal, may_archive, book_after_archive}
use Rattle.iol_book.specs.Drained.{book_after_drain}
use Rattle.iol_mode.specs.States.{is_reset}
use Rattle.iol_mode.specs.declared.why.Why.{Why}
use Rattle.iol_app.specs.declared.mode.Mode.TheVariants.{Down}
use Rattle.iol_app.specs.declared.report.Said.{Said}
use Rattle.iol_app.specs.Abstract.Steps.{ImageOctets, through_steps}
use Rattle.iol_app.specs.Abstract.OfMaster.{restart_steps, resets, steps_for_book, steps_for_queue}
use Rattle.iol_app.specs.State as session
use Rattle.iol_app.specs.Due.{is_ready}
use Rattle.iol_app.specs.Asking.{core_with_request, IsCall}
use Rattle.iol_app.specs.declared.wire_result.WireResult.{WireResult}
use Rattle.iol_app.specs.Core.{CoreState}
use Rattle.iol_app.specs.CoreCalls.{wanting_core}
use Rattle.iol_app.specs.Pieces.{SendsMessage, IsMade}
use Rattle.iol_app.specs.StationState.{mode_in, why_in, page_in, operates}
use Rattle.iol_port.specs.declared.fault.PortFault.{PortFault}
use Rattle.iol_port.specs.declared.fault.PortFault.TheVariants as fault
use Rattle.iol_port.specs.declared.call.Call.{Call}
use Rattle.iol_port.specs.declared.call.Call.TheVariants as call
use Rattle.iol_port.specs.declared.call.Answered.{Answered}
use Rattle.iol_port.specs.declared.call.Answered.TheVariants as answered
use Rattle.iol_port.specs.declared.call.Counting.{Counting}
use Rattle.iol_port.specs.Asks.{event_room, asks_of, lacks_isdu, begun_next}
use Rattle.iol_port.specs.Replies.{by_book, ticket_reply, outcome_reply, nothing_reply, event_reply, archive_reply, drain_reply}
use Rattle.iol_port.specs.Run.{counting_of}
use Rattle.iol_port.specs.Sound.{request_taken}
use Rattle.iol_port.specs.Counters.{call_counted, report_counted, restart_counted}
use Rattle.iol_port.specs.LastLoss.{loss_after}
use Rattle.iol_port.specs.View.{PortParts, PortOver, status_of}
use Rattle.iol_port.specs.Steps.{book_after, queued_after}

-- the first refusal that holds, or want of memory where a growth was needed
abbrev pub RefusesSubmit : BookValue → PortFault → Type 0
RefusesSubmit b (fault.Book why) = RefusesFor (submit_refusal b.state) why b.room
RefusesSubmit b other = ⊥

-- the book once the next request is taken, or denied where the device has no ISDU:
-- where the session is ready for one, and one waits
-- REQ-3
abbrev pub book_after_taking : Bool → Bool → Option (Ticket × Request) → BookState → BookState
book_after_taking ready lacks None b = b
book_after_taking ready lacks (Some next) b =
    if ready then (if lacks then book_after_denial b next.0 else book_after_take b next) else b

-- the outcome of a ticket is that the device has no ISDU
abbrev pub HasNoIsdu : BookState → Ticket → Type 0
HasNoIsdu b ticket = lookup (same_ticket ticket) b.standing.outcomes ≡ Some NoIsdu

-- Only the book changes: the link, its session, and the events that are kept, are what they were
abbrev pub IsBookCall : PortParts → PortParts → Type 0
IsBookCall old new = new ≡ record old { book = new.book }

-- No memory is taken, and none is given back
-- BOOK-12
abbrev pub KeepsMemory : PortParts → PortParts → Type 0
KeepsMemory old new = new.book.memory ≡ old.book.memory

-- a request is entered, which leaves this book
pub record SubmitGives (old : PortParts) (book : BookState) (result : Result Ticket PortFault)
    (new : PortParts) : Type 0 where
  pub allowed : OnOk result (submit_refusal old.book.state ≡ None)
  pub ticket : IfOk result (λ t. t ≡ next_ticket old.book.state)
  pub entered : OnOk result (new.book.state ≡ book)
  pub refused : IfErr result (λ why. RefusesSubmit old.book why)
  pub unchanged : OnErr result (new.book.state ≡ old.book.state)
  pub memory : MemoryGrows old.book.memory new.book.memory
  pub rest : IsBookCall old new

-- the outcome that was posted for the ticket, or why there is none
pub record CollectGives (old : PortParts) (ticket : Ticket) (result : Result Outcome PortFault)
    (new : PortParts) : Type 0 where
  pub answer : result ≡ by_book (collect_answer old.book.state.standing ticket)
  pub book : new.book.state ≡ book_after_collect old.book.state ticket
  pub memory : KeepsMemory old new
  pub rest : IsBookCall old new

pub record WithdrawGives (old : PortParts) (ticket : Ticket)
    (result : Result (Unit {0}) PortFault)
    (new : PortParts) : Type 0 where
  pub answer : result_err result
      ≡ option_map (λ why. fault.Book why) (withdraw_refusal old.book.state.standing ticket)
  pub book : new.book.state ≡ book_after_withdrawal old.book.state ticket
  pub memory : KeepsMemory old new
  pub rest : IsBookCall old new

-- the same of a ticket whose outcome nobody wants
pub record AbandonGives (old : PortParts) (ticket : Ticket)
    (result : Result (Unit {0}) PortFault)
    (new : PortParts) : Type 0 where
  pub answer : result_err result
      ≡ option_map (λ why. fault.Book why) (abandon_refusal old.book.state.standing ticket)
  pub book : new.book.state ≡ book_after_abandon old.book.state ticket
  pub memory : KeepsMemory old new
  pub rest : IsBookCall old new

-- these requests alone are taken from now on
pub record ServeGives (old : PortParts) (which : Serve) (new : PortParts) : Type 0 where
  pub book : new.book.state ≡ book_after_serve old.book.state which
  pub memory : KeepsMemory old new
  pub rest : IsBookCall old new

-- refused as long as it isn't the request under way; else an abort waits, for
-- this cause unless one waits already
-- REQ-8
pub record CancelGives (old : PortParts) (ticket : Ticket)
    (result : Result (Unit {0}) PortFault)
    (new : PortParts) : Type 0 where
  pub answer : result_err result
      ≡ option_map (λ why. fault.Book why) (flight_refusal old.book.state.standing ticket)
  pub waits : OnOk result
      (new ≡ record old {
        core = record old.core { session = session.aborted_in Cancelled old.core.session };
      })
  pub unchanged : OnErr result (new ≡ old)

-- these entries are the journal as it was, and the new one is empty
pub record ArchiveGives (old : PortParts) (result : Result (List Entry) PortFault)
    (new : PortParts) : Type 0 where
  pub allowed : is_ok result ≡ may_archive old.book.state
  pub journal : IfOk result (λ entries. entries ≡ old.book.state.journal)
  pub refused : IfErr result (λ why. why ≡ fault.Book (archive_refusal old.book.state))
  pub book : new.book.state ≡ book_after_archive old.book.state
  pub memory : new.book.memory ≡ memory_archived old.book
  pub rest : IsBookCall old new

-- What a drain leaves: a journal of what is restated; refused where none is kept, or for want of
-- memory, and then as it was
pub record DrainLeaves {X : Type 0} (old : PortParts) (result : Result X PortFault)
    (new : PortParts) : Type 0 where
  pub there : OnOk result (IsTrue (has_journal old.book.state.limit))
  pub refused : IfErr result (λ why. why ≡ fault.Book (drain_refusal old.book.state))
  pub book : OnOk result (new.book.state ≡ book_after_drain old.book.state)
  pub unchanged : OnErr result (new.book.state ≡ old.book.state)
  pub memory : KeepsMemory old new
  pub rest : IsBookCall old new

-- these entries are the journal as it was
pub record DrainGives (old : PortParts) (result : Result (List Entry) PortFault)
    (new : PortParts) : Type 0 where
  pub journal : IfOk result (λ entries. entries ≡ old.book.state.journal)
  pub leaves : DrainLeaves old result new

-- they stand behind what the list had, and the answer is how many of them are restated
pub record DrainIntoGives (old : PortParts) (list list_new : List Entry)
    (result : Result ℕ PortFault) (new : PortParts) : Type 0 where
  pub journal : OnOk result (list_new ≡ list ++ old.book.state.journal)
  pub restated : IfOk result (λ count. count ≡ old.book.state.restated)
  pub unchanged : OnErr result (list_new ≡ list)
  pub leaves : DrainLeaves old result new

-- the event kept longest
-- PORT-5
pub record TakeEventGives (old : PortParts) (result : Result Event PortFault)
    (new : PortParts) : Type 0 where
  pub answer : result ≡ ok_or (slice_get old.queued 0) fault.NoEvent
  pub rest : new ≡ record old { queued = drop 1 old.queued }

-- refused by the layout that was told last; else it is wanted
pub record SetOutputGives (old : PortParts) (image : ImageOctets)
    (result : Result (Unit {0}) PortFault)
    (new : PortParts) : Type 0 where
  pub answer : result_err result
      ≡ option_map (λ why. fault.Output why)
      (session.output_refusal image old.core.session.layout)
  pub wanted : OnOk result
      (new ≡ record old {
        core = wanting_core (Some image) old.core;
      })
  pub unchanged : OnErr result (new ≡ old)

abbrev pub ClearOutputGives : PortParts → PortParts → Type 0
ClearOutputGives old new = new
    ≡ record old {
      core = wanting_core None old.core;
    }

-- the page of the present session, once it was read whole and checked
-- PORT-11
abbrev pub page_shown : PortParts → Option (List ℕ)
page_shown p = page_in p.core.state p.core.session

-- another device is expected, or any, and nothing else changes
-- PORT-10
pub record ExpectGives (old : PortParts) (identity : Option Identity) (result : Counting)
    (new : PortParts) : Type 0 where
  pub counts : result ≡ counting_of (page_shown old)
  pub expects : new
      ≡ record old {
        core = record old.core { session = session.session_expecting identity old.core.session };
      }

-- start-ups are to write this cycle time, or the least one, and nothing else changes
-- PORT-10
pub record SetCycleGives (old : PortParts) (cycle : Option CycleTime) (result : Counting)
    (new : PortParts) : Type 0 where
  pub counts : result ≡ counting_of (page_shown old)
  pub paces : new
      ≡ record old {
        core = record old.core { session = session.session_with_cycle cycle old.core.session };
      }

-- why the last session ended, behind a call from one to the other
abbrev pub loss_left : PortParts → PortParts → Option Why
loss_left old new = loss_after (mode_in old.core.state) (mode_in new.core.state)
    (why_in new.core.state) old.last_loss

-- the link is down and has no fault; the request under way is cut
-- off, and there is no image
-- PORT-6
pub record RestartGives (old new : PortParts) : Type 0 where
  pub mode : mode_in new.core.state ≡ Down
  pub why : why_in new.core.state ≡ None
  pub session_is : new.core.session ≡ session.session_after_leaving old.core.session
  pub book : new.book.state
      ≡ through_steps book_after (restart_steps (request_taken old.book.state.standing.taken))
      old.book.state
  pub memory : KeepsMemory old new
  pub queued : new.queued ≡ old.queued
  pub sent : new.sent ≡ old.sent
  pub counters : new.counters
      ≡ restart_counted (request_taken old.book.state.standing.taken) old.counters
  pub last_loss : new.last_loss ≡ loss_left old new

-- whether the next turn would send IDLE 1, so that it takes or denies the next request
-- REQ-2
abbrev pub takes_next : PortParts → Bool
takes_next p = operates p.core.state && is_ready p.core.session (event_room p.queued)

-- the core and the book with which a turn begins: that request is taken and begun, or denied
abbrev pub core_begun : PortParts → CoreState
core_begun p = core_with_request (begun_next p) p.core (event_room p.queued)

abbrev pub book_begun : PortParts → BookState
book_begun p =
    book_after_taking (takes_next p) (lacks_isdu p.core.session.isdu)
    (next_taken p.book.state) p.book.state

-- The ticket's request waited, none was taken, and a start-up told that the device has no
-- ISDU; all that the turn does in the book is to give it this outcome, without a taking
pub record IsDenied (old new : PortParts) (ticket : Ticket) : Type 0 where
  pub isdu_is : old.core.session.isdu ≡ Some false
  pub waited : IsTrue (waits old.book.state.standing ticket)
  pub free : old.book.state.standing.taken ≡ None
  pub book : new.book.state ≡ book_after_denial old.book.state ticket

-- One call but a turn, with the answer that a list of calls has for it
-- PORT-3
abbrev pub CoreCallGives : PortParts → Call → Answered → PortParts → Type 0
CoreCallGives old (call.Submit request) reply new =
    (result : Result Ticket PortFault) × (reply ≡ ticket_reply result)
    × SubmitGives old (book_after_submit old.book.state request) result new
CoreCallGives old (call.SubmitUrgent request) reply new =
    (result : Result Ticket PortFault) × (reply ≡ ticket_reply result)
    × SubmitGives old (book_after_urgent old.book.state request) result new
CoreCallGives old (call.Collect ticket) reply new =
    (result : Result Outcome PortFault) × (reply ≡ outcome_reply result)
    × CollectGives old ticket result new
CoreCallGives old (call.Withdraw ticket) reply new =
    (result : Result (Unit {0}) PortFault) × (reply ≡ nothing_reply result)
    × WithdrawGives old ticket result new
CoreCallGives old (call.Cancel ticket) reply new =
    (result : Result (Unit {0}) PortFault) × (reply ≡ nothing_reply result)
    × CancelGives old ticket result new
CoreCallGives old (call.Abandon ticket) reply new =
    (result : Result (Unit {0}) PortFault) × (reply ≡ nothing_reply result)
    × AbandonGives old ticket result new
CoreCallGives old (call.Serve which) reply new = (reply ≡ answered.Nothing)
    × ServeGives old which new
CoreCallGives old call.Restart reply new = (reply ≡ answered.Nothing) × RestartGives old new
CoreCallGives old (call.SetOutput image) reply new =
    (result : Result (Unit {0}) PortFault) × (reply ≡ nothing_reply result)
    × SetOutputGives old image result new
CoreCallGives old call.ClearOutput reply new = (reply ≡ answered.Nothing)
    × ClearOutputGives old new
CoreCallGives old call.Look reply new = (reply ≡ answered.Image old.core.session.image)
    × (new ≡ old)
CoreCallGives old (call.Expect identity) reply new =
    (result : Counting) × (reply ≡ answered.Counts result)
    × ExpectGives old identity result new
CoreCallGives old (call.Cycle cycle) reply new =
    (result : Counting) × (reply ≡ answered.Counts result)
    × SetCycleGives old cycle result new
CoreCallGives old call.Counters reply new = (reply ≡ answered.Counters old.counters)
    × (new ≡ old)
CoreCallGives old call.LastLoss reply new = (reply ≡ answered.LastLoss old.last_loss)
    × (new ≡ old)
CoreCallGives old call.Page reply new = (reply ≡ answered.Page (page_shown old)) × (new ≡ old)
CoreCallGives old call.TakeEvent reply new =
    (result : Result Event PortFault) × (reply ≡ event_reply result)
    × TakeEventGives old result new
CoreCallGives old call.Status reply new = (reply ≡ answered.Status (status_of old.core))
    × (new ≡ old)
CoreCallGives old call.Archive reply new =
    (result : Result (List Entry) PortFault) × (reply ≡ archive_reply result)
    × ArchiveGives old result new
CoreCallGives old call.Drain reply new =
    (result : Result (List Entry) PortFault)
    × (reply ≡ drain_reply old.book.state.restated result)
    × DrainGives old result new
CoreCallGives old call.Turn reply new = ⊥

module _ {W : Type 0} (facts : WireFacts W) where
  -- A turn: the next request is begun or denied; a message is out, with room for events where at
  -- most 58 are kept; what came back to it is taken up, and what that says goes to the book and
  -- to the kept events; a reset of the device ends what a request that was cut off may still do
  -- PORT-1
  pub record PortTurnGives (old new : PortOver W) : Type 0 where
    pub report : Said
    pub wire_result : WireResult
    -- what goes out
    pub mid : CoreState
    pub sent : SendsMessage (event_room old.parts.queued) (core_begun old.parts) mid
    -- its one call of the wire is the one that the port asks for, and brought this
    pub made : IsMade facts old.wire new.wire (asks_of old.parts) mid report wire_result
        new.parts.core
    pub book : new.parts.book.state
        ≡ through_steps book_after
        (resets (is_reset old.parts.core.state) (is_reset new.parts.core.state)
        ++ steps_for_book report)
        (book_begun old.parts)
    pub memory : KeepsMemory old.parts new.parts
    pub queued : new.parts.queued ≡ through_steps queued_after (steps_for_queue report)
        old.parts.queued
    pub counters : new.parts.counters
        ≡ report_counted report (call_counted wire_result old.parts.counters)
    pub last_loss : new.parts.last_loss ≡ loss_left old.parts new.parts
    -- each new outcome NoIsdu is that of a request which this turn denied
    pub denies : (ticket : Ticket) → HasNoIsdu new.parts.book.state ticket
        → HasNoIsdu old.parts.book.state ticket ⊎ IsDenied old.parts new.parts ticket

  -- One call: a turn makes the one call of the wire that the port asks for, and no other touches it
  -- PORT-7
  abbrev pub PortCallGives : PortOver W → Call → Answered → PortOver W → Type 0
  PortCallGives old call.Turn reply new = (reply ≡ answered.Nothing) × PortTurnGives old new
      × IsCall facts (asks_of old.parts) old.wire new.wire
  PortCallGives old c reply new = CoreCallGives old.parts c reply new.parts
      × (new.wire ≡ old.wire)

  -- a run: each call in order, once, with its answer
  -- PORT-3
  abbrev pub RunGives : PortOver W → List Call → List Answered → PortOver W → Type 0
  RunGives old [] [] new = new ≡ old
  RunGives old (call ∷ calls) (reply ∷ replies) new = (mid : PortOver W)
      × PortCallGives old call reply mid × RunGives mid calls replies new
  RunGives old [] (reply ∷ replies) new = ⊥
  RunGives old (call ∷ calls) [] new = ⊥
