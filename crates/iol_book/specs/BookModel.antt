-- What callers see of a book, and what its calls answer and leave.
use Rattle.std.specs.Prelude.{◌≡◌, ℕ, ◌+◌, ◌*◌, ◌^◌, ◌≤◌, Bool, true, false, ◌||◌, ◌&&◌, not, List, [], ◌∷◌, ◌++◌, Option, None, Some, Result, is_some, is_ok, length, nat_eq, nat_lt, nat_le, if◌then◌else◌, slice_get, filter}
use Rattle.std.specs.Option.{ok_or}
use Rattle.std.specs.Result.{result_map_both}
use Rattle.std.specs.Map.{lookup}
use Rattle.indexmap.specs.IndexMap.{insert_entry}
use Rattle.iol_isdu.specs.declared.values.Request.{Request}
use Rattle.iol_isdu.specs.declared.values.Cause.TheVariants.{LinkLost, Restarted, BusyTooLong, Protocol, Cancelled}
use Rattle.iol_book.specs.declared.entries.Ticket.{Ticket}
use Rattle.iol_book.specs.declared.entries.Serve.{Serve}
use Rattle.iol_book.specs.declared.entries.Serve.TheVariants.{All, Only, Nobody}
use Rattle.iol_book.specs.declared.limits.Limits.{Limits}
use Rattle.iol_book.specs.declared.entries.Outcome.{Outcome}
use Rattle.iol_book.specs.declared.entries.Outcome.TheVariants.{Done, Unknown, Withdrawn, NoIsdu}
use Rattle.iol_book.specs.declared.entries.Entry.{Entry}
use Rattle.iol_book.specs.declared.entries.Entry.TheVariants.{Submitted, Urgent, Taken, Answered, Withdrawn as WithdrawnEntry, Collected, Abandoned}
use Rattle.iol_book.specs.declared.fault.BookFault.{BookFault}
use Rattle.iol_book.specs.declared.fault.BookFault.TheVariants.{Full, JournalFull, TicketsSpent, OutOfMemory, UnknownTicket, NotYet, TakenAlready, Outstanding, NotInFlight, NoJournal}
use Rattle.iol_book.specs.Limits.{request_entries, most_data, has_journal}
use Rattle.iol_book.specs.Replay.{Standing, nothing, standing_after, replay, same_ticket, is_among, is_taken, without_waiting}

pub record BookState : Type 0 where
  -- the entries since the book was opened or last archived, or what the last drain left of them
  -- and those since
  pub journal : List Entry
  -- how many entries at its beginning the last drain left there
  pub restated : ℕ
  -- the last ticket given
  pub last : ℕ
  -- which requests wait, which one is taken, which tickets have an outcome
  pub standing : Standing
  -- whether a request that was cut off may still be carried out
  pub unsure : Bool
  -- the most entries that the journal may have; 0 where it is as long as it gets, and isn't kept:
  -- then it is in no memory, and nobody is handed it
  pub limit : ℕ
  -- the most tickets that may be outstanding
  pub queue : ℕ
  -- which of the requests that wait may be taken
  pub serve : Serve

-- the memory that a book has: for so many entries, so many octets of theirs, and so many requests
-- that wait
pub record BookMemory : Type 0 where
  pub entries : ℕ
  pub octets : ℕ
  pub urgent : ℕ
  pub others : ℕ

pub record BookValue : Type 0 where
  pub state : BookState
  -- for how many submits the memory is there already: where it is 0, the next one asks for more
  pub room : ℕ
  pub memory : BookMemory

-- the journal alone says where every ticket stands
-- BOOK-9
abbrev pub IsReplayed : BookState → Type 0
IsReplayed book = book.standing ≡ replay book.journal

-- an empty book
abbrev pub empty_book : Limits → BookState
empty_book limits =
    record {
      journal = [];
      restated = 0;
      last = limits.given;
      standing = nothing;
      unsure = false;
      limit = limits.journal;
      queue = limits.queue;
      serve = All;
    }

-- the book after one more entry
abbrev pub book_with_entry : BookState → Entry → BookState
book_with_entry book entry =
    record book {
      journal = book.journal ++ entry ∷ [];
      standing = standing_after book.standing entry;
    }

-- how many requests wait
abbrev pub waiting_count : Standing → ℕ
waiting_count standing = length standing.urgent + length standing.waiting

-- how many tickets are outstanding
abbrev pub outstanding_count : Standing → ℕ
outstanding_count standing =
    waiting_count standing + (if is_some standing.taken then 1 else 0) + length standing.outcomes

-- the entries that the outstanding tickets will still get: taken, answered and
-- collected, or withdrawn and collected; one that is abandoned gets fewer
-- BOOK-3
abbrev pub entries_owed : Standing → ℕ
entries_owed standing =
    3 * waiting_count standing
    + (if is_some standing.taken then (if standing.abandoned then 1 else 2) else 0)
    + length standing.outcomes

-- the octets that there may be of the answers that are still to come
abbrev pub octets_owed : Standing → ℕ
octets_owed standing =
    most_data * (waiting_count standing + (if is_some standing.taken then 1 else 0))

-- whether a journal that is kept has no room for the entries of one more request
abbrev pub is_journal_full : BookState → Bool
is_journal_full book = has_journal book.limit
    && nat_lt book.limit (length book.journal + entries_owed book.standing + request_entries)

-- the first reason why a request can't be submitted, where it can't
-- BOOK-2, BOOK-3
abbrev pub submit_refusal : BookState → Option BookFault
submit_refusal book =
    if nat_le book.queue (outstanding_count book.standing) then Some Full
    else if is_journal_full book then Some JournalFull
    else if nat_eq (book.last + 1) (2 ^ 64) then Some TicketsSpent
    else None

-- the ticket of the next submit
-- BOOK-1
abbrev pub next_ticket : BookState → Ticket
next_ticket book = record { 0 = book.last + 1 }

-- the book after it, where the request waits behind the others that are not urgent
abbrev pub book_after_submit : BookState → Request → BookState
book_after_submit book request =
    record (book_with_entry book (Submitted (next_ticket book) request)) { last = book.last + 1 }

-- the book after the submit of an urgent one, which waits behind the other urgent ones
abbrev pub book_after_urgent : BookState → Request → BookState
book_after_urgent book request =
    record (book_with_entry book (Urgent (next_ticket book) request)) { last = book.last + 1 }

-- a submit that is refused says the first of its reasons that holds, or that a growth was refused
-- BOOK-2
abbrev pub RefusesFor : Option BookFault → BookFault → ℕ → Type 0
RefusesFor (Some why) fault room = fault ≡ why
RefusesFor None fault room = (fault ≡ OutOfMemory) × (room ≡ 0)

-- whether the request of a ticket may be taken
abbrev pub is_served : Serve → Ticket → Bool
is_served All ticket = true
is_served (Only own) ticket = same_ticket own ticket
is_served Nobody ticket = false

-- the book from which these requests alone are taken
-- BOOK-15
abbrev pub book_after_serve : BookState → Serve → BookState
book_after_serve book which = record book { serve = which }

-- the requests that wait and may be taken, in the order in which they are: urgent ones first
abbrev pub served_waiting : BookState → List (Ticket × Request)
served_waiting book =
    filter (λ p. is_served book.serve p.0) (book.standing.urgent ++ book.standing.waiting)

-- the request that is taken next
-- BOOK-4
abbrev pub next_taken : BookState → Option (Ticket × Request)
next_taken book = if is_some book.standing.taken then None else slice_get (served_waiting book) 0

-- the book after that request is taken
abbrev pub book_after_take : BookState → Ticket × Request → BookState
book_after_take book taken = record book {
  journal = book.journal ++ Taken taken.0 ∷ [];
  standing = record (without_waiting book.standing taken.0) {
    taken = Some taken;
    abandoned = false;
  };
}

-- the book after that request, which has this ticket, is denied
-- REQ-3
abbrev pub book_after_denial : BookState → Ticket → BookState
book_after_denial book ticket = record book {
  journal = book.journal ++ Answered ticket NoIsdu ∷ [];
  standing = record (without_waiting book.standing ticket) {
    abandoned = false;
    outcomes = insert_entry same_ticket book.standing.outcomes ticket NoIsdu;
  };
}

-- whether the request may still be carried out, though it has its outcome
-- BOOK-8
abbrev pub leaves_unsure : Outcome → Bool
leaves_unsure (Done answer) = false
leaves_unsure (Unknown LinkLost) = true
leaves_unsure (Unknown Restarted) = true
leaves_unsure (Unknown BusyTooLong) = false
leaves_unsure (Unknown Protocol) = false
-- the device replied to the ABORT, so that it has the request no more
leaves_unsure (Unknown Cancelled) = false
leaves_unsure Withdrawn = false
leaves_unsure NoIsdu = false

-- the book after the request that is taken has this outcome, which is dropped where the ticket was
-- abandoned
abbrev pub ended_with : BookState → Option (Ticket × Request) → Outcome → BookState
ended_with book None outcome = book
ended_with book (Some taken) outcome = record book {
  journal = book.journal ++ Answered taken.0 outcome ∷ [];
  standing =
      record book.standing {
        taken = None;
        abandoned = false;
        outcomes =
            if book.standing.abandoned then book.standing.outcomes
            else insert_entry same_ticket book.standing.outcomes taken.0 outcome;
      };
}

abbrev pub book_after_post : BookState → Outcome → BookState
book_after_post book outcome =
    record (ended_with book book.standing.taken outcome) {
      unsure = book.unsure || leaves_unsure outcome;
    }

-- whether the request of a ticket waits
abbrev pub waits : Standing → Ticket → Bool
waits standing ticket = is_among ticket standing.urgent || is_among ticket standing.waiting

-- whether it is the one that is taken, and was not abandoned
abbrev pub is_awaited : Standing → Ticket → Bool
is_awaited standing ticket = is_taken standing ticket && not standing.abandoned

-- whether it has its outcome
abbrev pub has_outcome : Standing → Ticket → Bool
has_outcome standing ticket = is_among ticket standing.outcomes

-- what a collect answers: the outcome of the ticket, or why there is none
-- BOOK-5
-- what a call answers that leaves its value in the caller's place
abbrev pub in_place : {X E : Type 0} → X → Result (Unit {0}) E → Result X E
in_place value result = result_map_both (λ _. value) (λ why. why) result

abbrev pub collect_answer : Standing → Ticket → Result Outcome BookFault
collect_answer standing ticket = ok_or (lookup (same_ticket ticket) standing.outcomes)
    (if waits standing ticket || is_awaited standing ticket then NotYet else UnknownTicket)

-- the book after a collect
-- BOOK-5
abbrev pub book_after_collect : BookState → Ticket → BookState
book_after_collect book ticket =
    if is_ok (collect_answer book.standing ticket) then book_with_entry book (Collected ticket)
    else book

-- why a ticket can't be withdrawn, where it can't
-- BOOK-6
abbrev pub withdraw_refusal : Standing → Ticket → Option BookFault
withdraw_refusal standing ticket =
    if waits standing ticket then None
    else if is_awaited standing ticket || has_outcome standing ticket then Some TakenAlready
    else Some UnknownTicket

-- the book after a withdraw
-- BOOK-6
abbrev pub book_after_withdrawal : BookState → Ticket → BookState
book_after_withdrawal book ticket = if is_some (withdraw_refusal book.standing ticket) then book
    else book_with_entry book (WithdrawnEntry ticket)

-- why the request of a ticket can't be cut off, where it can't: it is not the one that is taken,
-- or was abandoned
-- BOOK-7
abbrev pub flight_refusal : Standing → Ticket → Option BookFault
flight_refusal standing ticket =
    if is_awaited standing ticket then None
    else if waits standing ticket || has_outcome standing ticket then Some NotInFlight
    else Some UnknownTicket

-- whether a ticket is outstanding
abbrev pub is_outstanding : Standing → Ticket → Bool
is_outstanding standing ticket =
    waits standing ticket || (is_awaited standing ticket || has_outcome standing ticket)

-- why a ticket can't be abandoned, where it can't
abbrev pub abandon_refusal : Standing → Ticket → Option BookFault
abandon_refusal standing ticket = if is_outstanding standing ticket then None
    else Some UnknownTicket

-- the book after an abandon
-- BOOK-14
abbrev pub book_after_abandon : BookState → Ticket → BookState
book_after_abandon book ticket = if is_some (abandon_refusal book.standing ticket) then book
    else book_with_entry book (Abandoned ticket)

-- the book after a wake of the device
abbrev pub book_after_wake : BookState → BookState
book_after_wake book = record book { unsure = false }

-- whether the journal is kept, nothing is outstanding, and no request that was cut off may still be
-- carried out
-- BOOK-8
abbrev pub may_archive : BookState → Bool
may_archive book = has_journal book.limit
    && (nat_eq (outstanding_count book.standing) 0 && not book.unsure)

-- why an archive is refused, where it is
abbrev pub archive_refusal : BookState → BookFault
archive_refusal book = if has_journal book.limit then Outstanding else NoJournal

-- and a drain
abbrev pub drain_refusal : BookState → BookFault
drain_refusal book = if has_journal book.limit then OutOfMemory else NoJournal

-- the book after an archive
abbrev pub book_after_archive : BookState → BookState
book_after_archive book = if may_archive book then record book { journal = []; restated = 0 }
    else book

-- the memory after an archive: that of the journal is handed out with it
-- BOOK-12
abbrev pub memory_archived : BookValue → BookMemory
memory_archived book =
    if may_archive book.state then record book.memory { entries = 0; octets = 0 } else book.memory

-- the memory after a submit: at most the journal's has grown
-- BOOK-12
abbrev pub MemoryGrows : BookMemory → BookMemory → Type 0
MemoryGrows old new = (old.entries ≤ new.entries) × (old.octets ≤ new.octets)
    × (new ≡ record old { entries = new.entries; octets = new.octets })
