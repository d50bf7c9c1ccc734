-- What a book keeps of each outstanding ticket: the line of the journal that has its request or
-- its outcome.
use Rattle.std.specs.Prelude.{◌≡◌, ℕ, Bool, true, false, List, [], ◌∷◌, Option, None, Some, ◌&&◌, ◌||◌, ◌+◌, nat_eq, if◌then◌else◌, map, slice_get, slice_index_or}
use Rattle.std.specs.Option.{option_map, option_map_or, option_to_list}
use Rattle.std.specs.Map.{lookup}
use Rattle.iol_isdu.specs.declared.values.Request.{Request}
use Rattle.iol_isdu.specs.declared.values.Request.TheVariants.{Read}
use Rattle.iol_book.specs.declared.entries.Ticket.{Ticket}
use Rattle.iol_book.specs.declared.entries.Outcome.{Outcome}
use Rattle.iol_book.specs.declared.entries.Outcome.TheVariants.{Withdrawn as WithdrawnOutcome}
use Rattle.iol_book.specs.declared.entries.Entry.{Entry}
use Rattle.iol_book.specs.declared.entries.Entry.TheVariants.{Submitted, Urgent, Taken, Answered, Withdrawn, Collected, Abandoned}
use Rattle.iol_book.specs.Replay.{Standing, same_ticket, is_among}

-- tickets, each with a line of the journal
abbrev pub TicketLines : Type 0
TicketLines = List (Ticket × ℕ)

-- whether a line has a request
abbrev pub has_request : Option Entry → Bool
has_request (Some (Submitted ticket request)) = true
has_request (Some (Urgent ticket request)) = true
has_request other = false

-- the ticket that an entry is of
abbrev pub entry_ticket : Entry → Ticket
entry_ticket (Submitted ticket request) = ticket
entry_ticket (Urgent ticket request) = ticket
entry_ticket (Taken ticket) = ticket
entry_ticket (Answered ticket outcome) = ticket
entry_ticket (Withdrawn ticket) = ticket
entry_ticket (Collected ticket) = ticket
entry_ticket (Abandoned ticket) = ticket

-- whether a line is of a ticket
abbrev pub is_of : Ticket → Option Entry → Bool
is_of ticket None = false
is_of ticket (Some entry) = same_ticket ticket (entry_ticket entry)

-- whether it has the ticket's request
abbrev pub has_request_of : Ticket → Option Entry → Bool
has_request_of ticket found = has_request found && is_of ticket found

-- its request; the lines that a book keeps for requests all have one
abbrev pub entry_request : Option Entry → Request
entry_request (Some (Submitted ticket request)) = request
entry_request (Some (Urgent ticket request)) = request
entry_request other = Read (record { index = 0; sub = 0 })

-- the outcome that a line says, which is that of a withdrawal where it says none
abbrev pub outcome_in : Option Entry → Outcome
outcome_in (Some (Answered ticket outcome)) = outcome
outcome_in other = WithdrawnOutcome

-- the tickets with what their lines say
abbrev pub values_at : {X : Type 0} → (Option Entry → X) → List Entry → TicketLines
    → List (Ticket × X)
values_at value entries lines =
    map (λ line. (line.0, value (slice_get entries line.1))) lines

-- each of these lines passes, under its ticket
abbrev pub AllPass : (Ticket → Option Entry → Bool) → List Entry → TicketLines → Type 0
AllPass test entries [] = Unit {0}
AllPass test entries (line ∷ lines) =
    (test line.0 (slice_get entries line.1) ≡ true) × AllPass test entries lines

-- the line at this place of a list is the ticket's
abbrev pub IsLineAt : Ticket → TicketLines → ℕ → Type 0
IsLineAt ticket lines place = (other : Ticket × ℕ)
    → lookup (same_ticket ticket) lines ≡ Some (slice_index_or lines place other).1

-- the request that is taken, by its line
abbrev pub taken_at : List Entry → Option (Ticket × ℕ) → Option (Ticket × Request)
taken_at entries taken =
    option_map (λ line. (line.0, entry_request (slice_get entries line.1))) taken

-- where the outstanding tickets stand, by their lines
abbrev pub standing_at : List Entry → TicketLines → TicketLines → Option (Ticket × ℕ) → Bool
    → TicketLines → Standing
standing_at entries urgent waiting taken abandoned outcomes =
    record {
      urgent = values_at entry_request entries urgent;
      waiting = values_at entry_request entries waiting;
      taken = taken_at entries taken;
      abandoned = abandoned;
      outcomes = values_at outcome_in entries outcomes;
    }

-- each line is an entry of its ticket, and those of the requests that wait have the request
pub record AreLines (entries : List Entry) (urgent waiting : TicketLines)
    (taken : Option (Ticket × ℕ)) (outcomes : TicketLines) : Type 0 where
  pub urgent_requests : AllPass has_request_of entries urgent
  pub waiting_requests : AllPass has_request_of entries waiting
  pub taken_within : AllPass is_of entries (option_to_list taken)
  pub outcomes_within : AllPass is_of entries outcomes

-- whether a ticket is outstanding, by the lines, or in doubt
abbrev pub is_still_open_by : Option Ticket → TicketLines → TicketLines → Option (Ticket × ℕ)
    → TicketLines → Ticket → Bool
is_still_open_by doubt urgent waiting taken outcomes ticket =
    (is_among ticket urgent || is_among ticket waiting)
    || (option_map_or (λ own. same_ticket ticket own.0) taken false
    || (is_among ticket outcomes || option_map_or (same_ticket ticket) doubt false))

-- a number that is this one becomes another
abbrev pub moved_number : ℕ → ℕ → ℕ → ℕ
moved_number from to number = if nat_eq number from then to else number

-- The number of a line once only the entries of open tickets are left: of these entries, of which
-- the first has the number `from`, and gets the number `to` if it stays
abbrev pub line_number_after : (Ticket → Bool) → ℕ → ℕ → List Entry → ℕ → ℕ
line_number_after is_retained from to [] number = number
line_number_after is_retained from to (entry ∷ entries) number = if is_retained (entry_ticket entry)
    then line_number_after is_retained (from + 1) (to + 1) entries (moved_number from to number)
    else line_number_after is_retained (from + 1) to entries number

-- these lines, each with another number
abbrev pub with_numbers : (ℕ → ℕ) → TicketLines → TicketLines
with_numbers change lines = map (λ line. (line.0, change line.1)) lines

-- each of these lines, once only the entries of open tickets are left
abbrev pub lines_after : (Ticket → Bool) → List Entry → TicketLines → TicketLines
lines_after is_retained entries lines =
    with_numbers (line_number_after is_retained 0 0 entries) lines
