-- What a call answers, as the list of a run's answers has it.
use Rattle.std.specs.Prelude.{ℕ, List, length, Result, Ok, Err}
use Rattle.iol_event.specs.declared.event.Event.{Event}
use Rattle.iol_book.specs.declared.entries.Entry.{Entry}
use Rattle.iol_book.specs.declared.entries.Outcome.{Outcome}
use Rattle.iol_book.specs.declared.entries.Ticket.{Ticket}
use Rattle.iol_book.specs.declared.fault.BookFault.{BookFault}
use Rattle.iol_app.specs.declared.output.OutputFault.{OutputFault}
use Rattle.iol_port.specs.declared.call.Answered.{Answered}
use Rattle.iol_port.specs.declared.call.Answered.TheVariants as answered
use Rattle.iol_port.specs.declared.fault.PortFault.{PortFault}
use Rattle.iol_port.specs.declared.fault.PortFault.TheVariants as fault

-- a value in its own way, else the refusal
abbrev pub result_reply : {X : Type 0} → (X → Answered) → Result X PortFault → Answered
result_reply answer (Ok value) = answer value
result_reply answer (Err why) = answered.Refused why

abbrev pub ticket_reply : Result Ticket PortFault → Answered
ticket_reply result = result_reply (λ ticket. answered.Ticket ticket) result

abbrev pub outcome_reply : Result Outcome PortFault → Answered
outcome_reply result = result_reply (λ outcome. answered.Outcome outcome) result

abbrev pub nothing_reply : Result (Unit {0}) PortFault → Answered
nothing_reply result = result_reply (λ _. answered.Nothing) result

abbrev pub event_reply : Result Event PortFault → Answered
event_reply result = result_reply (λ event. answered.Event event) result

-- of an archive, how many entries were handed out
abbrev pub archive_reply : Result (List Entry) PortFault → Answered
archive_reply result = result_reply (λ entries. answered.Archived (length entries)) result

-- of a drain, how many of them, and how many of these are restated
abbrev pub drained_answer : ℕ → ℕ → Answered
drained_answer entries restated =
    answered.Drained (record { entries = entries; restated = restated })

abbrev pub drain_reply : ℕ → Result (List Entry) PortFault → Answered
drain_reply restated result =
    result_reply (λ entries. drained_answer (length entries) restated) result

-- the book's refusals are the port's
abbrev pub by_book : {X : Type 0} → Result X BookFault → Result X PortFault
by_book (Ok value) = Ok value
by_book (Err why) = Err (fault.Book why)

-- and so are those of an output
abbrev pub by_output : Result (Unit {0}) OutputFault → Result (Unit {0}) PortFault
by_output (Ok value) = Ok value
by_output (Err why) = Err (fault.Output why)
