-- What an abandon leaves of a book: the ticket is unknown, and a request under way keeps its place.
use Rattle.std.specs.Prelude.{◌≡◌, ℕ, true, false, None, Some, Err}
use Rattle.iol_book.specs.declared.entries.Ticket.{Ticket}
use Rattle.iol_book.specs.declared.entries.Outcome.{Outcome}
use Rattle.iol_book.specs.declared.fault.BookFault.TheVariants.{UnknownTicket}
use Rattle.iol_book.specs.Replay.{Standing, same_ticket, is_taken}
use Rattle.iol_book.specs.BookModel.{BookState, collect_answer, withdraw_refusal, flight_refusal, abandon_refusal, book_after_abandon, book_after_post}
use Rattle.iol_book.specs.Drained.{in_doubt}
use Rattle.iol_book.specs.Numbers.{IsNumbered}

-- every call about the ticket is refused
pub record IsUnknown (standing : Standing) (ticket : Ticket) : Type 0 where
  pub collect : collect_answer standing ticket ≡ Err UnknownTicket
  pub withdraw : withdraw_refusal standing ticket ≡ Some UnknownTicket
  pub cancel : flight_refusal standing ticket ≡ Some UnknownTicket
  pub abandon : abandon_refusal standing ticket ≡ Some UnknownTicket

-- what is told of a ticket is the same
pub record IsReportedAlike (before after : Standing) (ticket : Ticket) : Type 0 where
  pub collect : collect_answer after ticket ≡ collect_answer before ticket
  pub withdraw : withdraw_refusal after ticket ≡ withdraw_refusal before ticket
  pub cancel : flight_refusal after ticket ≡ flight_refusal before ticket

pub record AbandonLeaves (book : BookState) (ticket : Ticket) (next : BookState) : Type 0 where
  -- the ticket is over for whoever asks
  pub unknown : IsUnknown next.standing ticket
  -- none in flight is freed: the request that is taken stays so
  pub flight : next.standing.taken ≡ book.standing.taken
  -- its outcome ends it, and is handed out to nobody
  pub late : is_taken book.standing ticket ≡ true → (outcome : Outcome)
      → (book_after_post next outcome).standing
      ≡ record next.standing { taken = None; abandoned = false }
  -- the device may still carry out what it might before
  pub doubt : in_doubt next.unsure next.journal ≡ in_doubt book.unsure book.journal
  -- and of each other ticket is told what was
  pub others : (other : Ticket) → same_ticket ticket other ≡ false
      → IsReportedAlike book.standing next.standing other

-- so it is in any book in which each ticket names one request
-- BOOK-14
abbrev pub AbandonsHold : Type 0
AbandonsHold = (last : ℕ) (book : BookState) (ticket : Ticket) → IsNumbered last book.standing
    → AbandonLeaves book ticket (book_after_abandon book ticket)
