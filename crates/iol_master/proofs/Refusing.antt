-- Why a submit is refused at a port without Data Storage, and with it: the clause `refused` of
-- `submit_as`. And that a withdrawal gives no ticket: the invariant behind `Held::withdraw`.
-- For the clauses of `Held::withdraw` and `wired::submit_as`.
use Rattle.std.proofs.Common.{◌≡◌, ℕ, Bool, true, false, cond, refl, ap, Some, None, is_some, nat_le, nat_eq, ◌+◌, ◌^◌, Result, Ok, Err, inl, inr}
use Rattle.std.specs.Prelude.{IfErr, IfNone, IfSome}
use Rattle.iol_book.specs.declared.entries.Ticket.{Ticket}
use Rattle.iol_book.specs.declared.entries.Entry.TheVariants.{Withdrawn}
use Rattle.iol_book.specs.declared.fault.BookFault.{BookFault}
use Rattle.iol_book.specs.declared.fault.BookFault.TheVariants.{Full, JournalFull, TicketsSpent}
use Rattle.iol_book.specs.BookModel.{BookState, BookValue, RefusesFor, book_after_withdrawal, book_with_entry, is_journal_full, outstanding_count, submit_refusal, withdraw_refusal}
use Rattle.iol_port.specs.declared.fault.PortFault.{PortFault}
use Rattle.iol_port.specs.declared.fault.PortFault.TheVariants as port_fault
use Rattle.iol_port.specs.EveryWire.{RefusesSubmit}
use Rattle.iol_isdu.specs.declared.values.Request.{Request}
use Rattle.iol_storage.specs.declared.stored.fault.StoredFault.{StoredFault}
use Rattle.iol_storage.specs.declared.stored.fault.StoredFault.TheVariants as stored_fault
use Rattle.iol_storage.specs.StoredPort.{writes_owned}
use Rattle.iol_storage.specs.StoredPort.{StoredParts, client_refusal, PortAnswers, by_port}
use Rattle.iol_master.specs.Ports.{IsSubmitRefusal}
use Rattle.iol_master.specs.Wired.{WiredRefuses, as_master}

-- the book's reason is one of four
book-refuses : (book : BookState) (why : BookFault) (room : ℕ)
    → RefusesFor (submit_refusal book) why room → IsSubmitRefusal (port_fault.Book why)
book-refuses book why room = by (nat_le book.queue (outstanding_count book.standing))
    (is_journal_full book) (nat_eq (book.last + 1) (2 ^ 64))
  where
    by : (full journal spent : Bool) → RefusesFor (cond full (Some Full)
        (cond journal (Some JournalFull) (cond spent (Some TicketsSpent) None))) why room
        → IsSubmitRefusal (port_fault.Book why)
    by true journal spent is = inl (ap (λ w. port_fault.Book w) is)
    by false true spent is = inr (inl (ap (λ w. port_fault.Book w) is))
    by false false true is = inr (inr (inl (ap (λ w. port_fault.Book w) is)))
    by false false false is = inr (inr (inr (ap (λ w. port_fault.Book w) is.0)))

pub port-refuses : (book : BookValue) (why : PortFault) → RefusesSubmit book why
    → IsSubmitRefusal why
port-refuses book (port_fault.Book why) is = book-refuses book.state why book.room is
port-refuses book (port_fault.Output why) is = absurd is
port-refuses book port_fault.NoEvent is = absurd is

-- a withdrawal gives no ticket
pub withdrawal-last : (book : BookState) (ticket : Ticket)
    → (book_after_withdrawal book ticket).last ≡ book.last
withdrawal-last book ticket = by (is_some (withdraw_refusal book.standing ticket))
  where
    by : (refused : Bool)
        → (cond refused book (book_with_entry book (Withdrawn ticket))).last ≡ book.last
    by true = refl
    by false = refl

module _ (p : StoredParts) (request : Request) {Holds : Result Ticket PortFault → Type 0}
    (holds : (answer : Result Ticket PortFault) → Holds answer
    → IfErr answer (λ why. RefusesSubmit p.port.book why)) where
  within-refuses : (answer : Result Ticket PortFault)
      → IfErr answer (λ why. RefusesSubmit p.port.book why)
      → IfErr (by_port answer) (λ why. WiredRefuses (as_master why))
  within-refuses (Ok ticket) is = tt
  within-refuses (Err why) is = port-refuses p.port.book why is

  -- a client may not write at the Index of Data Storage, nor have more tickets than are for it
  pub stored-refuses : (result : Result Ticket StoredFault) (next : StoredParts)
      → IfSome (client_refusal p request) (λ why. (result ≡ Err why) × (next ≡ p))
      → IfNone (client_refusal p request) (PortAnswers result Holds)
      → IfErr result (λ why. WiredRefuses (as_master why))
  stored-refuses result next = by (writes_owned request) (nat_le p.most p.tickets)
    where
      by : (owned full : Bool)
          → IfSome (cond owned (Some stored_fault.OwnedIndex)
          (cond full (Some (stored_fault.Port (port_fault.Book Full))) None))
          (λ why. (result ≡ Err why) × (next ≡ p))
          → IfNone (cond owned (Some stored_fault.OwnedIndex)
          (cond full (Some (stored_fault.Port (port_fault.Book Full))) None))
          (PortAnswers result Holds) → IfErr result (λ why. WiredRefuses (as_master why))
      by true full denied is = rw denied.0 refl
      by false true denied is = rw denied.0 (inl refl)
      by false false denied is = rw is.1 (within-refuses is.0 (holds is.0 is.2))
