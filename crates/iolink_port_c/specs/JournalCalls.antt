-- What the calls of C on the journal answer and leave, where the handle is open.
use Rattle.std.specs.Prelude.{◌≡◌, ℕ, length, Result, IfOk, OnOk, OnErr}
use Rattle.iol_book.specs.declared.fault.BookFault.{BookFault}
use Rattle.iol_book.specs.Faults.{book_fault_number}
use Rattle.iol_book.specs.BookModel.{archive_refusal}
use Rattle.iol_port.specs.declared.call.Call.TheVariants as call
use Rattle.iol_port.specs.declared.call.Answered.TheVariants as answered
use Rattle.iol_port.specs.declared.fault.PortFault.TheVariants as fault
use Rattle.iol_port.specs.declared.fault.PortFault.{PortFault}
use Rattle.iol_port.specs.View.{PortParts}
use Rattle.iol_port.specs.Called.{Drains, core_call}
use Rattle.iolink_port_forms.specs.Answers.{answer_number}
use Rattle.iolink_port_c.specs.declared.held.IolPort.{IolPort}
use Rattle.iolink_port_c.specs.Calls.{held_parts, call_taken, Stays, CallDoes}

-- the journal goes to the handle, which has read none of it
pub record HandleArchives (old : IolPort) (number count : ℕ) (new : IolPort) : Type 0 where
  pub number_is : number ≡ 0
  pub count_is : count ≡ length (held_parts old).book.state.journal
  pub retained : new.held.value.journal.entries.items ≡ (held_parts old).book.state.journal
  pub read : new.held.value.journal.read ≡ 0
  pub passed : call_taken new ≡ call_taken old
  pub does : CallDoes old call.Archive (answered.Archived count) new

-- why it doesn't
abbrev pub refusal_of : IolPort → BookFault
refusal_of old = archive_refusal (held_parts old).book.state

-- it doesn't: the book, and the journal that the handle keeps, stay as they are
pub record RefusesArchive (old : IolPort) (number count : ℕ) (new : IolPort) : Type 0 where
  pub number_is : number ≡ book_fault_number (refusal_of old)
  pub count_is : count ≡ 0
  pub book : (held_parts new).book.state ≡ (held_parts old).book.state
  pub rest : Stays old new
  pub does : CallDoes old call.Archive (answered.Refused (fault.Book (refusal_of old))) new

-- the port is drained, or it has no journal, or there is no memory for it
abbrev pub PortDrains : PortParts → PortParts → Result (ℕ × ℕ) PortFault → Type 0
PortDrains old new answer =
    Drains (core_call old new) (λ counts. old.book.state.journal) answer

-- what was drained goes to the handle, which has read none of it, with how many entries it has, and
-- how many of these are restated; else the journal that the handle keeps stays
pub record HandleDrains (old : IolPort) (number count restated : ℕ) (new : IolPort) : Type 0 where
  pub answer : Result (ℕ × ℕ) PortFault
  pub number_is : number ≡ answer_number answer
  pub drains : PortDrains (held_parts old) (held_parts new) answer
  pub counts : IfOk answer (λ counts. (counts.0 ≡ length (held_parts old).book.state.journal)
      × (counts.1 ≡ (held_parts old).book.state.restated))
  pub shown : IfOk answer (λ counts. (count ≡ counts.0) × (restated ≡ counts.1))
  pub retained : OnOk answer
      (new.held.value.journal.entries.items ≡ (held_parts old).book.state.journal)
  pub read : OnOk answer (new.held.value.journal.read ≡ 0)
  pub passed : call_taken new ≡ call_taken old
  pub none : OnErr answer ((count ≡ 0) × (restated ≡ 0))
  pub stays : OnErr answer (Stays old new)
