-- What the calls of C on requests answer and leave, where the handle is open.
use Rattle.std.specs.Prelude.{◌≡◌, ℕ, Result, IfOk, OnErr}
use Rattle.iol_port.specs.Steps.{ticket_of}
use Rattle.iol_isdu.specs.declared.values.Request.{Request}
use Rattle.iol_book.specs.declared.entries.Ticket.{Ticket}
use Rattle.iol_book.specs.declared.entries.Outcome.{Outcome}
use Rattle.iol_book.specs.BookModel.{BookState, book_after_submit, book_after_urgent}
use Rattle.iol_port.specs.declared.call.Call.{Call}
use Rattle.iol_port.specs.declared.call.Call.TheVariants as call
use Rattle.iol_port.specs.declared.fault.PortFault.{PortFault}
use Rattle.iol_port.specs.EveryWire.{SubmitGives, CollectGives, WithdrawGives, CancelGives, AbandonGives}
use Rattle.iol_port.specs.Replies.{ticket_reply, outcome_reply, nothing_reply}
use Rattle.iolink_port_c.specs.declared.held.IolPort.{IolPort}
use Rattle.iolink_port_forms.specs.declared.request.Urgency.{Urgency}
use Rattle.iolink_port_forms.specs.declared.request.Urgency.TheVariants.{Ordinary, Urgent}
use Rattle.iolink_port_forms.specs.declared.outcome.IolOutcome.{IolOutcome}
use Rattle.iolink_port_c.specs.Calls.{held_parts, CallDoes}
use Rattle.iolink_port_forms.specs.Answers.{answer_number, ticket_out}
use Rattle.iolink_port_forms.specs.Shown.{OutcomeIsShown}

-- the port's call that enters a request, and the book after it
abbrev pub entering_call : Urgency → Request → Call
entering_call Ordinary request = call.Submit request
entering_call Urgent request = call.SubmitUrgent request

abbrev pub book_after_entering : Urgency → BookState → Request → BookState
book_after_entering Ordinary book request = book_after_submit book request
book_after_entering Urgent book request = book_after_urgent book request

-- a request is entered: the number, and the ticket that C is told
pub record HandleEnters (urgency : Urgency) (request : Request) (old : IolPort) (number ticket : ℕ)
    (new : IolPort) : Type 0 where
  pub answer : Result Ticket PortFault
  pub number_is : number ≡ answer_number answer
  pub ticket_is : ticket ≡ ticket_out answer
  pub gives : SubmitGives (held_parts old)
      (book_after_entering urgency (held_parts old).book.state request) answer
      (held_parts new)
  pub does : CallDoes old (entering_call urgency request) (ticket_reply answer) new

-- the outcome of a ticket is handed out, or refused and nothing is written for C
pub record HandleCollects (ticket : ℕ) (old : IolPort) (number : ℕ) (before after : IolOutcome)
    (new : IolPort) : Type 0 where
  pub answer : Result Outcome PortFault
  pub number_is : number ≡ answer_number answer
  pub gives : CollectGives (held_parts old) (ticket_of ticket) answer (held_parts new)
  pub does : CallDoes old (call.Collect (ticket_of ticket)) (outcome_reply answer) new
  pub shown : IfOk answer (λ outcome. OutcomeIsShown outcome after)
  pub unwritten : OnErr answer (after ≡ before)

-- a request that waits is taken back, or not
pub record HandleWithdraws (ticket : ℕ) (old : IolPort) (number : ℕ) (new : IolPort) : Type 0 where
  pub answer : Result (Unit {0}) PortFault
  pub number_is : number ≡ answer_number answer
  pub gives : WithdrawGives (held_parts old) (ticket_of ticket) answer (held_parts new)
  pub does : CallDoes old (call.Withdraw (ticket_of ticket)) (nothing_reply answer) new

-- the request under way is asked to be cut off, or not
pub record HandleCancels (ticket : ℕ) (old : IolPort) (number : ℕ) (new : IolPort) : Type 0 where
  pub answer : Result (Unit {0}) PortFault
  pub number_is : number ≡ answer_number answer
  pub gives : CancelGives (held_parts old) (ticket_of ticket) answer (held_parts new)
  pub does : CallDoes old (call.Cancel (ticket_of ticket)) (nothing_reply answer) new

-- the outcome of a ticket is given up, or not
pub record HandleAbandons (ticket : ℕ) (old : IolPort) (number : ℕ) (new : IolPort) : Type 0 where
  pub answer : Result (Unit {0}) PortFault
  pub number_is : number ≡ answer_number answer
  pub gives : AbandonGives (held_parts old) (ticket_of ticket) answer (held_parts new)
  pub does : CallDoes old (call.Abandon (ticket_of ticket)) (nothing_reply answer) new
