-- What the calls of C on requests answer and leave, where the handle is open: as the calls of a
-- port with Data Storage say it.
use Rattle.std.specs.Prelude.{◌≡◌, ℕ, false, Result, Err, IfOk, IfSome, IfNone, OnErr, IsTrue, is_ok}
use Rattle.iol_port.specs.Steps.{ticket_of}
use Rattle.iol_isdu.specs.declared.values.Request.{Request}
use Rattle.iol_book.specs.declared.entries.Ticket.{Ticket}
use Rattle.iol_book.specs.declared.entries.Outcome.{Outcome}
use Rattle.iol_port.specs.declared.fault.PortFault.{PortFault}
use Rattle.iol_port.specs.Called.{Submits, SubmitsUrgent, Collects, Withdraws, Cancels, Abandons}
use Rattle.iol_storage.specs.declared.stored.fault.StoredFault.{StoredFault}
use Rattle.iol_storage.specs.Stored.{is_own}
use Rattle.iol_storage.specs.StoredPort.{StoredParts, stored_call, client_refusal, unknown_ticket, PortAnswers, tickets_behind_submit, tickets_without}
use Rattle.iolink_port_forms.specs.declared.request.Urgency.{Urgency}
use Rattle.iolink_port_forms.specs.declared.request.Urgency.TheVariants.{Ordinary, Urgent}
use Rattle.iolink_port_forms.specs.declared.outcome.IolOutcome.{IolOutcome}
use Rattle.iolink_port_forms.specs.Answers.{answer_number, ticket_out}
use Rattle.iolink_port_forms.specs.Shown.{OutcomeIsShown}
use Rattle.iolink_storage_c.specs.Calls.{stored_number}

-- the port within enters a request
abbrev pub EntersWithin : Urgency → Request → StoredParts → StoredParts → Result Ticket PortFault
    → Type 0
EntersWithin Ordinary request old new returned =
    Submits (stored_call old new) request returned
EntersWithin Urgent request old new returned =
    SubmitsUrgent (stored_call old new) request returned

-- a request is entered: the number, and the ticket that C is told
pub record StoreEnters (urgency : Urgency) (request : Request) (old : StoredParts)
    (number ticket : ℕ) (new : StoredParts) : Type 0 where
  pub answer : Result Ticket StoredFault
  pub number_is : number ≡ stored_number answer
  pub ticket_is : ticket ≡ ticket_out answer
  pub denied : IfSome (client_refusal old request) (λ why. (answer ≡ Err why) × (new ≡ old))
  pub enters : IfNone (client_refusal old request)
      (PortAnswers answer (EntersWithin urgency request old new))
  pub tickets : new.tickets ≡ tickets_behind_submit old.tickets answer

-- a ticket of a job is unknown, and with that nothing happens
abbrev pub IsUnknownToClients : {X : Type 0} → ℕ → StoredParts → Result X PortFault → StoredParts
    → Type 0
IsUnknownToClients ticket old answer new = IsTrue (is_own old.storage (ticket_of ticket))
    → (answer ≡ Err unknown_ticket) × (new ≡ old)

-- the outcome of a ticket is handed out, or refused and nothing is written for C
pub record StoreCollects (ticket : ℕ) (old : StoredParts) (number : ℕ) (before after : IolOutcome)
    (new : StoredParts) : Type 0 where
  pub answer : Result Outcome PortFault
  pub number_is : number ≡ answer_number answer
  pub own : IsUnknownToClients ticket old answer new
  pub collects : is_own old.storage (ticket_of ticket) ≡ false
      → Collects (stored_call old new) (ticket_of ticket) answer
  pub tickets : new.tickets ≡ tickets_without (is_ok answer) old.tickets
  pub shown : IfOk answer (λ outcome. OutcomeIsShown outcome after)
  pub unwritten : OnErr answer (after ≡ before)

-- a request that waits is taken back, or not
pub record StoreWithdraws (ticket : ℕ) (old : StoredParts) (number : ℕ) (new : StoredParts) :
    Type 0 where
  pub answer : Result (Unit {0}) PortFault
  pub number_is : number ≡ answer_number answer
  pub own : IsUnknownToClients ticket old answer new
  pub withdraws : is_own old.storage (ticket_of ticket) ≡ false
      → Withdraws (stored_call old new) (ticket_of ticket) answer
  pub tickets : new.tickets ≡ old.tickets

-- the request under way is asked to be cut off, or not
pub record StoreCancels (ticket : ℕ) (old : StoredParts) (number : ℕ) (new : StoredParts) : Type 0
  where
    pub answer : Result (Unit {0}) PortFault
    pub number_is : number ≡ answer_number answer
    pub own : IsUnknownToClients ticket old answer new
    pub cancels : is_own old.storage (ticket_of ticket) ≡ false
        → Cancels (stored_call old new) (ticket_of ticket) answer
    pub tickets : new.tickets ≡ old.tickets

-- the outcome of a ticket is given up, or not
pub record StoreAbandons (ticket : ℕ) (old : StoredParts) (number : ℕ) (new : StoredParts) : Type 0
  where
    pub answer : Result (Unit {0}) PortFault
    pub number_is : number ≡ answer_number answer
    pub own : IsUnknownToClients ticket old answer new
    pub abandons : is_own old.storage (ticket_of ticket) ≡ false
        → Abandons (stored_call old new) (ticket_of ticket) answer
    pub tickets : new.tickets ≡ tickets_without (is_ok answer) old.tickets
