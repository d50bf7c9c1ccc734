-- What a master needs of each of its ports, and what that is of a port with its wire.
use Rattle.std.specs.Prelude.{◌≡◌, ◌⊎◌, ℕ, ◌&&◌, not, Bool, false, Result, Ok, Err}
use Rattle.iol_isdu.specs.declared.values.Request.{Request}
use Rattle.iol_link.specs.WireFacts.{WireFacts}
use Rattle.iol_book.specs.declared.entries.Ticket.{Ticket}
use Rattle.iol_book.specs.Replay.{Standing}
use Rattle.iol_book.specs.BookModel.{is_outstanding}
use Rattle.iol_book.specs.declared.fault.BookFault.TheVariants.{Full, JournalFull, TicketsSpent, OutOfMemory as NoMemory}
use Rattle.iol_port.specs.declared.fault.PortFault.{PortFault}
use Rattle.iol_port.specs.declared.fault.PortFault.TheVariants.{Book}
use Rattle.iol_port.specs.Called.{Abandons, Turns, PublishesAfter, port_call}
use Rattle.iol_port.specs.View.{PortValue}
use Rattle.iol_master.specs.declared.ports.DeskUrgency.{DeskUrgency}
use Rattle.iol_master.specs.declared.fault.MasterFault.{MasterFault}
use Rattle.iol_master.specs.declared.fault.MasterFault.TheVariants.{Port as OfPort}
use Rattle.iol_master.specs.Tickets.{HasIssued, SubmitsAs}

-- What a master needs of each of its ports
pub record PortFacts (P : Type 0) : Type 1 where
  -- what stands of a port under its lock at which so many submits were accepted
  pub holds : P → ℕ → Type 0
  -- where each ticket stands there, and which are the port's own
  pub standing : P → Standing
  pub own : P → Ticket → Bool
  -- what its calls give, and why a submit is refused
  pub submits : P → DeskUrgency → Request → Result Ticket MasterFault → P → Type 0
  pub refuses : MasterFault → Type 0
  pub abandons : P → Ticket → P → Type 0
  pub turns : P → P → Type 0

module _ {P : Type 0} (facts : PortFacts P) where
  open facts use {standing, own}

  -- a ticket of a client is outstanding
  abbrev pub awaits_client : P → Ticket → Bool
  awaits_client p ticket = not (own p ticket) && is_outstanding (standing p) ticket

-- A port with its wire

-- the port's answer is the master's
abbrev pub WireSubmits : {W : Type 0} → PortValue W → DeskUrgency → Request
    → Result Ticket MasterFault → PortValue W → Type 0
WireSubmits p kind request (Ok ticket) p' = SubmitsAs p kind request (Ok ticket) p'
WireSubmits p kind request (Err (OfPort why)) p' = SubmitsAs p kind request (Err why) p'
WireSubmits p kind request (Err other) p' = ⊥

-- why a port refuses a submit: as many tickets are outstanding as may be, the journal has no
-- room, the tickets are spent, memory is lacking
abbrev pub IsSubmitRefusal : PortFault → Type 0
IsSubmitRefusal why = (why ≡ Book Full) ⊎ (why ≡ Book JournalFull) ⊎ (why ≡ Book TicketsSpent)
    ⊎ (why ≡ Book NoMemory)

abbrev pub WireRefuses : MasterFault → Type 0
WireRefuses (OfPort why) = IsSubmitRefusal why
WireRefuses other = ⊥

-- the port's own abandon, which is not refused, as the ticket is outstanding
abbrev pub AbandonsOne : {W : Type 0} → PortValue W → Ticket → PortValue W → Type 0
AbandonsOne p ticket next = Abandons (port_call p next) ticket (Ok tt)

abbrev pub port_facts : {W : Type 0} → WireFacts W → PortFacts (PortValue W)
port_facts facts = record {
  holds = HasIssued;
  standing = λ p. p.parts.book.state.standing;
  own = λ p ticket. false;
  submits = WireSubmits;
  refuses = WireRefuses;
  abandons = AbandonsOne;
  turns = λ p next. PublishesAfter (Turns facts p) p next;
}
