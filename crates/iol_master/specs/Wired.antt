-- A port with Data Storage and its wire, under a master's lock.
use Rattle.std.specs.Prelude.{◌≡◌, ◌-◌, ℕ, Option, Result, Ok, Err, IfNone, IfSome, is_some}
use Rattle.arrayvec.specs.ArrayVec.{ArrayVec}
use Rattle.iol_isdu.specs.declared.values.Request.{Request}
use Rattle.iol_far.specs.Octets.{octets_in}
use Rattle.iol_link.specs.declared.wire.Rate.{Rate}
use Rattle.iol_link.specs.WireFacts.{WireFacts}
use Rattle.iol_app.specs.declared.transmission.Transmission.{Transmission}
use Rattle.iol_app.specs.declared.transmission.Transmission.TheVariants as asked
use Rattle.iol_book.specs.declared.entries.Ticket.{Ticket}
use Rattle.iol_port.specs.declared.awaited.AwaitedAnswer.TheVariants.{Nothing}
use Rattle.iol_port.specs.declared.fault.PortFault.{PortFault}
use Rattle.iol_port.specs.Called.{Submits, SubmitsUrgent, Abandons}
use Rattle.iol_port.specs.CorePort.{awaited_answer}
use Rattle.iol_storage.specs.declared.stored.fault.StoredFault.{StoredFault}
use Rattle.iol_storage.specs.declared.stored.fault.StoredFault.TheVariants as stored_fault
use Rattle.iol_storage.specs.Stored.{is_own}
use Rattle.iol_storage.specs.StoredPort.{StoredParts, stored_call, client_refusal, PortAnswers, tickets_behind_submit}
use Rattle.iol_master.specs.declared.ports.DeskUrgency.{DeskUrgency}
use Rattle.iol_master.specs.declared.ports.DeskUrgency.TheVariants.{Ordinary, Urgent}
use Rattle.iol_master.specs.declared.fault.MasterFault.{MasterFault}
use Rattle.iol_master.specs.declared.fault.MasterFault.TheVariants.{Port as OfPort, Stored}
use Rattle.iol_master.specs.Line.{LineFacts, stored_facts}
use Rattle.iol_master.specs.Ports.{PortFacts, IsSubmitRefusal}

-- A port, and its wire

pub record WiredParts (W P : Type 0) : Type 0 where
  pub port : P
  pub wire : W

module _ {W P : Type 0} (facts : WireFacts W) (line : LineFacts P) where
  open facts use {wake_gives, exchange_gives}

  -- the wire is called once, as was asked, and what came of that is taken
  abbrev pub WireBrings : Transmission → W → W → P → P → Type 0
  WireBrings asked.Wake old new p next =
      (rate : Option Rate) × wake_gives old rate new × line.wakes p (is_some rate) next
  WireBrings (asked.Exchange out) old new p next =
      (received : Option (ArrayVec ℕ)) × exchange_gives old out.octets.items received new
      × line.receives p (octets_in received) next

  -- A turn: the port sends, the wire is called once, as it asked, and the port takes what came
  pub record IsWiredTurn (old new : WiredParts W P) : Type 0 where
    pub asked : Transmission
    pub sent : P
    pub sends : line.sends old.port asked sent
    pub brings : WireBrings asked old.wire new.wire sent new.port

-- One with Data Storage

abbrev pub SubmitsWithin : DeskUrgency → StoredParts → StoredParts → Request
    → Result Ticket PortFault → Type 0
SubmitsWithin Ordinary p p' request =
    Submits (stored_call p p') request
SubmitsWithin Urgent p p' request =
    SubmitsUrgent (stored_call p p') request

-- the stored port's own submit, or its urgent one
pub record StoredSubmits (p : StoredParts) (kind : DeskUrgency) (request : Request)
    (answer : Result Ticket StoredFault) (p' : StoredParts) : Type 0 where
  pub denied : IfSome (client_refusal p request) (λ why. (answer ≡ Err why) × (p' ≡ p))
  pub is : IfNone (client_refusal p request)
      (PortAnswers answer (SubmitsWithin kind p p' request))
  pub tickets : p'.tickets ≡ tickets_behind_submit p.tickets answer

-- its refusal is the master's
abbrev pub as_master : StoredFault → MasterFault
as_master (stored_fault.Port why) = OfPort why
as_master other = Stored other

abbrev pub by_stored : Result Ticket StoredFault → Result Ticket MasterFault
by_stored (Ok ticket) = Ok ticket
by_stored (Err why) = Err (as_master why)

abbrev pub WiredSubmits : {W : Type 0} → WiredParts W StoredParts → DeskUrgency → Request
    → Result Ticket MasterFault → WiredParts W StoredParts → Type 0
WiredSubmits p kind request result next = (answer : Result Ticket StoredFault)
    × (result ≡ by_stored answer) × StoredSubmits p.port kind request answer next.port
    × (next.wire ≡ p.wire)

-- besides, a client may not write at the Index of Data Storage
abbrev pub WiredRefuses : MasterFault → Type 0
WiredRefuses (OfPort why) = IsSubmitRefusal why
WiredRefuses (Stored why) = why ≡ stored_fault.OwnedIndex
WiredRefuses other = ⊥

pub record StoredAbandonsOne {W : Type 0} (p : WiredParts W StoredParts) (ticket : Ticket)
    (next : WiredParts W StoredParts) : Type 0 where
  pub call : Abandons (stored_call p.port next.port) ticket (Ok tt)
  pub tickets : next.port.tickets ≡ p.port.tickets - 1
  pub wire : next.wire ≡ p.wire

abbrev pub wired_facts : {W : Type 0} → WireFacts W → PortFacts (WiredParts W StoredParts)
wired_facts facts = record {
  -- between turns nothing is out
  holds = λ p count. awaited_answer p.port.port ≡ Nothing;
  standing = λ p. p.port.port.book.state.standing;
  own = λ p ticket. is_own p.port.storage ticket;
  submits = WiredSubmits;
  refuses = WiredRefuses;
  abandons = StoredAbandonsOne;
  turns = IsWiredTurn facts stored_facts;
}
