-- A submit at a desk, and what lies under a master's locks as it is closed.
use Rattle.std.specs.Prelude.{◌≡◌, ℕ, ◌+◌, ◌^◌, ◌<◌, ◌⊎◌, List, [], ◌∷◌, ◌++◌, filter, length, Result, Ok, Err}
use Rattle.iol_isdu.specs.declared.values.Request.{Request}
use Rattle.iol_book.specs.declared.entries.Ticket.{Ticket}
use Rattle.iol_book.specs.declared.fault.BookFault.TheVariants.{Full, TicketsSpent}
use Rattle.iol_port.specs.declared.fault.PortFault.TheVariants.{Book}
use Rattle.iol_master.specs.declared.ports.DeskUrgency.{DeskUrgency}
use Rattle.iol_master.specs.declared.fault.MasterFault.{MasterFault}
use Rattle.iol_master.specs.declared.fault.MasterFault.TheVariants.{Port as OfPort}
use Rattle.iol_master.specs.declared.accounts.Tally.{Tally}
use Rattle.iol_master.specs.Counts.{DeskState, AccountState}
use Rattle.iol_master.specs.Ports.{PortFacts, awaits_client}

module _ {P : Type 0} (facts : PortFacts P) where
  open facts use {holds, submits}

  -- at these ports so many submits were accepted together
  abbrev pub HaveAccepted : List P → ℕ → Type 0
  HaveAccepted [] count = count ≡ 0
  HaveAccepted (p ∷ ports) count = (accepted : ℕ) × (others : ℕ)
      × holds p accepted × HaveAccepted ports others × (count ≡ accepted + others)

  -- What lay under a master's locks as it was closed: its ports, and a tally, which both counted as
  -- many tickets as are told
  pub record WasClosed (count : ℕ) (tally : Tally) : Type 0 where
    pub ports : List P
    pub all : length ports ≡ count
    pub accepted : HaveAccepted ports tally.tickets
    pub accounts : AccountState
    pub desks : tally.desks ≡ accounts.desks
    pub settled : tally.settled ≡ accounts.settled
    pub total : tally.tickets ≡ accounts.total

  -- those of a desk's tickets that are outstanding at its port
  abbrev pub tickets_left : P → DeskState → List Ticket
  tickets_left p d = filter (awaits_client facts p) d.tickets

  -- where 64 of them are, no port has room for another, and this one isn't asked; else as the port
  -- refuses it
  abbrev pub PortRefuses : P → DeskState → DeskUrgency → Request → MasterFault → P → Type 0
  PortRefuses p d kind request why p' =
      ((length (tickets_left p d) ≡ 64) × (why ≡ OfPort (Book Full)) × (p' ≡ p))
      ⊎ ((length (tickets_left p d) < 64) × submits p kind request (Err why) p')

  -- because the tally is as large as it can be, and then the port isn't asked; or
  -- as above
  abbrev pub SubmitIsRefused : P → AccountState → DeskState → DeskUrgency → Request → MasterFault
      → P → Type 0
  SubmitIsRefused p a d kind request why p' =
      ((a.total + 1 ≡ 2 ^ 64) × (why ≡ OfPort (Book TicketsSpent)) × (p' ≡ p))
      ⊎ ((a.total + 1 < 2 ^ 64) × PortRefuses p d kind request why p')

  -- A submit at a desk: the port, the tally and the desk, before and after.
  -- Where a ticket is answered, each counts one more, and the desk has that ticket behind those
  -- that were left; else nothing changes.
  abbrev pub Enters : P → AccountState → DeskState → DeskUrgency → Request
      → Result Ticket MasterFault → P → AccountState → DeskState → Type 0
  Enters p a d kind request (Ok ticket) p' a' d' =
      (a.total + 1 < 2 ^ 64) × submits p kind request (Ok ticket) p'
      × (a' ≡ record a { total = a.total + 1 })
      × (d' ≡ record d { accepted = d.accepted + 1; tickets = tickets_left p d ++ ticket ∷ [] })
  Enters p a d kind request (Err why) p' a' d' = (a' ≡ a) × (d' ≡ d)
      × SubmitIsRefused p a d kind request why p'

  -- some port and some tally, whose locks were held, between which this very submit was made
  abbrev pub WasEntered : DeskState → DeskUrgency → Request → Result Ticket MasterFault
      → DeskState → Type 0
  WasEntered d kind request result d' =
      (p : P) × (a : AccountState) × (p' : P) × (a' : AccountState)
      × Enters p a d kind request result p' a' d'
