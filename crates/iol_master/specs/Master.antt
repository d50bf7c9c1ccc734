-- What the calls of a master answer. A master is seen as the number of its ports.
use Rattle.std.specs.Prelude.{◌≡◌, ◌⊎◌, ℕ, ◌+◌, ◌≤◌, List, [], ◌∷◌, ◌++◌, Some, None, Result, Ok, Err}
use Rattle.iol_book.specs.declared.entries.Ticket.{Ticket}
use Rattle.iol_book.specs.declared.fault.BookFault.TheVariants.{Full, TicketsSpent}
use Rattle.iol_port.specs.declared.fault.PortFault.TheVariants.{Book}
use Rattle.iol_master.specs.declared.fault.MasterFault.{MasterFault}
use Rattle.iol_master.specs.declared.fault.MasterFault.TheVariants.{Port, Stored, OutOfMemory, NoSuchPort, NoThread, DesksFull}
use Rattle.iol_master.specs.declared.accounts.Settled.{Settled}
use Rattle.iol_master.specs.declared.accounts.Settled.TheVariants.{Part, Last}
use Rattle.iol_master.specs.Counts.{DeskState, AccountState, new_desk, Opens, Settles}

-- ports are numbered from 1
abbrev pub IsPortNumber : ℕ → ℕ → Type 0
IsPortNumber ports port = (1 ≤ port) × (port ≤ ports)

-- a desk is opened with no submit
abbrev pub Desks : ℕ → ℕ → Result DeskState MasterFault → Type 0
Desks ports port (Ok desk) = IsPortNumber ports port × (desk ≡ new_desk port)
Desks ports port (Err NoSuchPort) = ¬ IsPortNumber ports port
Desks ports port (Err DesksFull) = IsPortNumber ports port
Desks ports port (Err (Port why)) = ⊥
Desks ports port (Err OutOfMemory) = ⊥
Desks ports port (Err NoThread) = ⊥
Desks ports port (Err (Stored why)) = ⊥

-- some tally, whose lock was held, at which this desk was opened, or which had none to open
abbrev pub WasOpened : ℕ → Result DeskState MasterFault → Type 0
WasOpened port (Ok desk) = (a : AccountState) × (b : AccountState) × Opens a port (Some desk) b
WasOpened port (Err DesksFull) = (a : AccountState) × (b : AccountState) × Opens a port None b
WasOpened port (Err NoSuchPort) = ⊥
WasOpened port (Err (Port why)) = ⊥
WasOpened port (Err OutOfMemory) = ⊥
WasOpened port (Err NoThread) = ⊥
WasOpened port (Err (Stored why)) = ⊥

-- a desk that counts one more, and has that ticket behind others
abbrev pub CountsTicket : DeskState → Ticket → DeskState → Type 0
CountsTicket d ticket d' = (others : List Ticket)
    × (d' ≡ record d { accepted = d.accepted + 1; tickets = others ++ ticket ∷ [] })

-- why a submit is refused at a desk: 64 of its tickets are outstanding, the tickets are spent, or
-- as the port refuses one
abbrev pub IsDeskRefusal : (MasterFault → Type 0) → MasterFault → Type 0
IsDeskRefusal refuses why =
    (why ≡ Port (Book Full)) ⊎ (why ≡ Port (Book TicketsSpent)) ⊎ refuses why

-- A desk counts one more exactly where a ticket is answered. Tickets are numbered from 1.
abbrev pub CountsSubmit : (MasterFault → Type 0) → DeskState → Result Ticket MasterFault → DeskState
    → Type 0
CountsSubmit refuses d (Ok ticket) d' = (1 ≤ ticket.0) × CountsTicket d ticket d'
CountsSubmit refuses d (Err why) d' = IsDeskRefusal refuses why × (d' ≡ d)

-- where there is such a port
abbrev pub DeskCountsSubmit : (MasterFault → Type 0) → ℕ → DeskState → Result Ticket MasterFault
    → DeskState → Type 0
DeskCountsSubmit refuses ports d (Ok ticket) d' =
    IsPortNumber ports d.port × CountsSubmit refuses d (Ok ticket) d'
DeskCountsSubmit refuses ports d (Err why) d' =
    ((¬ IsPortNumber ports d.port) × (why ≡ NoSuchPort) × (d' ≡ d))
    ⊎ (IsPortNumber ports d.port × CountsSubmit refuses d (Err why) d')

-- the last desk is told the total, in which its own submits are
abbrev pub SettledAs : ℕ → Settled → Type 0
SettledAs accepted (Part n) = n ≡ accepted
SettledAs accepted (Last n total) = (n ≡ accepted) × (n ≤ total)

-- some tally, whose lock was held, at which this very desk was settled
abbrev pub WasSettled : DeskState → Settled → Type 0
WasSettled desk settlement = (a : AccountState) × (b : AccountState) × Settles a desk settlement b
