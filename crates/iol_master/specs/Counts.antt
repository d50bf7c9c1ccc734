-- What desks and the master count.
use Rattle.std.specs.Prelude.{◌≡◌, ℕ, ◌+◌, ◌<◌, ◌≤◌, List, [], Option, Some, None}
use Rattle.iol_book.specs.declared.entries.Ticket.{Ticket}
use Rattle.iol_master.specs.declared.accounts.Settled.{Settled}
use Rattle.iol_master.specs.declared.accounts.Settled.TheVariants.{Part, Last}
use Rattle.iol_master.specs.declared.accounts.Tally.{Tally}

pub record DeskState : Type 0 where
  pub port : ℕ
  -- the accepted submits, which are the amount of its share
  pub accepted : ℕ
  -- the tickets that it was given and that may be outstanding
  pub tickets : List Ticket

-- a desk at this port, with no submit
abbrev pub new_desk : ℕ → DeskState
new_desk port = record { port = port; accepted = 0; tickets = [] }

pub record AccountState : Type 0 where
  -- the open desks
  pub desks : ℕ
  -- the sum over the settled desks
  pub settled : ℕ
  -- the sum over all desks, which is the sum over all ports
  pub total : ℕ

-- A desk is opened where fewer than 1,024 are open.
abbrev pub Opens : AccountState → ℕ → Option DeskState → AccountState → Type 0
Opens a port (Some d) b =
    (a.desks < 1024) × (d ≡ new_desk port) × (b ≡ record a { desks = a.desks + 1 })
Opens a port None b = (a.desks ≡ 1024) × (b ≡ a)

-- a desk with so many submits was put to the settled ones
abbrev pub PutBack : AccountState → DeskState → ℕ → AccountState → Type 0
PutBack a d n b =
    (n ≡ d.accepted) × (b.desks + 1 ≡ a.desks)
    × (b.settled ≡ a.settled + n) × (b.total ≡ a.total)

-- A desk is settled. The last one open is told the total, which all desks settled then make up.
abbrev pub Settles : AccountState → DeskState → Settled → AccountState → Type 0
Settles a d (Part n) b = PutBack a d n b × (0 < b.desks)
Settles a d (Last n t) b = PutBack a d n b × (b.desks ≡ 0) × (t ≡ b.total) × (t ≡ b.settled)

-- No more was settled than there are tickets, and where no desk is open just as much.
pub record IsClosed (tally : Tally) : Type 0 where
  pub desks : tally.desks ≤ 1024
  pub settled : tally.settled ≤ tally.tickets
  pub equal : tally.desks ≡ 0 → tally.settled ≡ tally.tickets
