-- What is counted of a port.
use Rattle.std.specs.Prelude.{◌≡◌, ℕ, ◌+◌, ◌==◌, if◌then◌else◌, List, [], ◌∷◌, ⊤, Result, Ok}
use Rattle.std.specs.List.{FoldsTo}
use Rattle.iol_book.specs.declared.entries.Outcome.{Outcome}
use Rattle.iol_book.specs.declared.entries.Outcome.TheVariants.{Done, Unknown}
use Rattle.iol_book.specs.declared.entries.Ticket.{Ticket}
use Rattle.iol_port.specs.declared.call.Call.TheVariants as call
use Rattle.iol_port.specs.declared.fault.PortFault.{PortFault}
use Rattle.iol_port.specs.EveryWire.{CollectGives}
use Rattle.iol_port.specs.Replies.{outcome_reply}
use Rattle.iol_port.specs.View.{PortValue}
use Rattle.iol_port.specs.CorePort.{CoreDoes}
use Rattle.iol_master.specs.declared.accounts.Settled.{Settled}
use Rattle.iol_master.specs.declared.accounts.Settled.TheVariants.{Part, Last}
use Rattle.iol_master.specs.Counts.{DeskState}
use Rattle.iol_master.specs.Master.{WasSettled}
use Rattle.iol_clients.specs.declared.counts.RequestCounts.{RequestCounts}
use Rattle.iol_clients.specs.declared.counts.PortCounts.{PortCounts}

-- each ticket stands in one of three counts
abbrev pub AddsUp : RequestCounts → Type 0
AddsUp c = c.tickets ≡ c.done + c.unknown + c.waiting

-- one ticket more, with what its collect answered; nobody withdraws and each device
-- has ISDU, so a withdrawn or a denied one would be a mistake, and waits for ever
abbrev pub counts_with_ticket : RequestCounts → Result Outcome PortFault → RequestCounts
counts_with_ticket c (Ok (Done answer)) = record c { tickets = c.tickets + 1; done = c.done + 1 }
counts_with_ticket c (Ok (Unknown cause)) =
    record c { tickets = c.tickets + 1; unknown = c.unknown + 1 }
counts_with_ticket c other = record c { tickets = c.tickets + 1; waiting = c.waiting + 1 }

-- no ticket
abbrev pub no_tickets : RequestCounts
no_tickets = record { tickets = 0; done = 0; unknown = 0; waiting = 0 }

-- the accepted submits of a desk, where it stands at this port
abbrev pub accepted_at : ℕ → DeskState → ℕ
accepted_at port desk = if desk.port == port then desk.accepted else 0

pub record ClientState : Type 0 where
  pub desk : DeskState
  -- those that it was given there
  pub tickets : List Ticket

abbrev pub client_state : DeskState → List Ticket → ClientState
client_state desk tickets = record { desk = desk; tickets = tickets }

-- a client's tickets, where its desk stands at this port
abbrev pub tickets_at : ℕ → ClientState → List Ticket
tickets_at port client = if client.desk.port == port then client.tickets else []

-- The total, which the last desk is told
abbrev pub total_after_settling : ℕ → Settled → ℕ
total_after_settling total (Part n) = total
total_after_settling total (Last n all) = all

-- a client's desk is settled
abbrev pub SettlesClient : ℕ → ClientState → ℕ → Type 0
SettlesClient total client next =
    (answer : Settled) × WasSettled client.desk answer × (next ≡ total_after_settling total answer)

-- and so are all, one after another
abbrev pub AreSettled : List ClientState → ℕ → Type 0
AreSettled clients total = FoldsTo SettlesClient 0 clients total

-- the port's own collect
pub record PortCollects {W : Type 0} (p : PortValue W) (ticket : Ticket)
    (answer : Result Outcome PortFault)
    (next : PortValue W) : Type 0 where
  pub does : CoreDoes p.parts (call.Collect ticket) (outcome_reply answer) next.parts
  pub gives : CollectGives p.parts ticket answer next.parts
  pub rest : next ≡ record p { parts = next.parts }

-- a ticket is collected, and counted by what that answered: the port and the counts
abbrev pub Notes : {W : Type 0} → PortValue W × RequestCounts → Ticket
    → PortValue W × RequestCounts → Type 0
Notes (p, counted) ticket (next, more) =
    (answer : Result Outcome PortFault) × PortCollects p ticket answer next
    × (more ≡ counts_with_ticket counted answer)

-- so are a client's tickets, in their order
abbrev pub NotesClientTickets : {W : Type 0} → ℕ → PortValue W × RequestCounts → ClientState
    → PortValue W × RequestCounts → Type 0
NotesClientTickets port before client after = FoldsTo Notes before (tickets_at port client) after

-- some port, whose lock was held, at which this was so of each client, and of nobody else, and
-- which had counted this then
abbrev pub WasCounted : (W : Type 0) → ℕ → List ClientState → PortCounts → Type 0
WasCounted W port clients counts = (p : PortValue W) × (next : PortValue W)
    × FoldsTo (NotesClientTickets port) (p, no_tickets) clients (next, counts.requests)
    × (counts.counters ≡ next.parts.counters)

-- the ports from the first on were counted
abbrev pub AreCounted : (W : Type 0) → ℕ → List ClientState → List PortCounts → Type 0
AreCounted W first clients [] = ⊤
AreCounted W first clients (port ∷ ports) =
    WasCounted W first clients port × AreCounted W (first + 1) clients ports
