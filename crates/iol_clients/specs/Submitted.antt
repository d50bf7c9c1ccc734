-- What the clients of a plan submit, and at which ports they stand.
use Rattle.std.specs.Prelude.{◌≡◌, ◌≢◌, ℕ, zero, suc, List, [], ◌∷◌, ◌++◌, map, length, replicate, All, Result, Ok, Err}
use Rattle.iol_isdu.specs.declared.values.Request.{Request}
use Rattle.iol_isdu.specs.declared.values.Request.TheVariants.{Read}
use Rattle.iol_book.specs.declared.entries.Ticket.{Ticket}
use Rattle.iol_book.specs.declared.fault.BookFault.TheVariants.{OutOfMemory as NoMemory}
use Rattle.iol_port.specs.declared.fault.PortFault.TheVariants.{Book}
use Rattle.iol_script.specs.Plan.{PlanNumbers}
use Rattle.iol_master.specs.declared.fault.MasterFault.{MasterFault}
use Rattle.iol_master.specs.declared.fault.MasterFault.TheVariants.{Port}
use Rattle.iol_master.specs.declared.ports.DeskUrgency.TheVariants.{Ordinary}
use Rattle.iol_master.specs.Counts.{new_desk}
use Rattle.iol_master.specs.Ports.{PortFacts}
use Rattle.iol_master.specs.Master.{IsPortNumber, CountsSubmit}
use Rattle.iol_master.specs.Entered.{WasEntered}
use Rattle.iol_master.specs.Served.{PortTurn}
use Rattle.iol_clients.specs.Counts.{ClientState, client_state}

-- what each client asks for: the parameter 16/0
abbrev pub client_request : Request
client_request = Read (record { index = 16; sub = 0 })

-- a client at a new desk of a port, which submitted nothing
abbrev pub new_client : ℕ → ClientState
new_client port = client_state (new_desk port) []

-- its tickets behind a submit: one that is refused gives none
abbrev pub tickets_with : List Ticket → Result Ticket MasterFault → List Ticket
tickets_with tickets (Ok ticket) = tickets ++ ticket ∷ []
tickets_with tickets (Err why) = tickets

-- the ports of clients, in order: so many in a row at each port, from port 1
abbrev pub client_ports : ℕ → ℕ → List ℕ
client_ports zero clients = []
client_ports (suc before) clients = client_ports before clients ++ replicate clients (suc before)

module _ {P : Type 0} (facts : PortFacts P) where
  -- a read was submitted at a client's desk, by the master's own submit, and memory was there
  pub record SubmitsRead (client next : ClientState) : Type 0 where
    pub answer : Result Ticket MasterFault
    pub counted : CountsSubmit facts.refuses client.desk answer next.desk
    pub entered : WasEntered facts client.desk Ordinary client_request answer next.desk
    pub recorded : next.tickets ≡ tickets_with client.tickets answer
    pub memory : answer ≢ Err (Port (Book NoMemory))

  -- so many were, one after another
  abbrev pub SubmitsReads : ℕ → ClientState → ClientState → Type 0
  SubmitsReads zero client next = next ≡ client
  SubmitsReads (suc before) client next =
      (mid : ClientState) × SubmitsReads before client mid × SubmitsRead mid next

  -- a client submitted so many, from its opening on
  abbrev pub HasSubmitted : ℕ → ClientState → Type 0
  HasSubmitted each client = SubmitsReads each (new_client client.desk.port) client

  -- these are the clients of a plan, each at its port, and each submitted what the plan says
  pub record ArePlansClients (plan : PlanNumbers) (clients : List ClientState) : Type 0 where
    pub ports : map (λ client. client.desk.port) clients ≡ client_ports plan.ports plan.clients
    pub submitted : All (HasSubmitted plan.each) clients

  -- so many turns were made of each port, each with its lock held
  abbrev pub HaveTurned : ℕ → ℕ → Type 0
  HaveTurned ports turns = (port : ℕ) → IsPortNumber ports port
      → (made : List (PortTurn facts)) × (length made ≡ turns)
