-- One submit of a client by what its master answered, and then all.
-- For the clauses of `Client::submit_one` and `Client::submit`.
use Rattle.std.proofs.Common.{◌≡◌, ◌≢◌, ◌⊎◌, inl, inr, ℕ, List, sym, subst, arith}
use Rattle.std.specs.Prelude.{Result, Ok, Err}
use Rattle.iol_isdu.specs.declared.values.Request.{Request}
use Rattle.iol_book.specs.declared.entries.Ticket.{Ticket}
use Rattle.iol_book.specs.declared.fault.BookFault.TheVariants.{OutOfMemory as NoMemory}
use Rattle.iol_port.specs.declared.fault.PortFault.TheVariants.{Book}
use Rattle.iol_link.specs.WireFacts.{WireFacts}
use Rattle.iol_master.specs.declared.fault.MasterFault.{MasterFault}
use Rattle.iol_master.specs.declared.fault.MasterFault.TheVariants.{Port, NoSuchPort}
use Rattle.iol_master.specs.declared.ports.DeskUrgency.TheVariants.{Ordinary}
use Rattle.iol_master.specs.Counts.{DeskState}
use Rattle.iol_master.specs.Entered.{WasEntered}
use Rattle.iol_master.specs.Master.{IsPortNumber, CountsSubmit, DeskCountsSubmit}
use Rattle.iol_master.specs.Ports.{PortFacts, WireRefuses, port_facts}
use Rattle.iol_clients.specs.Counts.{ClientState, client_state}
use Rattle.iol_clients.specs.Submitted.{SubmitsRead, SubmitsReads, HasSubmitted, client_request, new_client, tickets_with}

module _ {W : Type 0} (facts : WireFacts W) (ports : ℕ) (d d' : DeskState) where
  -- at a port that is there a submit counts as it does
  counts_there : (answer : Result Ticket MasterFault) → IsPortNumber ports d.port
      → DeskCountsSubmit WireRefuses ports d answer d' → CountsSubmit WireRefuses d answer d'
  counts_there (Ok ticket) there counts = counts.1
  counts_there (Err why) there (inl none) = absurd (none.0 there)
  counts_there (Err why) there (inr counts) = counts.1

  -- and so no port refuses it by its number
  named : (answer : Result Ticket MasterFault) → CountsSubmit WireRefuses d answer d'
      → answer ≡ Err NoSuchPort → ⊥
  named (Ok ticket) counts is = grind (arith, is)
  named (Err why) counts is = grind (arith, is, counts)

  entered_there : {E : Type 0} (answer : Result Ticket MasterFault)
      → CountsSubmit WireRefuses d answer d' → (answer ≡ Err NoSuchPort) ⊎ E → E
  entered_there answer counts (inl none) = absurd (named answer counts none)
  entered_there answer counts (inr entered) = entered

  pub submits_read : (answer : Result Ticket MasterFault) (request : Request)
      → IsPortNumber ports d.port → DeskCountsSubmit WireRefuses ports d answer d'
      → (answer ≡ Err NoSuchPort)
      ⊎ WasEntered (port_facts facts) d Ordinary request answer d'
      → request ≡ client_request → (tickets tickets' : List Ticket)
      → tickets' ≡ tickets_with tickets answer → answer ≢ Err (Port (Book NoMemory))
      → SubmitsRead (port_facts facts) (client_state d tickets) (client_state d' tickets')
  submits_read answer request there counts entered is tickets tickets' recorded memory =
      let counted = counts_there answer there counts in
      record {
        answer = answer;
        counted = counted;
        entered = rw is at (entered_there answer counted entered);
        recorded = recorded;
        memory = memory;
      }

-- what was answered isn't want of memory: a ticket, or another fault
pub issued : (ticket : Ticket) (fault : MasterFault) → Ok ticket ≢ Err fault
issued ticket fault e = grind (arith, e)

abbrev refused : MasterFault → Result Ticket MasterFault
refused why = Err why

pub other : (why fault : MasterFault) → why ≢ fault → refused why ≢ refused fault
other why fault differs e = differs (grind (arith, e))

-- all reads of a client are submitted
pub has_submitted : {P : Type 0} (facts : PortFacts P) (each done port : ℕ) (client : ClientState)
    → client.desk.port ≡ port → done ≡ each → SubmitsReads facts done (new_client port) client
    → HasSubmitted facts each client
has_submitted facts each done port client is all submitted =
    subst (λ n. SubmitsReads facts n (new_client client.desk.port) client) all
    (subst (λ p. SubmitsReads facts done (new_client p) client) (sym is) submitted)
