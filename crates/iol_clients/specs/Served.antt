-- What becomes of the clients of a plan.
use Rattle.std.specs.Prelude.{List}
use Rattle.iol_link.specs.WireFacts.{WireFacts}
use Rattle.iol_script.specs.Plan.{PlanNumbers}
use Rattle.iol_master.specs.Ports.{port_facts}
use Rattle.iol_clients.specs.declared.counts.MasterCounts.{MasterCounts}
use Rattle.iol_clients.specs.Counts.{ClientState, AreCounted, AreSettled}
use Rattle.iol_clients.specs.Submitted.{ArePlansClients, HaveTurned}

-- The clients of a plan were served, at ports over wires of which these facts hold
pub record ClientsAreServed {W : Type 0} (facts : WireFacts W) (plan : PlanNumbers)
    (counts : MasterCounts) : Type 0 where
  pub clients : List ClientState
  pub all : ArePlansClients (port_facts facts) plan clients
  -- the workers made the plan's turns
  pub turned : HaveTurned (port_facts facts) plan.ports plan.turns
  -- each port's tickets were counted, and all desks settled
  pub counted : AreCounted W 1 clients counts.ports.items
  pub settled : AreSettled clients counts.total
