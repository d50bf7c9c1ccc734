-- The clauses of `PortCore::set_cycle` that the search can't prove.
use Rattle.std.proofs.Common.{rules}
use Rattle.iol_port.proofs.CorePorts.{set_cycle_core}
use Rattle.iol_port.proofs.port_core.PortCore.set_cycle.Goals as goal

pub returns : goal.returns
returns g c = rw (← c.self.view_is) (record {
  does = set_cycle_core c.self.view_is c.counting-counting.ensures c.set_cycle.ensures.core
      c.set_cycle.ensures.steps;
  gives = search rules;
})
