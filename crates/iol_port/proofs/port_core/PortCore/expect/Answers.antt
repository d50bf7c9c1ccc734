-- The clauses of `PortCore::expect` that the search can't prove.
use Rattle.std.proofs.Common.{rules}
use Rattle.iol_port.proofs.CorePorts.{expect_core}
use Rattle.iol_port.proofs.port_core.PortCore.expect.Goals as goal

pub returns : goal.returns
returns g c = rw (← c.self.view_is) (record {
  does = expect_core c.self.view_is c.counting-counting.ensures c.expect.ensures.core
      c.expect.ensures.steps;
  gives = search rules;
})
