-- The clauses of `PortCore::submit` that the search can't prove.
use Rattle.std.proofs.Common.{rules}
use Rattle.iol_port.proofs.CallLemmas.{submit_does}
use Rattle.iol_port.proofs.port_core.PortCore.submit.Goals as goal

pub returns-clause-is : goal.returns-clause-is
returns-clause-is g c =
    rw (← c.self.view_is, c.by_book.ensures)
    (record {
      does = submit_does _ c.args.request c.submit.result c.submit.new.self
          c.submit.ensures.allowed c.submit.ensures.ticket c.submit.ensures.state
          c.submit.ensures.unchanged c.submit.ensures.refused;
      gives = search rules;
    })
