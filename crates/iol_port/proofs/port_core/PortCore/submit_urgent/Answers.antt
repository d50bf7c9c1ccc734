-- The clauses of `PortCore::submit_urgent` that the search can't prove.
use Rattle.std.proofs.Common.{rules}
use Rattle.iol_port.proofs.CallLemmas.{submit_urgent_does}
use Rattle.iol_port.proofs.port_core.PortCore.submit_urgent.Goals as goal

pub returns-clause-is : goal.returns-clause-is
returns-clause-is g c =
    rw (← c.self.view_is, c.by_book.ensures)
    (record {
      does = submit_urgent_does _ c.args.request c.submit_urgent.result
          c.submit_urgent.new.self c.submit_urgent.ensures.allowed c.submit_urgent.ensures.ticket
          c.submit_urgent.ensures.state c.submit_urgent.ensures.unchanged
          c.submit_urgent.ensures.refused;
      gives = search rules;
    })
