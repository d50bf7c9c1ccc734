-- The clauses of `PortCore::drain` that the search can't prove.
use Rattle.std.proofs.Common.{refl, rules}
use Rattle.iol_port.proofs.CallLemmas.{drain_does, ok_always}
use Rattle.iol_port.proofs.port_core.PortCore.drain.Goals as goal

pub returns-clause-is : goal.returns-clause-is
returns-clause-is g c =
    rw (← c.self.view_is, c.by_book.ensures)
    (record {
      does = drain_does (λ entries. entries.items) (λ _. c.self.inside.book.state.restated) _
          c.drain.result c.drain.new.self c.drain.ensures.entries
          (ok_always _ c.drain.result (λ _. refl)) c.drain.ensures.err c.drain.ensures.state
          c.drain.ensures.unchanged c.drain.ensures.replayed;
      gives = search rules;
    })
