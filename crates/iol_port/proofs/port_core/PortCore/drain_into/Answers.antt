-- The clauses of `PortCore::drain_into` that the search can't prove.
use Rattle.std.proofs.Common.{refl, rules}
use Rattle.iol_port.proofs.CallLemmas.{drain_does, ok_always}
use Rattle.iol_port.proofs.port_core.PortCore.drain_into.Goals as goal

pub returns-clause-is : goal.returns-clause-is
returns-clause-is g c =
    rw (← c.self.view_is, c.by_book.ensures)
    (record {
      does = drain_does (λ _. c.self.inside.book.state.journal) (λ count. count) _
          c.drain_into.result c.drain_into.new.self
          (ok_always _ c.drain_into.result (λ _. refl)) c.drain_into.ensures.head
          c.drain_into.ensures.err c.drain_into.ensures.state c.drain_into.ensures.unchanged
          c.drain_into.ensures.replayed;
      gives = search rules;
    })
