-- The clauses of `PortCore::archive` that the search can't prove.
use Rattle.std.proofs.Common.{rules}
use Rattle.iol_port.proofs.CallLemmas.{archive_does}
use Rattle.iol_port.proofs.port_core.PortCore.archive.Goals as goal

pub returns-clause-is : goal.returns-clause-is
returns-clause-is g c =
    rw (← c.self.view_is, c.by_book.ensures)
    (record {
      does = record {
        follows = archive_does (λ entries. entries.items) _
            c.archive.result c.archive.new.self c.archive.ensures.allowed c.archive.ensures.journal
            c.archive.ensures.err c.archive.ensures.state;
        book = c.archive.ensures.state;
      };
      gives = search rules;
    })
