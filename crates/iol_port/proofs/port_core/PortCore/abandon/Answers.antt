-- The clauses of `PortCore::abandon` that the search can't prove.
use Rattle.std.proofs.Common.{rules}
use Rattle.iol_port.proofs.CallLemmas.{abandon_does}
use Rattle.iol_port.proofs.port_core.PortCore.abandon.Goals as goal

pub returns : goal.returns
returns g c =
    rw (← c.self.view_is, c.by_book.ensures)
    (record {
      does = record {
        follows = abandon_does _ c.args.ticket c.abandon.result
            c.abandon.new.self c.abandon.ensures.answer c.abandon.ensures.state;
        book = c.abandon.ensures.state;
      };
      gives = search rules;
    })
