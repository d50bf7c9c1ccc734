-- The clauses of `PortCore::collect` that the search can't prove.
use Rattle.std.proofs.Common.{rules}
use Rattle.iol_port.proofs.CallLemmas.{collect_does}
use Rattle.iol_port.proofs.port_core.PortCore.collect.Goals as goal

pub returns : goal.returns
returns g c =
    rw (← c.self.view_is, c.by_book.ensures)
    (record {
      does = record {
        follows = collect_does _ c.args.ticket c.collect.result
            c.collect.new.self c.collect.ensures.answer c.collect.ensures.state;
        book = c.collect.ensures.state;
      };
      gives = search rules;
    })
