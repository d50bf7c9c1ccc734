-- The clauses of `PortCore::withdraw` that the search can't prove.
use Rattle.std.proofs.Common.{rules}
use Rattle.iol_port.proofs.CallLemmas.{withdraw_does}
use Rattle.iol_port.proofs.port_core.PortCore.withdraw.Goals as goal

pub returns : goal.returns
returns g c =
    rw (← c.self.view_is, c.by_book.ensures)
    (record {
      does = record {
        follows = withdraw_does _ c.args.ticket c.withdraw.result
            c.withdraw.new.self c.withdraw.ensures.answer c.withdraw.ensures.state;
        book = c.withdraw.ensures.state;
      };
      gives = search rules;
    })
