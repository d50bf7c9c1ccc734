-- The clauses of `PortCore::collect_into` that the search can't prove.
use Rattle.std.proofs.Common.{rules}
use Rattle.iol_book.specs.BookModel.{in_place}
use Rattle.iol_port.proofs.CallLemmas.{collect_does, by_book_put}
use Rattle.iol_port.proofs.port_core.PortCore.collect_into.Goals as goal

pub returns-clause-is : goal.returns-clause-is
returns-clause-is g c =
    rw (
      ← c.self.view_is,
      c.by_book.ensures,
      by_book_put c.collect_into.result
          c.collect_into.new.into,
    )
    (record {
      does = record {
        follows = collect_does _ c.args.ticket
            (in_place c.collect_into.new.into c.collect_into.result)
            c.collect_into.new.self c.collect_into.ensures.answer c.collect_into.ensures.state;
        book = c.collect_into.ensures.state;
      };
      gives = search rules;
    })
