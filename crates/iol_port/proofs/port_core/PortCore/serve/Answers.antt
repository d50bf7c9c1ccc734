-- The clauses of `PortCore::serve` that the search can't prove.
use Rattle.std.proofs.Common.{rules}
use Rattle.iol_port.proofs.CallLemmas.{serve_does}
use Rattle.iol_port.proofs.port_core.PortCore.serve.Goals as goal

pub returns : goal.returns
returns g c =
    rw (← c.self.view_is)
    (record {
      does = record {
        follows = serve_does _ c.args.which c.serve.new.self c.serve.ensures.state;
        book = c.serve.ensures.state;
      };
      gives = search rules;
    })
