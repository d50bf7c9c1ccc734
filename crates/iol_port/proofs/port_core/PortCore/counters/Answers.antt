-- The clauses of `PortCore::counters` that the search can't prove.
use Rattle.std.proofs.Common.{refl, rules}
use Rattle.iol_port.proofs.CallLemmas.{counters_does}
use Rattle.iol_port.proofs.port_core.PortCore.counters.Goals as goal

pub returns : goal.returns
returns g c =
    rw (← c.self.view_is)
    (record {
      does = record {
        follows = counters_does _;
        book = refl;
      };
      gives = search rules;
    })
