-- The clauses of `PortCore::status` that the search can't prove.
use Rattle.std.proofs.Common.{refl, rules}
use Rattle.iol_port.proofs.CallLemmas.{status_does}
use Rattle.iol_port.proofs.port_core.PortCore.status.Goals as goal

pub returns : goal.returns
returns g c =
    rw (← c.self.view_is)
    (record {
      does = record {
        follows = status_does _ c.status.result c.status.ensures.mode
            c.status.ensures.why c.status.ensures.event_form;
        book = refl;
      };
      gives = search rules;
    })
