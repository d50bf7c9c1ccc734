-- The clauses of `PortCore::last_loss` that the search can't prove.
use Rattle.std.proofs.Common.{refl, rules}
use Rattle.iol_port.proofs.CallLemmas.{last_loss_does}
use Rattle.iol_port.proofs.port_core.PortCore.last_loss.Goals as goal

pub returns : goal.returns
returns g c =
    rw (← c.self.view_is)
    (record {
      does = record {
        follows = last_loss_does _;
        book = refl;
      };
      gives = search rules;
    })
