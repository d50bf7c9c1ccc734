-- The clauses of `PortCore::image` that the search can't prove.
use Rattle.std.proofs.Common.{refl, rules}
use Rattle.iol_port.proofs.CallLemmas.{look_does}
use Rattle.iol_port.proofs.port_core.PortCore.image.Goals as goal

pub returns : goal.returns
returns g c =
    rw (← c.self.view_is)
    (record {
      does = record {
        follows = look_does _ _ c.image.ensures;
        book = refl;
      };
      gives = search rules;
    })
