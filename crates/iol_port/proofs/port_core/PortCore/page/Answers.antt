-- The clauses of `PortCore::page` that the search can't prove.
use Rattle.std.proofs.Common.{refl, ◌∙◌, rules}
use Rattle.iol_port.proofs.CallLemmas.{page_does}
use Rattle.iol_port.proofs.port_core.PortCore.page.Goals as goal

pub returns : goal.returns
returns g c =
    rw (← c.self.view_is)
    (record {
      does = record {
        follows = page_does _ _ (c.copied.ensures ∙ c.page.ensures);
        book = refl;
      };
      gives = search rules;
    })
