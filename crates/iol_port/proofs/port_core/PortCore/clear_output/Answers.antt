-- The clauses of `PortCore::clear_output` that the search can't prove.
use Rattle.std.proofs.Common.{refl, rules}
use Rattle.iol_port.proofs.CallLemmas.{clear_output_does}
use Rattle.iol_port.proofs.port_core.PortCore.clear_output.Goals as goal

pub returns : goal.returns
returns g c =
    rw (← c.self.view_is)
    (record {
      does = record {
        follows = clear_output_does _ c.clear_output.new.self
            c.self.invariant c.clear_output.ensures.core
            c.clear_output.ensures.steps;
        book = refl;
      };
      gives = search rules;
    })
