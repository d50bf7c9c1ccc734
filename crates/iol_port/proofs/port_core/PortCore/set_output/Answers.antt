-- The clauses of `PortCore::set_output` that the search can't prove.
use Rattle.std.proofs.Common.{refl, rules}
use Rattle.iol_port.proofs.CallLemmas.{set_output_does}
use Rattle.iol_port.proofs.port_core.PortCore.set_output.Goals as goal

pub returns : goal.returns
returns g c =
    rw (← c.self.view_is, c.by_output.ensures)
    (record {
      does = record {
        follows = set_output_does _ c.args.image.now c.set_output.result
            c.set_output.new.self c.self.invariant
            c.set_output.ensures.refused
            c.set_output.ensures.err
            c.set_output.ensures.ok
            c.set_output.ensures.steps;
        book = refl;
      };
      gives = search rules;
    })
