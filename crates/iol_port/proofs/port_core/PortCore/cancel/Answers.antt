-- The clauses of `PortCore::cancel` that the search can't prove.
use Rattle.std.proofs.Common.{refl, sym, ap, ◌∙◌, rules}
use Rattle.std.specs.Result.{result_err}
use Rattle.iol_port.proofs.CallLemmas.{cancel_does, cancel_refused}
use Rattle.iol_port.proofs.port_core.PortCore.cancel.Goals as goal

pub returns-in-Ok : goal.returns-in-Ok
returns-in-Ok g c =
    rw (← c.self.view_is)
    (record {
      does = record {
        follows = cancel_does _ c.args.ticket c.abort.new.self
            (sym c.in_flight.ensures.answer ∙ ap (λ r. result_err r) c.in-Ok.is)
            c.abort.ensures.core c.abort.ensures.cancel;
        book = refl;
      };
      gives = search rules;
    })

pub returns-in-Err : goal.returns-in-Err
returns-in-Err g c =
    rw (← c.self.view_is)
    (record {
      does = record {
        follows = cancel_refused _
            c.args.ticket c.in-Err.fault (sym c.in_flight.ensures.answer
            ∙ ap (λ r. result_err r) c.in-Err.is);
        book = refl;
      };
      gives = search rules;
    })
