-- The clauses of `StoredTracer::follow_call` that the search can't prove.
use Rattle.std.proofs.lemmas.Result.{on_ok_weaker}
use Rattle.iol_commands.proofs.TraceLemmas.{flows_after}
use Rattle.iol_stored_commands.proofs.stored_tracing.StoredTracer.follow_call.Goals as goal

pub returns-clause-traced : goal.returns-clause-traced
returns-clause-traced g c =
    let (text, is, traced) = c.in_ok-make.ensures.traced in
    on_ok_weaker c.pass_on.result (λ flows. record {
      text = text;
      flows = flows_after _ _ _ _ _ text is flows;
      traced = traced;
    }) c.pass_on.ensures.written
