-- The clauses of `StoredTracer::follow_storage` that the search can't prove.
use Rattle.std.proofs.Common.{[], refl, sym, append-nil}
use Rattle.std.proofs.lemmas.Result.{on_ok_weaker}
use Rattle.iol_commands.proofs.TraceLemmas.{flows_after}
use Rattle.iol_stored_commands.specs.StoredPrinted.{storage_text}
use Rattle.iol_stored_commands.proofs.TracedLemmas.{storage_traced}
use Rattle.iol_stored_commands.proofs.stored_tracing.StoredTracer.follow_storage.Goals as goal

pub returns-clause-traced : goal.returns-clause-traced
returns-clause-traced g c =
    on_ok_weaker c.pass_on.result (λ flows. record {
      text = storage_text c.store-answer.result;
      flows = flows_after _ _ _ _ _ (storage_text c.store-answer.result)
          c.in_ok-print_storage_answer.ensures flows;
      traced = storage_traced g.W.Wire.facts _ _ _ _ _ c.store-answer.ensures;
    }) c.pass_on.ensures.written
