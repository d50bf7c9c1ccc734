-- What the search can't prove of the body of `StoredTracer::follow_turns`.
use Rattle.std.proofs.Common.{◌∷◌, [], arith}
use Rattle.iol_port.specs.declared.call.Call.TheVariants.{Turn}
use Rattle.iol_stored_commands.specs.StoredPlayed.{Plain}
use Rattle.iol_stored_commands.proofs.PlayedLemmas.{turns_more}
use Rattle.iol_stored_commands.proofs.TracedLemmas.{stored_traces_none, stored_traces_more}
use Rattle.iol_stored_commands.proofs.stored_tracing.StoredTracer.follow_turns.Goals as goal

pub loop-init : goal.loop-init
loop-init g c = record { traced = stored_traces_none g.W.Wire.facts _; number = omega arith }

pub loop-preserved : goal.loop-preserved
loop-preserved g c = record {
  traced = rw turns_more at (stored_traces_more g.W.Wire.facts _ _ _ _ (Plain Turn ∷ [])
      c.loop.invariant.traced c.in_ok-follow_call.ensures.traced);
  number = omega (arith, c.in_ok-follow_call.ensures.number);
}
