-- What the search can't prove of the body of `Tracer::follow_turns`.
use Rattle.std.proofs.Common.{arith}
use Rattle.std.proofs.lemmas.List.{replicate_more}
use Rattle.iol_commands.proofs.TraceLemmas.{traces_none, traces_more}
use Rattle.iol_commands.proofs.tracing.Tracer.follow_turns.Goals as goal

pub loop-init : goal.loop-init
loop-init g c = record { traced = traces_none g.W.Wire.facts _; number = omega arith }

pub loop-preserved : goal.loop-preserved
loop-preserved g c = record {
  traced = rw replicate_more at (traces_more g.W.Wire.facts c.runs_join.ensures.runs _ _ _ _ _
      c.loop.invariant.traced c.in_ok-follow_call.ensures.traced);
  number = omega (arith, c.in_ok-follow_call.ensures.number);
}
