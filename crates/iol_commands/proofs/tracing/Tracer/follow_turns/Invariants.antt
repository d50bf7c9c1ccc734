-- What each round of a loop of `Tracer::follow_turns` keeps.
use Rattle.std.proofs.Common.{◌≤◌, ◌+◌, replicate}
use Rattle.std.specs.String.{string_bytes}
use Rattle.iol_port.specs.View.{over}
use Rattle.iol_port.specs.declared.call.Call.TheVariants.{Turn}
use Rattle.iol_commands.specs.TracePrinted.{TracesFrom, place}
use Rattle.iol_commands.proofs.tracing.Tracer.follow_turns.Given as goal

abbrev pub invariant-loop : goal.invariant-loop
invariant-loop g l = record {
  traced : TracesFrom g.W.Wire.facts
      (place l.fn.self.number (string_bytes l.fn.self.output) (g.O.Write.contents l.fn.writer)
      (over l.fn.port)) (replicate l.counter Turn)
      (place l.self.number (string_bytes l.self.output) (g.O.Write.contents l.writer)
      (over l.port));
  number : l.self.number ≤ l.fn.self.number + l.counter;
}
