-- What each round of a loop of `StoredTracer::follow_turns` keeps.
use Rattle.std.proofs.Common.{◌≤◌, ◌+◌, map, replicate}
use Rattle.std.specs.String.{string_bytes}
use Rattle.iol_port.specs.declared.call.Call.TheVariants.{Turn}
use Rattle.iol_stored_commands.specs.StoredPlayed.{Plain}
use Rattle.iol_stored_commands.specs.StoredTraced.{StoredTracesFrom, stored_place}
use Rattle.iol_stored_commands.proofs.stored_tracing.StoredTracer.follow_turns.Given as goal

abbrev pub invariant-loop : goal.invariant-loop
invariant-loop g l = record {
  traced : StoredTracesFrom g.W.Wire.facts
      (stored_place l.fn.self.number (string_bytes l.fn.self.output)
      (g.O.Write.contents l.fn.writer) l.fn.port) (map Plain (replicate l.counter Turn))
      (stored_place l.self.number (string_bytes l.self.output) (g.O.Write.contents l.writer)
      l.port);
  number : l.self.number ≤ l.fn.self.number + l.counter;
}
