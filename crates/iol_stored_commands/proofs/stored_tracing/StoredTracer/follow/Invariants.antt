-- What each round of a loop of `StoredTracer::follow` keeps.
use Rattle.std.proofs.Common.{◌≡◌, ◌≤◌, ◌+◌, ◌++◌, List, length}
use Rattle.std.specs.String.{string_bytes}
use Rattle.iol_script.specs.Text.{numbered_lines, lines_left}
use Rattle.iol_stored_commands.specs.StoredPlayed.{StoredCall, stored_calls_in}
use Rattle.iol_stored_commands.specs.StoredTraced.{StoredTracesFrom, stored_place}
use Rattle.iol_stored_commands.proofs.stored_tracing.StoredTracer.follow.Given as goal

abbrev pub invariant-loop-line : goal.invariant-loop-line
invariant-loop-line g l =
    (done : List StoredCall) × (stored_calls_in (numbered_lines l.input) ≡ done
    ++ stored_calls_in (lines_left l.line-iterator))
    × (l.self.number ≤ l.fn.self.number + length done)
    × StoredTracesFrom g.W.Wire.facts
    (stored_place l.fn.self.number (string_bytes l.fn.self.output) (g.O.Write.contents l.fn.writer)
    l.fn.port) done
    (stored_place l.self.number (string_bytes l.self.output) (g.O.Write.contents l.writer) l.port)
