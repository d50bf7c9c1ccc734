-- What each round of a loop of `Tracer::follow` keeps.
use Rattle.std.proofs.Common.{◌≡◌, ◌≤◌, ◌+◌, ◌++◌, List, length}
use Rattle.std.specs.String.{string_bytes}
use Rattle.iol_port.specs.View.{over}
use Rattle.iol_port.specs.declared.call.Call.{Call}
use Rattle.iol_script.specs.Script.{calls_in}
use Rattle.iol_script.specs.Text.{numbered_lines, lines_left}
use Rattle.iol_commands.specs.TracePrinted.{TracesFrom, place}
use Rattle.iol_commands.proofs.tracing.Tracer.follow.Given as goal

abbrev pub invariant-loop-line : goal.invariant-loop-line
invariant-loop-line g l =
    (done : List Call) × (calls_in (numbered_lines l.input) ≡ done
    ++ calls_in (lines_left l.line-iterator)) × (l.self.number ≤ l.fn.self.number + length done)
    × TracesFrom g.W.Wire.facts
    (place l.fn.self.number (string_bytes l.fn.self.output) (g.O.Write.contents l.fn.writer)
    (over l.fn.port)) done
    (place l.self.number (string_bytes l.self.output) (g.O.Write.contents l.writer) (over l.port))
