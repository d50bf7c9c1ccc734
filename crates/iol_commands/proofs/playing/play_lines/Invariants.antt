-- What each round of a loop of `playing::play_lines` keeps.
use Rattle.std.proofs.Common.{◌≡◌, ◌++◌, ℕ, List}
use Rattle.std.specs.String.{string_bytes}
use Rattle.iol_port.specs.View.{over}
use Rattle.iol_port.specs.declared.call.Call.{Call}
use Rattle.iol_script.specs.Script.{calls_in}
use Rattle.iol_script.specs.Text.{numbered_lines, lines_left}
use Rattle.iol_commands.specs.RunPlayed.{PortPlays}
use Rattle.iol_commands.proofs.playing.play_lines.Given as goal

abbrev pub invariant-loop-line : goal.invariant-loop-line
invariant-loop-line g l =
    (done : List Call) × (text : List ℕ)
    × (calls_in (numbered_lines l.input) ≡ done ++ calls_in (lines_left l.line-iterator))
    × (string_bytes l.output ≡ string_bytes l.fn.output ++ text)
    × PortPlays g.W.Wire.facts (over l.fn.port) done (over l.port) text
