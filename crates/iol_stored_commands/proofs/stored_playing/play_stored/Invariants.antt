-- What each round of a loop of `stored_playing::play_stored` keeps.
use Rattle.std.proofs.Common.{◌≡◌, ◌++◌, ℕ, List}
use Rattle.std.specs.String.{string_bytes}
use Rattle.iol_script.specs.Text.{numbered_lines, lines_left}
use Rattle.iol_stored_commands.specs.StoredPlayed.{StoredCall, StoredPlays, stored_calls_in}
use Rattle.iol_stored_commands.proofs.stored_playing.play_stored.Given as goal

abbrev pub invariant-loop-line : goal.invariant-loop-line
invariant-loop-line g l =
    (done : List StoredCall) × (text : List ℕ)
    × (stored_calls_in (numbered_lines l.input) ≡ done
    ++ stored_calls_in (lines_left l.line-iterator))
    × (string_bytes l.output ≡ string_bytes l.fn.output ++ text)
    × StoredPlays g.W.Wire.facts l.fn.port done l.port text
