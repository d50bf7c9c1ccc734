-- What each round of a loop of `ending::any_asks_for_counters` keeps.
use Rattle.std.proofs.Common.{◌≡◌}
use Rattle.std.specs.List.{list_any}
use Rattle.iol_script.specs.Script.{calls_in}
use Rattle.iol_script.specs.Text.{numbered_lines, lines_left}
use Rattle.iol_commands.specs.RunPrinted.{is_counters}
use Rattle.iol_commands.proofs.ending.any_asks_for_counters.Given as goal

abbrev pub invariant-loop-line : goal.invariant-loop-line
invariant-loop-line l = list_any is_counters (calls_in (numbered_lines l.input))
    ≡ list_any is_counters (calls_in (lines_left l.line-iterator))
