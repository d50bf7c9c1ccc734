-- What each round of a loop of `as_plain::mode_of` keeps.
use Rattle.std.proofs.Common.{◌≡◌}
use Rattle.iol_script.specs.Text.{numbered_lines, lines_left}
use Rattle.iol_stored_script.specs.PlainText.{storage_mode_in}
use Rattle.iol_stored_script.proofs.as_plain.mode_of.Given as goal

abbrev pub invariant-loop-line : goal.invariant-loop-line
invariant-loop-line l = storage_mode_in (numbered_lines l.input)
    ≡ storage_mode_in (lines_left l.line-iterator)
