-- What each round of a loop of `check_command::checked` keeps.
use Rattle.std.proofs.Common.{◌≡◌}
use Rattle.std.specs.String.{string_bytes}
use Rattle.iol_script.specs.Text.{numbered_lines, lines_left}
use Rattle.iol_script.specs.CheckLines.{first_bad}
use Rattle.iol_commands.proofs.CheckedLemmas.{IsFront}
use Rattle.iol_commands.proofs.check_command.checked.Given as goal

abbrev pub invariant-loop-number : goal.invariant-loop-number
invariant-loop-number g l = record {
  good : first_bad (numbered_lines l.input) ≡ first_bad (lines_left l.number-iterator);
  front : IsFront (numbered_lines l.input) l.layout (lines_left l.number-iterator)
      (string_bytes l.output);
}
