-- What each round of a loop of `Script::read` keeps.
use Rattle.std.proofs.Common.{◌≡◌, Ok, fold}
use Rattle.iol_script.specs.Script.{draft_after, draft_of}
use Rattle.iol_script.specs.Text.{numbered_lines, lines_left}
use Rattle.iol_script.proofs.script.Script.read.Given as goal

abbrev pub invariant-loop-number : goal.invariant-loop-number
invariant-loop-number g l =
    draft_of (numbered_lines l.input) ≡ fold draft_after (Ok l.draft) (lines_left l.number-iterator)
