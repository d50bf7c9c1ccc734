-- What each round of a loop of `RetainedText::line` keeps.
use Rattle.std.proofs.Common.{◌≡◌}
use Rattle.iol_script.specs.Text.{numbered_lines, lines_left}
use Rattle.iol_why.specs.Explained.{line_numbered}
use Rattle.iol_why.proofs.retained.RetainedText.line.Given as goal

abbrev pub invariant-loop-number : goal.invariant-loop-number
invariant-loop-number l =
    line_numbered (numbered_lines l.self.octets.now) l.place
    ≡ line_numbered (lines_left l.number-iterator) l.place
