-- What each round of a loop of `CaptureReader::take` keeps.
use Rattle.std.proofs.Common.{◌≡◌, ℕ, List, ◌++◌, length}
use Rattle.iol_capture.specs.Capture.{judging_after_rest}
use Rattle.iol_capture.proofs.opened.CaptureReader.take.Given as goal

abbrev pub invariant-loop-line : goal.invariant-loop-line
invariant-loop-line l = (rest : List ℕ)
    → judging_after_rest l.fn.self (l.text ++ rest)
    ≡ judging_after_rest l.self (l.left ++ rest)

abbrev pub decreases-loop-line : goal.decreases-loop-line
decreases-loop-line l = length l.left
