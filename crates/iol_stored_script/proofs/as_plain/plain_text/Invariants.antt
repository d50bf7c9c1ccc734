-- What each round of a loop of `as_plain::plain_text` keeps.
use Rattle.std.proofs.Common.{◌≡◌, ◌++◌, ℕ, List, map}
use Rattle.iol_script.specs.Text.{numbered_lines, lines_left}
use Rattle.iol_stored_script.specs.PlainText.{plain_lines}
use Rattle.iol_stored_script.specs.declared.as_plain.StoreLine.TheVariants.{Awaited}
use Rattle.iol_stored_script.proofs.PlainLemmas.{AreLines}
use Rattle.iol_stored_script.proofs.as_plain.plain_text.Given as goal

abbrev pub invariant-loop-line : goal.invariant-loop-line
invariant-loop-line g l =
    (done : List (List ℕ)) × AreLines l.text.items done
    × (map (λ line. line.1) (plain_lines Awaited (numbered_lines l.input))
    ≡ done ++ map (λ line. line.1) (plain_lines l.store (lines_left l.line-iterator)))
