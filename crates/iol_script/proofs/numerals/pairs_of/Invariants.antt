-- What each round of a loop of `numerals::pairs_of` keeps.
use Rattle.std.proofs.Common.{◌≡◌, ◌≤◌, length}
use Rattle.iol_script.specs.Numerals.{octets_of_pairs}
use Rattle.iol_script.proofs.OctetsLemmas.{behind}
use Rattle.iol_script.proofs.numerals.pairs_of.Given as goal

abbrev pub invariant-loop-left : goal.invariant-loop-left
invariant-loop-left g l =
    (octets_of_pairs l.word ≡ behind l.octets.items (octets_of_pairs l.left))
    × (length l.octets.items ≤ g.row.N)

abbrev pub decreases-loop-left : goal.decreases-loop-left
decreases-loop-left g l = length l.left
