-- What each round of a loop of `numerals::parted_octets` keeps.
use Rattle.std.proofs.Common.{◌≡◌, ◌≤◌, length}
use Rattle.iol_script.specs.Numerals.{octets_of_words}
use Rattle.iol_script.specs.Text.{words_left}
use Rattle.iol_script.proofs.OctetsLemmas.{behind}
use Rattle.iol_script.proofs.numerals.parted_octets.Given as goal

abbrev pub invariant-loop-word : goal.invariant-loop-word
invariant-loop-word g l =
    (octets_of_words (words_left l.fn.words)
    ≡ behind l.octets.items (octets_of_words (words_left l.word-iterator)))
    × (length l.octets.items ≤ g.row.N)
