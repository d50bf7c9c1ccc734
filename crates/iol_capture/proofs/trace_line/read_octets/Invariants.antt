-- What each round of a loop of `trace_line::read_octets` keeps.
use Rattle.std.proofs.Common.{◌≡◌, ◌+◌, ◌≤◌, length}
use Rattle.std.specs.Prelude.{option_copied}
use Rattle.std.specs.Option.{option_map_or}
use Rattle.iol_script.specs.Numerals.{octets_of_words}
use Rattle.iol_capture.specs.TraceLines.{words_behind}
use Rattle.iol_capture.proofs.WordLemmas.{behind}
use Rattle.iol_capture.proofs.trace_line.read_octets.Given as goal

abbrev pub invariant-loop-left : goal.invariant-loop-left
invariant-loop-left l = record {
  read : octets_of_words (words_behind (option_copied l.words))
      ≡ behind l.octets.items (octets_of_words (words_behind (option_copied l.left)));
  short : length l.octets.items ≤ 128;
}

abbrev pub decreases-loop-left : goal.decreases-loop-left
decreases-loop-left l = option_map_or (λ text. length text.now + 1) l.left 0
