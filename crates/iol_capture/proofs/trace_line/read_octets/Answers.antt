-- The clauses of `trace_line::read_octets` that the search can't prove.
use Rattle.std.proofs.Common.{sym, ap, ◌∙◌}
use Rattle.std.specs.Prelude.{option_copied}
use Rattle.iol_script.specs.Numerals.{octets_of_words}
use Rattle.iol_capture.specs.TraceLines.{words_behind}
use Rattle.iol_capture.proofs.WordLemmas.{behind, behind_whole}
use Rattle.iol_capture.proofs.trace_line.read_octets.Goals as goal

pub returns : goal.returns
returns c =
    sym (behind_whole (words_behind (option_copied c.args.words)) c.loop-left.octets.items
    (c.loop-left.invariant.read
    ∙ ap (λ left. behind c.loop-left.octets.items (octets_of_words (words_behind
    (option_copied left)))) c.in_default.is) c.loop-left.invariant.short)
