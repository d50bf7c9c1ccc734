-- The clauses of `trace_line::first_word` that the search can't prove.
use Rattle.std.proofs.Common.{sym}
use Rattle.std.proofs.lemmas.List.{take_rest}
use Rattle.iol_capture.proofs.WordLemmas.{word_at_colon, word_at_space, word_alone}
use Rattle.iol_capture.proofs.trace_line.first_word.Goals as goal

pub returns-in-Some : goal.returns-in-Some
returns-in-Some c =
    rw take_rest (word_at_space c.args.text.now c.in-Some.place (sym c.in-Some.ensures)
    c.if-text-place-eq32.true)

pub returns-in-Some-2 : goal.returns-in-Some-2
returns-in-Some-2 c =
    word_at_colon c.args.text.now c.in-Some.place (sym c.in-Some.ensures)
    c.if-text-place-eq32.false

pub returns-in-None : goal.returns-in-None
returns-in-None c = word_alone c.args.text.now (sym c.in-None.ensures)
