-- The clauses of `parts::first_word` that the search can't prove.
use Rattle.std.proofs.Common.{◌==◌, sym}
use Rattle.std.proofs.lemmas.List.{take_rest}
use Rattle.iol_script.proofs.Cutting.{word_at, last_word}
use Rattle.iol_script.proofs.parts.first_word.Goals as goal

pub returns-in-Some-clause-parts : goal.returns-in-Some-clause-parts
returns-in-Some-clause-parts c =
    rw take_rest (word_at (λ b. b == 32) c.args.line.now c.in-Some.place (sym c.in-Some.ensures))

pub returns-in-None-clause-parts : goal.returns-in-None-clause-parts
returns-in-None-clause-parts c =
    last_word (λ b. b == 32) c.args.line.now (sym c.in-None.ensures)
