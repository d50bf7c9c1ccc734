-- The clauses of `numerals::are_pairs` that the search can't prove.
use Rattle.std.proofs.Common.{◌/◌, length, arith}
use Rattle.std.proofs.lemmas.Bool.Decides.{nat_tests}
use Rattle.iol_script.proofs.PairsLemmas.{left_over, pairs-fit}
use Rattle.iol_script.proofs.numerals.are_pairs.Goals as goal

pub returns-then-word-count : goal.returns-then-word-count
returns-then-word-count c =
    let w = c.args.word.now in grind (arith, left_over (length w / 2) w (omega arith))

pub returns-then-count-least : goal.returns-then-count-least
returns-then-count-least c =
    let w = c.args.word.now in
    grind (arith, nat_tests, pairs-fit c.args.least c.args.most (length w / 2) w (omega arith))

pub returns : goal.returns
returns c =
    let w = c.args.word.now in
    grind (arith, nat_tests, pairs-fit c.args.least c.args.most (length w / 2) w (omega arith))
