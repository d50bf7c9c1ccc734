-- A text has no more lines than octets, so that `Plan.read` can count them.
-- For the clauses of `Plan::read`.
use Rattle.std.proofs.Common.{ℕ, ◌+◌, ◌≤◌, List, [], ◌∷◌, length, arith}
use Rattle.std.specs.List.{onto_first}
use Rattle.std.proofs.lemmas.Bool.Decides.{nat_tests}
use Rattle.std.proofs.lemmas.List.FromFn.{length-enumerate_from}
use Rattle.iol_script.specs.Text.{lines_of, numbered_lines}

length-lines : (text : List ℕ) → length (lines_of text) ≤ length text
length-lines [] = omega arith
length-lines (c ∷ text) =
    let onto : length (onto_first c (lines_of text)) ≤ length (lines_of text) + 1 = grind arith in
    let later = length-lines text in
    grind (arith, nat_tests)

pub few_lines : (text : List ℕ) → length (numbered_lines text) ≤ length text
few_lines text = omega (arith, length-enumerate_from 1 (lines_of text), length-lines text)
