-- The clauses of `numerals::plain_number` that the search can't prove.
use Rattle.std.proofs.Common.{rules, refl}
use Rattle.iol_script.proofs.Decimals.{not_plain, number_is}
use Rattle.iol_script.proofs.numerals.plain_number.Goals as goal

pub returns-then-not-is_plain : goal.returns-then-not-is_plain
returns-then-not-is_plain c = not_plain c.args.word.now _ refl (search rules)

pub returns : goal.returns
returns c = number_is c.args.word.now c.number_of_digits.result c.number_of_digits.ensures
    (search rules)
