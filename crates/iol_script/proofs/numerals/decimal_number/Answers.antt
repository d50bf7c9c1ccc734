-- The clauses of `numerals::decimal_number` that the search can't prove.
use Rattle.std.proofs.Common.{rules, ◌<◌, ◌^◌}
use Rattle.iol_script.proofs.Decimals.{number_within}
use Rattle.iol_script.proofs.numerals.decimal_number.Goals as goal

pub returns-clause-value : goal.returns-clause-value
returns-clause-value c =
    let n = c.in_ok-number.number in
    let fits : n < 2 ^ 64 = search rules in
    number_within c.args.least c.args.most c.args.word.now n ((c.plain_number.ensures n fits).0
    c.in_ok-number.was) fits (search rules) (search rules)
