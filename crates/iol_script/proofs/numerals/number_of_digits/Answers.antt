-- What the search can't prove of the body of `numerals::number_of_digits`.
use Rattle.std.proofs.Common.{rules, arith, sym, ap, ◌+◌, ◌*◌, ◌∙◌, add-one, get_or}
use Rattle.std.specs.Char.{digit_value}
use Rattle.std.proofs.lemmas.Int.Digits.{digits_value_more}
use Rattle.iol_script.proofs.Decimals.{more_digits, no_number, whole_number}
use Rattle.iol_script.proofs.numerals.number_of_digits.Goals as goal

pub returns-in_err-number : goal.returns-in_err-number
returns-in_err-number c =
    no_number c.from_residual.result c.loop-digit.digit-index c.loop-digit.number c.args.word.now
    (search rules) c.loop-digit-test.true c.loop-digit.invariant.value c.in_err-number.ensures

pub loop-digit-preserved : goal.loop-digit-preserved
loop-digit-preserved c =
    let word = c.args.word.now in
    let i = c.loop-digit.digit-index in
    let digit = get_or word i 0 in
    let read = c.in_ok-number.ensures in
    record {
      digits = rw add-one (more_digits i word c.loop-digit-test.true
          c.loop-digit.invariant.digits read.0.0);
      value = read.1
          ∙ ap (λ n. n * 10 + digit_value digit) c.loop-digit.invariant.value
          ∙ sym (digits_value_more 10 word i c.loop-digit-test.true);
      small = omega (arith, read.0.1, read.1);
    }

pub returns : goal.returns
returns c =
    whole_number c.loop-digit.digit-index c.loop-digit.number c.args.word.now
    c.loop-digit-test.false
    c.loop-digit.invariant.digits c.loop-digit.invariant.value c.loop-digit.invariant.small
