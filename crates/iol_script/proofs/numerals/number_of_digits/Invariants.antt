-- What each round of a loop of `numerals::number_of_digits` keeps.
use Rattle.std.proofs.Common.{◌≡◌, ◌<◌, ◌^◌, take}
use Rattle.std.specs.Str.Parse.{AllDigits, digits_value}
use Rattle.iol_script.proofs.numerals.number_of_digits.Given as goal

abbrev pub invariant-loop-digit : goal.invariant-loop-digit
invariant-loop-digit l = record {
  digits : AllDigits 10 (take l.digit-index l.word);
  value : l.number ≡ digits_value 10 (take l.digit-index l.word);
  small : l.number < 2 ^ 64;
}
