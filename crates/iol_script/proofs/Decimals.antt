-- A plain word is a number where it is the text of that number. `number_of_digits`, `plain_number`
-- and `decimal_number` need these, from the first to the last.
-- For the clauses of `numerals::decimal_number`, `numerals::number_of_digits` and
--     `numerals::plain_number`.
use Rattle.std.proofs.Common.{◌≡◌, ℕ, zero, suc, ◌+◌, ◌*◌, ◌<◌, ◌≤◌, ◌^◌, true, false, Option, Some, None, List, [], ◌∷◌, length, get_or, take, sym, ap, ◌∙◌, arith, subst}
use Rattle.std.specs.Char.{digit_value}
use Rattle.std.specs.Option.{SomeIff}
use Rattle.std.specs.Fmt.{decimal}
use Rattle.std.specs.Str.Parse.{AllDigits, digits_value}
use Rattle.std.proofs.lemmas.Bool.Decides.{nat_tests}
use Rattle.std.proofs.lemmas.Fmt.{decimal-digits_value, digits_value-decimal, digits_decimal, decimal_nonempty, first_decimal, decimal_digit}
use Rattle.std.proofs.lemmas.Grind.{common_steps}
use Rattle.std.proofs.lemmas.Int.Digits.{digits_value_more}
use Rattle.std.proofs.lemmas.Slice.Eq.{bytes_eq-Decides}
use Rattle.std.proofs.lemmas.Str.{digit_value_digit}
use Rattle.std.proofs.lemmas.Str.Parse.{IsNumeralModel, numerals_by_value, tells_digits, digits_value-take-le, digit_at}
use Rattle.iol_script.specs.Numerals.{is_plain_of, number_in}

own : IsNumeralModel (AllDigits 10) (digits_value 10)
own = numerals_by_value (AllDigits 10) tells_digits

-- Digits, one after the other

pub more_digits : (i : ℕ) (word : List ℕ) → i < length word → AllDigits 10 (take i word)
    → digit_value (get_or word i 0) < 10 → AllDigits 10 (take (suc i) word)
more_digits i [] short digits digit = absurd (omega arith)
more_digits zero (c ∷ word) short digits digit = (digit, tt)
more_digits (suc i) (c ∷ word) short digits digit =
    (digits.0, more_digits i word (omega arith) digits.1 digit)

-- where the digits so far and the next one write no number below 2 ^ 64, all of them write none
pub no_number : (o : Option ℕ) (i number : ℕ) (word : List ℕ) → o ≡ None → i < length word
    → number ≡ digits_value 10 (take i word)
    → ¬ ((digit_value (get_or word i 0) < 10)
    × (number * 10 + digit_value (get_or word i 0) < 2 ^ 64))
    → SomeIff o (AllDigits 10 word × (digits_value 10 word < 2 ^ 64)) (digits_value 10 word)
no_number (Some x) i number word is short value none = cc
no_number None i number word is short value none = λ all.
    let more = digits_value_more 10 word i short in
    let less = digits_value-take-le 10 word (i + 1) (omega arith) in
    let digit = digit_at word i all.0 short in
    let its_value = digit_value_digit (get_or word i 0) digit in
    none (omega (arith, digit.1, its_value), omega (arith, more, less, all.1))

-- there is no digit behind those that were read
pub whole_number : (i number : ℕ) (word : List ℕ) → length word ≤ i → AllDigits 10 (take i word)
    → number ≡ digits_value 10 (take i word) → number < 2 ^ 64
    → (AllDigits 10 word × (digits_value 10 word < 2 ^ 64)) × (number ≡ digits_value 10 word)
whole_number i number word long digits value small =
    let all : take i word ≡ word = grind (arith, common_steps) in
    subst (λ w. (AllDigits 10 w × (digits_value 10 w < 2 ^ 64)) × (number ≡ digits_value 10 w)) all
    ((digits, omega arith), value)

-- A word and its number

plain_is : (ds : List ℕ) → is_plain_of ds ≡ true
    → (0 < length ds) × (get_or ds 0 0 ≡ 48 → length ds ≡ 1)
plain_is ds e = (grind (arith, nat_tests), λ first. grind (arith, nat_tests))

pub number_is : (word : List ℕ) (o : Option ℕ)
    → SomeIff o (AllDigits 10 word × (digits_value 10 word < 2 ^ 64)) (digits_value 10 word)
    → is_plain_of word ≡ true → (n : ℕ) → n < 2 ^ 64
    → (o ≡ Some n → word ≡ decimal n) × (word ≡ decimal n → o ≡ Some n)
number_is word (Some x) h plain n small =
    let p = plain_is word plain in
    let digits = decimal-digits_value own word h.0.0 p.0 p.1 h.0.1 in (
      λ e. let same : x ≡ n = cc in sym digits ∙ ap decimal (sym h.1 ∙ same),
      λ e. ap Some (h.1 ∙ ap (digits_value 10) e ∙ digits_value-decimal own n small),
    )
number_is word None h plain n small = (
  λ e. let bad : None ≡ Some n = e in cc,
  λ e. let value : digits_value 10 word ≡ n = ap (digits_value 10) e
      ∙ digits_value-decimal own n small in
      absurd (h (subst (AllDigits 10) (sym e) (digits_decimal own n small), omega arith)),
)

plain : (ds : List ℕ) → 0 < length ds → 48 ≤ get_or ds 0 0 → (get_or ds 0 0 ≡ 48 → length ds ≡ 1)
    → is_plain_of ds ≡ true
plain ds some digit alone = grind (arith, nat_tests)

no_zero_first : (n : ℕ) → n < 2 ^ 64 → get_or (decimal n) 0 0 ≡ 48 → length (decimal n) ≡ 1
no_zero_first zero h e = ap length (decimal_digit 0 (omega arith))
no_zero_first (suc n) h e = absurd (omega (arith, first_decimal (suc n) (omega arith) h))

pub not_plain : (bs : List ℕ) (o : Option ℕ) → o ≡ None → is_plain_of bs ≡ false → (n : ℕ)
    → n < 2 ^ 64 → (o ≡ Some n → bs ≡ decimal n) × (bs ≡ decimal n → o ≡ Some n)
not_plain bs o none isnt n small =
    let digit = digit_at (decimal n) 0 (digits_decimal own n small) (decimal_nonempty n small) in
    let is = plain (decimal n) (decimal_nonempty n small) digit.0 (no_zero_first n small) in (
      (λ e. let bad : None ≡ Some n = sym none ∙ e in cc),
      (λ e. let bad : false ≡ true = sym isnt ∙ ap is_plain_of e ∙ is in cc),
    )

pub number_within : (least most : ℕ) (word : List ℕ) (n : ℕ) → word ≡ decimal n → n < 2 ^ 64
    → least ≤ n → n ≤ most → Some n ≡ number_in least most word
number_within least most word n e small low high =
    let value : digits_value 10 word ≡ n = ap (digits_value 10) e
    ∙ digits_value-decimal own n small in
    rw (value, (bytes_eq-Decides word (decimal n)).1 e) (grind (arith, nat_tests))
