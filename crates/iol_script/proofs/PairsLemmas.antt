-- Pairs of digits, of which only their number is told. `are_pairs` needs these at each return.
-- For the clauses of `numerals::are_pairs`.
use Rattle.std.proofs.Common.{◌≡◌, ℕ, ◌+◌, ◌*◌, Bool, cond, Option, Some, None, List, [], ◌∷◌, length, is_some, option_map, option_and_then, nat_le, ◌&&◌, refl, arith, zero, suc}
use Rattle.std.specs.List.{list_all}
use Rattle.std.proofs.lemmas.Bool.Decides.{nat_tests}
use Rattle.iol_script.proofs.FitsLemmas.{both_fit}
use Rattle.iol_script.specs.Numerals.{before, digit_of, octet_of_digits, octets_of_pairs, octets_within}

abbrev is_digit : ℕ → Bool
is_digit c = is_some (digit_of c)

before-size : (first : Option ℕ) (later : Option (List ℕ)) (high low all : Bool) (count : ℕ)
    → is_some first ≡ high && low → option_map length later ≡ cond all (Some count) None
    → option_map length (before first later) ≡ cond (high && (low && all)) (Some (suc count)) None
before-size first later high low all count is size = grind (arith, nat_tests)

-- so many pairs
pairs-size : (count : ℕ) (digits : List ℕ) → length digits ≡ count + count
    → option_map length (octets_of_pairs digits) ≡ cond (list_all is_digit digits) (Some count) None
pairs-size count [] even = grind arith
pairs-size count (digit ∷ []) even = absurd (omega (arith, even))
pairs-size zero (high ∷ low ∷ digits) even = absurd (omega (arith, even))
pairs-size (suc count) (high ∷ low ∷ digits) even =
    before-size (octet_of_digits high low) (octets_of_pairs digits) (is_digit high) (is_digit low)
    (list_all is_digit digits) count (both_fit (λ h l. h * 16 + l) (digit_of high) (digit_of low))
    (pairs-size count digits (omega (arith, even)))

-- a digit is left over
pub left_over : (count : ℕ) (digits : List ℕ) → length digits ≡ count + count + 1
    → octets_of_pairs digits ≡ None
left_over count [] odd = absurd (omega (arith, odd))
left_over count (digit ∷ []) odd = refl
left_over zero (high ∷ low ∷ digits) odd = absurd (omega (arith, odd))
left_over (suc count) (high ∷ low ∷ digits) odd =
    let none = left_over count digits (omega (arith, odd)) in grind arith

sized : (least most count : ℕ) (octets : Option (List ℕ)) (all : Bool)
    → option_map length octets ≡ cond all (Some count) None
    → is_some (option_and_then (octets_within least most) octets)
    ≡ nat_le least count && (nat_le count most && all)
sized least most count octets all size = grind (arith, nat_tests)

-- how many pairs fit
pub pairs-fit : (least most count : ℕ) (digits : List ℕ) → length digits ≡ count + count
    → is_some (option_and_then (octets_within least most) (octets_of_pairs digits))
    ≡ nat_le least count && (nat_le count most && list_all (λ c. is_some (digit_of c)) digits)
pairs-fit least most count digits even =
    sized least most count (octets_of_pairs digits) (list_all is_digit digits)
    (pairs-size count digits even)
