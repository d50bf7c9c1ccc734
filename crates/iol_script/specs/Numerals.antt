-- Numbers and octets as words.
use Rattle.std.specs.Prelude.{ℕ, ◌+◌, ◌*◌, ◌-◌, Bool, false, not, ◌==◌, Option, Some, None, List, [], ◌∷◌, length, nat_le, ◌&&◌, if◌then◌else◌, codes}
use Rattle.std.specs.Str.{bytes_eq}
use Rattle.std.specs.Str.Parse.{digits_value}
use Rattle.std.specs.Fmt.{decimal}

-- what two values make, where there are both
abbrev pub of_both : {X Y Z : Type 0} → (X → Y → Z) → Option X → Option Y → Option Z
of_both make (Some x) (Some y) = Some (make x y)
of_both make _ _ = None

-- what three values make, where there are all of them
abbrev pub of_three : {X Y Z V : Type 0} → (X → Y → Z → V) → Option X → Option Y → Option Z
    → Option V
of_three make x y z = of_both (λ more value. more value) (of_both make x y) z

-- Octets

-- a hexadecimal digit's value, in both cases
abbrev pub digit_of : ℕ → Option ℕ
digit_of c = if nat_le 48 c && nat_le c 57 then Some (c - 48)
    else (if nat_le 65 c && nat_le c 70 then Some (c - 55)
    else (if nat_le 97 c && nat_le c 102 then Some (c - 87) else None))

-- the octet of two digits
abbrev pub octet_of_digits : ℕ → ℕ → Option ℕ
octet_of_digits high low = of_both (λ h l. h * 16 + l) (digit_of high) (digit_of low)

-- one more octet before what the rest gives
abbrev pub before : Option ℕ → Option (List ℕ) → Option (List ℕ)
before = of_both (λ octet octets. octet ∷ octets)

-- the octet of a word of two digits
abbrev pub word_octet : List ℕ → Option ℕ
word_octet (high ∷ low ∷ []) = octet_of_digits high low
word_octet _ = None

-- the octets of words of two digits
abbrev pub octets_of_words : List (List ℕ) → Option (List ℕ)
octets_of_words [] = Some []
octets_of_words (word ∷ words) = before (word_octet word) (octets_of_words words)

-- the octets of pairs of digits
abbrev pub octets_of_pairs : List ℕ → Option (List ℕ)
octets_of_pairs [] = Some []
octets_of_pairs (digit ∷ []) = None
octets_of_pairs (high ∷ low ∷ digits) = before (octet_of_digits high low) (octets_of_pairs digits)

-- the octets of one word: pairs of digits, or `-` for none
abbrev pub word_octets : List ℕ → Option (List ℕ)
word_octets [] = None
word_octets (c ∷ word) = if bytes_eq (c ∷ word) (codes "-") then Some [] else octets_of_pairs
    (c ∷ word)

-- octets, where there are from `least` to `most` of them
abbrev pub octets_within : ℕ → ℕ → List ℕ → Option (List ℕ)
octets_within least most octets =
    if nat_le least (length octets) && nat_le (length octets) most then Some octets else None

-- the number of a word of four digits
abbrev pub word_code : List ℕ → Option ℕ
word_code (a ∷ b ∷ c ∷ d ∷ []) =
    of_both (λ high low. high * 256 + low) (octet_of_digits a b) (octet_of_digits c d)
word_code _ = None

-- Decimal numbers

-- a decimal number from `least` to `most`: the one whose text is the word
abbrev pub number_in : ℕ → ℕ → List ℕ → Option ℕ
number_in least most word =
    let n = digits_value 10 word in
    if nat_le least n && nat_le n most && bytes_eq word (decimal n) then Some n else None

-- whether a word begins with no sign, and with no zero before another digit
abbrev pub is_plain_of : List ℕ → Bool
is_plain_of [] = false
is_plain_of (c ∷ []) = not (c == 43)
is_plain_of (c ∷ d ∷ rest) = not (c == 43) && not (c == 48)
