-- Octets that are read one after the other, by `octets_of_pairs` and `parted_octets`.
-- For the clauses of `numerals::pairs_of` and `numerals::parted_octets`.
use Rattle.std.proofs.Common.{◌≡◌, ℕ, ◌-◌, ◌≤◌, Option, Some, None, List, [], ◌∷◌, ◌++◌, length, get_or, take, drop, option_map, option_and_then, arith, append-nil, append_assoc, length-append}
use Rattle.std.proofs.lemmas.Bool.Decides.{nat_tests}
use Rattle.std.proofs.lemmas.List.{take_rest}
use Rattle.iol_script.specs.Numerals.{before, octet_of_digits, octets_of_pairs, octets_within}

-- what was read before what is left
abbrev pub behind : List ℕ → Option (List ℕ) → Option (List ℕ)
behind read left = option_map (λ (later : List ℕ). read ++ later) left

module _ (all : Option (List ℕ)) (read : List ℕ) where
  -- one more octet is read
  pub behind-more : (first : Option ℕ) (octet : ℕ) (left : Option (List ℕ))
      → all ≡ behind read (before first left) → Some octet ≡ first
      → all ≡ behind (read ++ octet ∷ []) left
  behind-more first octet left is found = grind (arith, append_assoc)

  -- there is one more, and no room for it
  pub behind-full : (most : ℕ) (first : Option ℕ) (left : Option (List ℕ))
      → all ≡ behind read (before first left) → most ≤ length read
      → None ≡ option_and_then (octets_within 0 most) all
  behind-full most first left is full = grind (arith, nat_tests, length-append {A = ℕ})

  -- none is left
  pub behind_whole : (most : ℕ) (left : Option (List ℕ)) → all ≡ behind read left → left ≡ Some []
      → length read ≤ most → Some read ≡ option_and_then (octets_within 0 most) all
  behind_whole most left is none short = grind (arith, nat_tests, append-nil read)

pub pairs_of_two : (left : List ℕ) → 2 ≤ length left
    → octets_of_pairs left ≡ before (octet_of_digits (get_or left 0 0) (get_or left 1 0))
    (octets_of_pairs
    (take (length left - 2) (drop 2 left)))
pairs_of_two [] long = absurd (omega arith)
pairs_of_two (high ∷ []) long = absurd (omega arith)
pairs_of_two (high ∷ low ∷ digits) long = rw take_rest
