-- Octets that may be known.
use Rattle.std.specs.Prelude.{◌≡◌, ℕ, ◌+◌, Bool, true, false, not, ◌&&◌, ◌||◌, ◌==◌, nat_eq, bit_xor, List, [], ◌∷◌, slice_index, slice_index_or, slice_set, Option, Some, None, IfSome, is_none}
use Rattle.std.specs.Option.{option_eq}

-- what is known in the first is known in the second
abbrev pub is_known_in : Option ℕ → Option ℕ → Bool
is_known_in a b = is_none a || option_eq nat_eq a b

-- another octet is known
abbrev pub is_other : Option ℕ → ℕ → Bool
is_other None octet = false
is_other (Some known) octet = not (octet == known)

-- each octet that is known is the one at its place, and 0 behind the last of those
abbrev pub Agrees : List (Option ℕ) → List ℕ → Type 0
Agrees observed octets = (place : ℕ)
    → IfSome (slice_index_or observed place None) (λ octet. slice_index octets place ≡ octet)

-- none of these is known to be another, as far as both go
abbrev pub are_as_known : List (Option ℕ) → List ℕ → Bool
are_as_known observed [] = true
are_as_known [] (octet ∷ octets) = true
are_as_known (known ∷ observed) (octet ∷ octets) =
    not (is_other known octet) && are_as_known observed octets

-- once these are known, from a place on
abbrev pub with_octets : List (Option ℕ) → ℕ → List ℕ → List (Option ℕ)
with_octets observed place [] = observed
with_octets observed place (octet ∷ octets) =
    with_octets (slice_set observed place (Some octet)) (place + 1) octets

-- the XOR of octets, with this of others, may be 0: it is, where all of them are known
abbrev pub may_be_even : ℕ → List (Option ℕ) → Bool
may_be_even sum [] = sum == 0
may_be_even sum (None ∷ observed) = true
may_be_even sum (Some octet ∷ observed) = may_be_even (bit_xor sum octet) observed
