-- What on-request data holds where one octet is meant.
use Rattle.std.specs.Prelude.{ℕ, ◌-◌, List, ◌∷◌, replicate}

-- on the page and diagnosis channels the first octet is meant, the others are 0
-- MSG-6
abbrev pub first_of_zeros : ℕ → ℕ → List ℕ
first_of_zeros size octet = octet ∷ replicate (size - 1) 0
