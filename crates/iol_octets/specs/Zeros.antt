-- Zeros, as behind what a part of a message holds.
use Rattle.std.specs.Prelude.{ℕ, Bool, ◌==◌, List}
use Rattle.std.specs.List.{list_all}

abbrev pub are_zeros : List ℕ → Bool
are_zeros octets = list_all (λ octet. octet == 0) octets
