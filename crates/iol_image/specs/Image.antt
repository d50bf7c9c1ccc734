-- Whole process data of one direction.
use Rattle.std.specs.Prelude.{ℕ, ◌≤◌, List, length}

-- the octets of an image: 1 to 32
-- PD-3
pub record IsImage (octets : List ℕ) : Type 0 where
  pub some_octet : 1 ≤ length octets
  pub fits : length octets ≤ 32
