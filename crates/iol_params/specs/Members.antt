-- What a table lists: members, their data types and places.
use Rattle.std.specs.Prelude.{ℕ, ◌+◌, ◌*◌, Bool, true, ◌==◌, ◌&&◌, ◌||◌, nat_le, List, [], ◌∷◌, length}
use Rattle.iol_isdu.specs.declared.values.Place.{Place}
use Rattle.iol_params.specs.declared.member.IntegerWidth.{IntegerWidth}
use Rattle.iol_params.specs.declared.member.IntegerWidth.TheVariants.{One, Two, Four}
use Rattle.iol_params.specs.declared.member.DataType.{DataType}
use Rattle.iol_params.specs.declared.member.DataType.TheVariants.{UInteger, OctetString, Text}
use Rattle.iol_params.specs.declared.member.Member.{Member}

abbrev pub width_octets : IntegerWidth → ℕ
width_octets One = 1
width_octets Two = 2
width_octets Four = 4

-- the most octets that a value has
-- PAR-2
abbrev pub longest : DataType → ℕ
longest (UInteger width least most) = width_octets width
longest (OctetString count) = count
longest (Text count) = count

-- the fewest
abbrev pub fewest : DataType → ℕ
fewest (UInteger width least most) = width_octets width
fewest (OctetString count) = count
fewest (Text count) = 0

-- the number that one, two or four octets are, the high one first
abbrev pub big_endian : List ℕ → ℕ
big_endian (only ∷ []) = only
big_endian (high ∷ low ∷ []) = 256 * high + low
big_endian (first ∷ second ∷ third ∷ last ∷ []) =
    16777216 * first + 65536 * second + 256 * third + last
big_endian _ = 0

-- whether a number is in the range of its data type, if that has one
abbrev pub in_range : DataType → ℕ → Bool
in_range (UInteger width least most) number = nat_le least number && nat_le number most
in_range (OctetString count) number = true
in_range (Text count) number = true

-- whether octets are a value of this data type
-- PAR-2
abbrev pub fits_type : DataType → List ℕ → Bool
fits_type kind octets = nat_le (fewest kind) (length octets)
    && nat_le (length octets) (longest kind) && in_range kind (big_endian octets)

-- whether a place means this member: its own, or Subindex 0, the whole parameter
-- PAR-1
abbrev pub selects : Place → Member → Bool
selects place member = (member.place.index == place.index)
    && ((place.sub == 0) || (member.place.sub == place.sub))
