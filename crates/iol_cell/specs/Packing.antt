-- An image, or none, as five words: its length, 0 for none, and its octets in four
-- words, the first octet lowest.
use Rattle.std.specs.Prelude.{ℕ, zero, suc, Option, Some, None, List, ◌++◌, length, take, drop, replicate, slice_index}
use Rattle.std.specs.Int.{to_le_bytes, w64}

-- the octets of an image, and zeros behind them up to 32
abbrev pub with_padding : List ℕ → List ℕ
with_padding octets = octets ++ drop (length octets) (replicate 32 0)

-- the 32 octets in the words behind the first
unfoldable pub packed_octets : List ℕ → List ℕ
packed_octets words =
    to_le_bytes w64 (slice_index words 1)
    ++ to_le_bytes w64 (slice_index words 2)
    ++ to_le_bytes w64 (slice_index words 3)
    ++ to_le_bytes w64 (slice_index words 4)

-- no image at length 0, else so many of the octets
abbrev pub image_or_none : ℕ → List ℕ → Option (List ℕ)
image_or_none zero octets = None
image_or_none (suc n) octets = Some (take (suc n) octets)

-- what five words stand for
abbrev pub image_of : List ℕ → Option (List ℕ)
image_of words = image_or_none (slice_index words 0) (packed_octets words)
