-- The checksum of a message (IEC 61131-9, A.1.6).
use Rattle.std.specs.Prelude.{◌≡◌, ℕ, ◌+◌, ◌*◌, ◌/◌, ◌%◌, ◌^◌, ◌<◌, Bool, ◌==◌, IsTrue, List, length, fold, bit_xor, slice_index, slice_set}
use Rattle.std.specs.Int.{bit_at}

-- the XOR of 0x52 and all octets
abbrev pub seeded_xor : List ℕ → ℕ
seeded_xor octets = fold bit_xor 0x52 octets

-- six bits from eight, the highest first: each is the XOR of the bits that are named
-- CHK-1
unfoldable pub six_bits_of : ℕ → ℕ
six_bits_of sum =
    32 * ((bit_at sum 7 + bit_at sum 5 + bit_at sum 3 + bit_at sum 1) % 2)
    + 16 * ((bit_at sum 6 + bit_at sum 4 + bit_at sum 2 + bit_at sum 0) % 2)
    + 8 * ((bit_at sum 7 + bit_at sum 6) % 2)
    + 4 * ((bit_at sum 5 + bit_at sum 4) % 2)
    + 2 * ((bit_at sum 3 + bit_at sum 2) % 2)
    + (bit_at sum 1 + bit_at sum 0) % 2

-- the checksum of octets whose own six checksum bits are 0
-- CHK-1
unfoldable pub checksum_of : List ℕ → ℕ
checksum_of octets = six_bits_of (seeded_xor octets)

-- the octets with the six checksum bits of the octet at a place as 0
-- CHK-2
abbrev pub without_checksum : ℕ → List ℕ → List ℕ
without_checksum place octets = slice_set octets place (64 * (slice_index octets place / 64))

-- whether the low six bits of the octet at a place are the checksum of the octets
-- CHK-2
unfoldable pub has_checksum : ℕ → List ℕ → Bool
has_checksum place octets = slice_index octets place % 64 == checksum_of
    (without_checksum place octets)

-- the octets with their checksum put where six zeros stand
abbrev pub with_checksum : ℕ → List ℕ → List ℕ
with_checksum place octets = slice_set octets place (slice_index octets place + checksum_of octets)

-- octets of which the six bits at a place are 0 have their checksum once it is put there
abbrev pub ChecksumFits : List ℕ → Type 0
ChecksumFits octets = (place : ℕ) → place < length octets → slice_index octets place % 64 ≡ 0
    → IsTrue (has_checksum place (with_checksum place octets))

-- a checksum has six bits, and octets have theirs once it is put where six zeros stand
abbrev pub ChecksumsFit : Type 0
ChecksumsFit = (octets : List ℕ) → (checksum_of octets < 64) × ChecksumFits octets

-- the octets with one bit flipped
abbrev pub with_flip : List ℕ → ℕ → ℕ → List ℕ
with_flip octets place bit = slice_set octets place (bit_xor (slice_index octets place) (2 ^ bit))

-- each is an octet
abbrev pub AreOctets : List ℕ → Type 0
AreOctets octets = (i : ℕ) → slice_index octets i < 256

-- octets that have their checksum and of which one bit is flipped, wherever it is, don't have it
abbrev pub FlipIsDetected : Type 0
FlipIsDetected =
    (octets : List ℕ) (checked place bit : ℕ) → AreOctets octets → checked < length octets
    → place < length octets → bit < 8
    → IsTrue (has_checksum checked octets)
    → IsTrue (has_checksum checked (with_flip octets place bit)) → ⊥
