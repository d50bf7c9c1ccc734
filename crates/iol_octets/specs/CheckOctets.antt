-- The octets that hold a checksum.
use Rattle.std.specs.Prelude.{Bool, ℕ, ◌+◌, ◌*◌, if◌then◌else◌}
use Rattle.iol_octets.specs.declared.check_octets.SequenceType.{SequenceType}
use Rattle.iol_octets.specs.declared.check_octets.SequenceType.TheVariants.{Type0, Type1, Type2}
use Rattle.iol_octets.specs.declared.check_octets.Ckt.{Ckt}
use Rattle.iol_octets.specs.declared.check_octets.Cks.{Cks}

-- the two bits of an M-sequence type
-- OCT-3
abbrev pub type_bits : SequenceType → ℕ
type_bits Type0 = 0
type_bits Type1 = 1
type_bits Type2 = 2

-- checksum / M-sequence type: bits 7 and 6 are the type, bits 5 to 0 the checksum
-- OCT-3
abbrev pub type_octet : Ckt → ℕ
type_octet ckt = 64 * type_bits ckt.kind + ckt.sum

-- bit 7 is the Event flag, bit 6 the process data status
-- OCT-4
abbrev pub status_bits : Bool → Bool → ℕ
status_bits event invalid = (if event then 128 else 0) + (if invalid then 64 else 0)

-- checksum / status: the two status bits, and the checksum in bits 5 to 0
-- OCT-4
abbrev pub status_octet : Cks → ℕ
status_octet cks = status_bits cks.event cks.invalid + cks.sum
