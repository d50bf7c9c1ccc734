-- What Data Storage reads of a device (B.2.3).
use Rattle.std.specs.Prelude.{ℕ, zero, suc, ◌+◌, ◌*◌, ◌/◌, ◌%◌, ◌==◌, if◌then◌else◌, List, [], ◌∷◌, ◌++◌, fold, length, bit_xor}
use Rattle.iol_params.specs.declared.member.Member.{Member}
use Rattle.iol_params.specs.declared.state.Scope.TheVariants.{Block, Storage}
use Rattle.iol_params.specs.declared.state.Activity.{Activity}
use Rattle.iol_params.specs.declared.state.Activity.TheVariants.{Idle, Upload, Download, CutOff}
use Rattle.iol_params.specs.Values.{value_at}
use Rattle.iol_params.specs.Table.{ParamTable, whole, begins_stored, two_octets, set_size, index_list}
use Rattle.iol_params.specs.State.{ParamState, bit_of}

abbrev pub four_octets : ℕ → List ℕ
four_octets number = (number / 16777216) ∷ ((number / 65536) % 256) ∷ ((number / 256) % 256)
    ∷ (number % 256) ∷ []

-- Index, Subindex 0, length and value of one parameter
abbrev pub set_entry : ℕ → List ℕ → List ℕ
set_entry index value = two_octets index ++ (0 ∷ length value ∷ value)

-- what the checksum is over: these of each
-- DSD-3
abbrev pub set_octets : List Member → List (List ℕ) → List Member → List ℕ
set_octets members values [] = []
set_octets members values (m ∷ ms) = if begins_stored m
    then set_entry m.place.index (value_at members values (whole m.place.index))
    ++ set_octets members values ms
    else set_octets members values ms

-- CRC-32: one bit, some, one octet, all
abbrev pub crc_bit : ℕ → ℕ
crc_bit register =
    if (register % 2) == 1 then bit_xor (register / 2) 3988292384 else register / 2

abbrev pub crc_bits : ℕ → ℕ → ℕ
crc_bits zero register = register
crc_bits (suc count) register = crc_bit (crc_bits count register)

unfoldable pub crc_octet : ℕ → ℕ → ℕ
crc_octet register octet = crc_bits 8 (bit_xor register octet)

-- DSD-3
abbrev pub crc32 : List ℕ → ℕ
crc32 octets = bit_xor (fold crc_octet 4294967295 octets) 4294967295

abbrev pub checksum_over : ParamTable → ParamState → ℕ
checksum_over table s = crc32 (set_octets table.members s.values table.members)

-- what an activity is for Data Storage
abbrev pub storage_activity : Activity → ℕ
storage_activity (Upload Storage) = 1
storage_activity (Download Storage writes) = 2
storage_activity (Upload Block) = 0
storage_activity (Download Block writes) = 0
storage_activity Idle = 0
storage_activity CutOff = 0

-- DSD-1
abbrev pub state_octet : ParamState → ℕ
state_octet s = 128 * bit_of s.flag
    + 2 * (if s.locks.storage then 3 else storage_activity s.activity)

-- what is read at Subindex 2 to 5 of Index 3
-- DSD-1
abbrev pub storage_value : ParamTable → ParamState → ℕ → List ℕ
storage_value table s sub = if sub == 2 then state_octet s ∷ [] else
    if sub == 3 then four_octets (set_size table.members table.members) else
    if sub == 4 then four_octets (checksum_over table s) else index_list table.members
