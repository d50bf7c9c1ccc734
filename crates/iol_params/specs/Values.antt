-- The values of a table's members: for each its octets, in the order of the table.
use Rattle.std.specs.Prelude.{ℕ, ◌+◌, Bool, true, false, ◌&&◌, nat_le, if◌then◌else◌, List, [], ◌∷◌, ◌++◌, take, drop, min, slice_index}
use Rattle.iol_isdu.specs.declared.values.Place.{Place}
use Rattle.iol_params.specs.declared.member.Member.{Member}
use Rattle.iol_params.specs.declared.member.DataType.{DataType}
use Rattle.iol_params.specs.declared.member.DataType.TheVariants.{UInteger, OctetString, Text}
use Rattle.iol_params.specs.declared.member.Access.{Access}
use Rattle.iol_params.specs.declared.member.Access.TheVariants.{ReadOnly, ReadWrite, Stored}
use Rattle.iol_params.specs.declared.table.OrderRule.{OrderRule}
use Rattle.iol_params.specs.Members.{longest, fewest, fits_type, big_endian, selects}

-- what the octets of a member may be at most, and at least
abbrev pub most_of : Member → ℕ
most_of member = longest member.data_type

abbrev pub least_of : Member → ℕ
least_of member = fewest member.data_type

-- how many octets the values of a place have at most
abbrev pub most_at : List Member → Place → ℕ
most_at [] place = 0
most_at (m ∷ ms) place = if selects place m then most_of m + most_at ms place else most_at ms place

-- and at least
abbrev pub least_at : List Member → Place → ℕ
least_at [] place = 0
least_at (m ∷ ms) place =
    if selects place m then least_of m + least_at ms place else least_at ms place

-- what is read at a place: the values of its members, in order
-- PAR-5
abbrev pub value_at : List Member → List (List ℕ) → Place → List ℕ
value_at [] values place = []
value_at (m ∷ ms) [] place = []
value_at (m ∷ ms) (v ∷ values) place =
    if selects place m then v ++ value_at ms values place else value_at ms values place

-- whether octets that are written to a place give each of its members a value
abbrev pub fits_place : List Member → Place → List ℕ → Bool
fits_place [] place octets = true
fits_place (m ∷ ms) place octets =
    if selects place m then fits_type m.data_type (take (most_of m) octets)
    && fits_place ms place (drop (most_of m) octets)
    else fits_place ms place octets

-- the values once octets are written to a place: its members have them in order, the others stay
abbrev pub overlay : List Member → List (List ℕ) → Place → List ℕ → List (List ℕ)
overlay [] values place octets = []
overlay (m ∷ ms) [] place octets = []
overlay (m ∷ ms) (v ∷ values) place octets =
    if selects place m then take (most_of m) octets ∷ overlay ms values place
    (drop (most_of m) octets)
    else v ∷ overlay ms values place octets

-- whether each member has a value that fits
abbrev pub all_fit : List Member → List (List ℕ) → Bool
all_fit [] [] = true
all_fit [] (v ∷ values) = false
all_fit (m ∷ ms) [] = false
all_fit (m ∷ ms) (v ∷ values) = fits_type m.data_type v && all_fit ms values

-- whether the first number of a rule is at most the second
abbrev pub holds_rule : List Member → List (List ℕ) → OrderRule → Bool
holds_rule members values rule =
    nat_le (big_endian (value_at members values rule.low))
    (big_endian (value_at members values rule.high))

abbrev pub is_writable : Access → Bool
is_writable ReadOnly = false
is_writable ReadWrite = true
is_writable Stored = true

abbrev pub is_stored : Access → Bool
is_stored ReadOnly = false
is_stored ReadWrite = false
is_stored Stored = true

-- the values at first
abbrev pub defaults : List Member → List (List ℕ)
defaults [] = []
defaults (m ∷ ms) = m.default.now ∷ defaults ms

-- the values after a reset: what can be written has its default again
-- PAR-8
abbrev pub reset_values : List Member → List (List ℕ) → List (List ℕ)
reset_values [] values = []
reset_values (m ∷ ms) [] = []
reset_values (m ∷ ms) (v ∷ values) =
    (if is_writable m.access then m.default.now else v) ∷ reset_values ms values

-- how the values lie in memory: for each member how many octets its value has, and room for the
-- most that it may have
abbrev pub room_for : List Member → ℕ
room_for [] = 0
room_for (m ∷ ms) = 1 + most_of m + room_for ms

abbrev pub cell_value : ℕ → List ℕ → List ℕ
cell_value most cells = take (min (slice_index cells 0) most) (drop 1 cells)

abbrev pub values_in : List Member → List ℕ → List (List ℕ)
values_in [] cells = []
values_in (m ∷ ms) cells =
    cell_value (most_of m) cells ∷ values_in ms (drop (1 + most_of m) cells)

abbrev pub is_number : DataType → Bool
is_number (UInteger width least most) = true
is_number (OctetString count) = false
is_number (Text count) = false

abbrev pub has_stored_number : Member → Bool
has_stored_number member = is_number member.data_type && is_stored member.access
