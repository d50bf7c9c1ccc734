-- Values of parameters, each with its place.
use Rattle.std.specs.Prelude.{◌≡◌, ℕ, ◌+◌, ◌*◌, ◌≤◌, ◌==◌, Bool, false, ◌&&◌, ◌||◌, nat_le, nat_lt, List, [], ◌∷◌, length, map, slice_range}
use Rattle.iol_isdu.specs.declared.values.Place.{Place}
use Rattle.iol_storage.specs.declared.objects.Span.{Span}

-- what a span stands for
abbrev pub object_in : List ℕ → Span → Place × List ℕ
object_in octets span =
    (record { index = span.index; sub = span.sub }, slice_range octets span.from span.end)

abbrev pub objects_in : List ℕ → List Span → List (Place × List ℕ)
objects_in octets spans = map (object_in octets) spans

-- each span begins where the one before it ends, and has at most 232 octets
abbrev pub AreSpans : ℕ → List Span → ℕ → Type 0
AreSpans from [] end = from ≡ end
AreSpans from (span ∷ spans) end = (span.from ≡ from) × (span.from ≤ span.end)
    × (span.end ≤ span.from + 232) × AreSpans span.end spans end

-- the Index of Data Storage is the port's own
-- STO-15
abbrev pub is_owned : Place → Bool
is_owned place = place.index == 3

-- where commands are written lies no parameter
abbrev pub is_command_place : Place → Bool
is_command_place place = place.index == 2 || is_owned place

abbrev pub any_owned : List (Place × List ℕ) → Bool
any_owned [] = false
any_owned (object ∷ objects) = is_command_place object.0 || any_owned objects

-- the octets of all values
abbrev pub values_size : List (Place × List ℕ) → ℕ
values_size [] = 0
values_size (object ∷ objects) = length object.1 + values_size objects

-- whether beside so many octets of so many values there is room for one with so many more: a set
-- has four octets of each beside its value
abbrev pub fits_beside : ℕ → ℕ → ℕ → Bool
fits_beside octets count more = nat_lt count 76
    && (nat_le more 232 && nat_le (octets + 4 * (count + 1) + more) 2048)

abbrev pub fits_behind : List (Place × List ℕ) → List ℕ → Bool
fits_behind objects octets = fits_beside (values_size objects) (length objects) (length octets)
