-- Sets, and their octets.
use Rattle.std.specs.Prelude.{ℕ, ◌/◌, ◌%◌, Bool, false, List, [], ◌∷◌, ◌++◌, length, Option, Some, None}
use Rattle.iol_isdu.specs.declared.values.Place.{Place}
use Rattle.iol_storage.specs.declared.set.Set.{Set}
use Rattle.iol_storage.specs.Objects.{any_owned}

-- one with a value where commands are written is no set
abbrev pub is_no_set : Option Set → Bool
is_no_set None = false
is_no_set (Some set) = any_owned set.objects

-- one parameter: Index, Subindex, the length of its value, and the value
abbrev pub object_image : Place × List ℕ → List ℕ
object_image object = (object.0.index / 256) ∷ ((object.0.index % 256)
    ∷ (object.0.sub ∷ (length object.1 ∷ object.1)))

abbrev pub objects_image : List (Place × List ℕ) → List ℕ
objects_image [] = []
objects_image (object ∷ objects) = object_image object ++ objects_image objects

-- a unit stands in front of the parameters, as 21/0
abbrev pub unit_image : List ℕ → List ℕ
unit_image [] = []
unit_image (octet ∷ octets) = object_image (record { index = 21; sub = 0 }, octet ∷ octets)

-- the checksum, VendorID and DeviceID, a FunctionID 0, and the unit
abbrev pub set_header : Set → List ℕ
set_header set = set.checksum ++ (set.device ++ (0 ∷ (0 ∷ unit_image set.unit.items)))

-- STO-2
abbrev pub set_image : Set → List ℕ
set_image set = set_header set ++ objects_image set.objects
