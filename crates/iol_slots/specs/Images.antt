-- Images of a content in slots.
use Rattle.std.specs.Prelude.{◌≡◌, ℕ, ◌+◌, ◌-◌, Bool, true, false, ◌==◌, ◌&&◌, ◌||◌, nat_le, nat_lt, if◌then◌else◌, List, [], ◌∷◌, ◌++◌, length, take, drop, slice_index, Option, Some, None, option_map, bytes_eq}
use Rattle.iol_slots.specs.declared.slots.Slot.{Slot}
use Rattle.iol_slots.specs.declared.slots.Slot.TheVariants.{First, Second}
use Rattle.iol_slots.specs.declared.slots.Store.{Store}
use Rattle.iol_slots.specs.Memory.{Memory, slot_octets, stores_of}

-- a mark is none of what erased memory has
abbrev pub is_mark : ℕ → Bool
is_mark octet = nat_le 1 octet && nat_le octet 254

abbrev pub last_octet : List ℕ → ℕ
last_octet octets = slice_index octets (length octets - 1)

-- an image is a content between two equal marks
-- SLOT-2
abbrev pub image : ℕ → List ℕ → List ℕ
image mark content = mark ∷ (content ++ mark ∷ [])

abbrev pub is_whole_image : List ℕ → Bool
is_whole_image octets = nat_le 2 (length octets) && is_mark (slice_index octets 0)
    && (slice_index octets 0 == last_octet octets)

abbrev pub content_of : List ℕ → List ℕ
content_of octets = take (length octets - 2) (drop 1 octets)

-- marks go round
abbrev pub next_mark : ℕ → ℕ
next_mark mark = if nat_lt mark 254 then mark + 1 else 1

-- whether a mark is one or two behind another
abbrev pub is_newer : ℕ → ℕ → Bool
is_newer old new = (new == next_mark old) || (new == next_mark (next_mark old))

-- by whether each slot is whole, and whether the mark of the second is behind that of the first
abbrev pub newest_of : Bool → Bool → Bool → Option Slot
newest_of false false behind = None
newest_of true false behind = Some First
newest_of false true behind = Some Second
newest_of true true true = Some Second
newest_of true true false = Some First

-- SLOT-4
abbrev pub newest : Memory → Option Slot
newest m = newest_of (is_whole_image m.first) (is_whole_image m.second)
    (is_newer (slice_index m.first 0) (slice_index m.second 0))

-- what is loaded: the content of the newest whole image
-- SLOT-4
abbrev pub newest_content : Memory → Option (List ℕ)
newest_content m = option_map (λ slot. content_of (slot_octets m slot)) (newest m)

-- the other slot than the newest
abbrev pub free_slot : Option Slot → Slot
free_slot None = First
free_slot (Some First) = Second
free_slot (Some Second) = First

abbrev pub newest_mark : Memory → Option Slot → ℕ
newest_mark m None = 0
newest_mark m (Some slot) = slice_index (slot_octets m slot) 0

-- the mark behind this one, but for one: so it differs from the octet where it will stand last
-- SLOT-3
abbrev pub fresh_mark : ℕ → ℕ → ℕ
fresh_mark mark last =
    if next_mark mark == last then next_mark (next_mark mark) else next_mark mark

abbrev pub saving_to : Memory → Option Slot → List ℕ → List Store
saving_to m best content = stores_of (free_slot best) 0 (image
    (fresh_mark (newest_mark m best) (last_octet (slot_octets m (free_slot best)))) content)

-- what is stored to save a content
-- SLOT-3
abbrev pub saving : Memory → List ℕ → List Store
saving m content = saving_to m (newest m) content

-- whether a content is what is loaded
abbrev pub is_loaded : Option (List ℕ) → List ℕ → Bool
is_loaded None content = false
is_loaded (Some loaded) content = bytes_eq loaded content

-- nothing, where it is the newest already
abbrev pub keeping : Memory → List ℕ → List Store
keeping m content = if is_loaded (newest_content m) content then [] else saving m content

-- each slot has room for this content's image, and no more
pub record FitsIn (m : Memory) (content : List ℕ) : Type 0 where
  pub first : length m.first ≡ length content + 2
  pub second : length m.second ≡ length content + 2

abbrev pub has_size : Memory → ℕ → Bool
has_size m size = (length m.first == size) && (length m.second == size)
