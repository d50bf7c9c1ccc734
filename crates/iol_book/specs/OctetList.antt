-- What callers see of a list of octets, and what it has in its fields.
use Rattle.std.specs.Prelude.{ℕ, ◌≤◌, List, length, take}
use Rattle.iol_book.specs.declared.octets.OctetList.TheInside.{Inside}

pub record OctetListValue : Type 0 where
  pub items : List ℕ
  -- for how many there is memory
  pub places : ℕ

module _ {A : Type 0} where
  abbrev pub octet_list_view : Inside A → OctetListValue
  octet_list_view fields = record {
    items = take fields.used fields.room.items;
    places = length fields.room.items;
  }

  -- those that are used are there
  abbrev pub AreUsedThere : Inside A → Type 0
  AreUsedThere fields = fields.used ≤ length fields.room.items
