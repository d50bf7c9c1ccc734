-- What callers see of a journal in memory.
use Rattle.std.specs.Prelude.{◌≡◌, ℕ, ◌+◌, ◌*◌, ◌≤◌, List, [], ◌∷◌, length}
use Rattle.iol_book.specs.declared.entries.Entry.{Entry}
use Rattle.iol_book.specs.Limits.{most_data}
use Rattle.iol_book.specs.Forms.{octets_of_entry}

pub record JournalValue : Type 0 where
  pub items : List Entry
  -- for how many entries, and for how many octets of them, there is memory
  pub places : ℕ
  pub octet_places : ℕ

-- how many octets of requests and answers entries have
abbrev pub octet_sum : List Entry → ℕ
octet_sum [] = 0
octet_sum (entry ∷ entries) = length (octets_of_entry entry) + octet_sum entries

-- there is memory for so many more entries with so many octets
pub record HasPlaces (journal : JournalValue) (entries octets : ℕ) : Type 0 where
  pub entries_fit : length journal.items + entries ≤ journal.places
  pub octets_fit : octet_sum journal.items + octets ≤ journal.octet_places

-- there isn't for these
abbrev pub LacksPlaces : JournalValue → List Entry → Type 0
LacksPlaces journal entries = HasPlaces journal (length entries) (octet_sum entries) → ⊥

-- it has memory for so many entries at most, and for the octets that these can have
pub record IsWithin (most : ℕ) (journal : JournalValue) : Type 0 where
  pub entries_within : journal.places ≤ most
  pub octets_within : journal.octet_places ≤ most_data * most

-- these octets, of one parameter, have places
abbrev pub IsRoomFor : List ℕ → JournalValue → Type 0
IsRoomFor octets journal =
    length octets ≤ most_data → octet_sum journal.items + length octets ≤ journal.octet_places

-- it has no entry, and no memory
abbrev pub IsBlankJournal : JournalValue → Type 0
IsBlankJournal journal = journal ≡ record { items = []; places = 0; octet_places = 0 }

-- the memory is that of before
pub record HasPlacesOf (old new : JournalValue) : Type 0 where
  pub entries : new.places ≡ old.places
  pub octets : new.octet_places ≡ old.octet_places

-- or more
pub record Grows (old new : JournalValue) : Type 0 where
  pub items : new.items ≡ old.items
  pub places : old.places ≤ new.places
  pub octet_places : old.octet_places ≤ new.octet_places
