-- What a journal has in its fields: lines of fixed size, and the octets of its entries, one behind
-- the other.
use Rattle.std.specs.Prelude.{◌≡◌, ℕ, ◌+◌, ◌≤◌, List, [], ◌∷◌, length, take, drop, map}
use Rattle.std.specs.Vec.{vec_capacity}
use Rattle.iol_book.specs.declared.entries.Entry.{Entry}
use Rattle.iol_book.specs.declared.journal.JournalLine.{JournalLine}
use Rattle.iol_book.specs.declared.journal.Journal.TheInside.{Inside}
use Rattle.iol_book.specs.Forms.{entry_from, most_octets}
use Rattle.iol_book.specs.JournalModel.{JournalValue}

-- the octets of a line
abbrev pub line_octets : List ℕ → JournalLine → List ℕ
line_octets octets line = take line.count (drop line.start octets)

-- the entry that it stands for
abbrev pub line_entry : List ℕ → JournalLine → Entry
line_entry octets line = entry_from line.form line.ticket (line_octets octets line)

abbrev pub line_entries : List JournalLine → List ℕ → List Entry
line_entries lines octets = map (line_entry octets) lines

-- each has its octets right behind those of the line before, and the last one up to the end
abbrev pub AreInOrder : ℕ → List JournalLine → ℕ → Type 0
AreInOrder from [] end = from ≡ end
AreInOrder from (line ∷ lines) end = (line.start ≡ from) × (line.count ≤ most_octets line.form)
    × AreInOrder (from + line.count) lines end

module _ {A : Type 0} where
  abbrev pub journal_view : Inside A → JournalValue
  journal_view fields = record {
    items = line_entries fields.lines.items fields.octets.items;
    places = vec_capacity fields.lines;
    octet_places = fields.octets.places;
  }

  abbrev pub AreLinesInOrder : Inside A → Type 0
  AreLinesInOrder fields = AreInOrder 0 fields.lines.items (length fields.octets.items)
