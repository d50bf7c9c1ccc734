-- What is left of the entries of a journal.
use Rattle.std.specs.Prelude.{List, drop}
use Rattle.iol_book.specs.declared.entries.Entry.{Entry}
use Rattle.iol_book.specs.declared.journal.Entries.{Entries}

module _ {A : Type 0} where
  abbrev pub entries_left : Entries A → List Entry
  entries_left entries = drop entries.place entries.journal.now.items
