-- A journal that was handed out, as C reads it.
use Rattle.std.specs.Prelude.{◌≡◌, Option, slice_get}
use Rattle.iol_book.specs.JournalModel.{IsBlankJournal}
use Rattle.iol_book.specs.declared.entries.Entry.{Entry}
use Rattle.iolink_port_forms.specs.declared.journal.RetainedJournal.{RetainedJournal}

-- there is none, and no memory for one
abbrev pub KeepsNone : RetainedJournal → Type 0
KeepsNone journal = IsBlankJournal journal.entries × (journal.read ≡ 0)

-- the next entry
abbrev pub entry_due : RetainedJournal → Option Entry
entry_due journal = slice_get journal.entries.items journal.read
