-- What each round of a loop of `compacting::copy_entries` keeps.
use Rattle.std.proofs.Common.{◌≡◌, ◌+◌, ◌++◌, ◌≤◌, drop, length, take}
use Rattle.iol_book.specs.JournalModel.{octet_sum}
use Rattle.iol_book.proofs.compacting.copy_entries.Given as goal

abbrev pub invariant-loop-place : goal.invariant-loop-place
invariant-loop-place g l = (l.list.items ≡ l.fn.list.items ++ take l.place l.journal.items)
    × (l.list.places ≡ l.fn.list.places)
    × (l.list.octet_places ≡ l.fn.list.octet_places)
    × (length l.list.items + length (drop l.place l.journal.items) ≤ l.list.places)
    × (octet_sum l.list.items + octet_sum (drop l.place l.journal.items) ≤ l.list.octet_places)
