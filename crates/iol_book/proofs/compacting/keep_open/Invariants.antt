-- What each round of a loop of `compacting::keep_open` keeps.
use Rattle.std.proofs.Common.{◌≡◌, ◌+◌, ◌++◌, ◌≤◌, Bool, drop, length}
use Rattle.std.specs.Prelude.{filter}
use Rattle.iol_book.specs.declared.entries.Entry.{Entry}
use Rattle.iol_book.specs.Lines.{entry_ticket, is_still_open_by}
use Rattle.iol_book.specs.JournalModel.{octet_sum}
use Rattle.iol_book.proofs.compacting.keep_open.Given as goal

abbrev pub invariant-loop-place : goal.invariant-loop-place
invariant-loop-place g l =
    let is_retained : Entry → Bool = λ e. is_still_open_by l.doubt l.urgent.items l.waiting.items
    l.taken l.outcomes (entry_ticket e) in
    (l.journal.items ++ filter is_retained (drop l.place l.list.items)
    ≡ filter is_retained (drop l.first l.list.items))
    × (l.journal.places ≡ l.fn.journal.places)
    × (l.journal.octet_places ≡ l.fn.journal.octet_places)
    × (length l.journal.items + length (drop l.place l.list.items) ≤ l.journal.places)
    × (octet_sum l.journal.items + octet_sum (drop l.place l.list.items)
    ≤ l.journal.octet_places)
