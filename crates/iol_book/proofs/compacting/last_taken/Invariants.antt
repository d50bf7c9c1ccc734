-- What each round of a loop of `compacting::last_taken` keeps.
use Rattle.std.proofs.Common.{◌≡◌, None, drop}
use Rattle.iol_book.specs.Drained.{last_taken}
use Rattle.iol_book.proofs.compacting.last_taken.Given as goal

abbrev pub invariant-loop-place : goal.invariant-loop-place
invariant-loop-place g l = last_taken l.last (drop l.place l.journal.items)
    ≡ last_taken None l.journal.items
