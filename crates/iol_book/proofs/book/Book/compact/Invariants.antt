-- The ghost values that `Book::compact` hands to what it calls.
use Rattle.std.specs.Prelude.{drop}
use Rattle.iol_book.proofs.book.Book.compact.Given as goal

abbrev pub ghost-and : goal.ghost-and
ghost-and g a = drop a.from a.near.now.items
