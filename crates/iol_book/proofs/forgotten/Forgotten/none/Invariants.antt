-- The ghost values that `Forgotten::none` hands to what it calls.
use Rattle.std.specs.Prelude.{[]}
use Rattle.iol_book.proofs.forgotten.Forgotten.none.Given as goal

abbrev pub ghost-of : goal.ghost-of
ghost-of a = []
