-- The ghost values that `Forgotten::and` hands to what it calls.
use Rattle.std.specs.Prelude.{◌++◌}
use Rattle.iol_book.proofs.forgotten.Forgotten.and.Given as goal

abbrev pub ghost-of : goal.ghost-of
ghost-of g a = a.near.now.0.now.entries ++ g.more
