-- The clauses of `lines::next_of` that the search can't prove.
use Rattle.std.proofs.Common.{arith}
use Rattle.std.proofs.lemmas.Grind.{common_steps}
use Rattle.std.proofs.lemmas.List.Folds.{find-append}
use Rattle.iol_book.proofs.lines.next_of.Goals as goal

pub returns-in-Some : goal.returns-in-Some
returns-in-Some g c = rw find-append (grind (arith, common_steps))

pub returns-in-None : goal.returns-in-None
returns-in-None g c = rw find-append (grind (arith, common_steps))
