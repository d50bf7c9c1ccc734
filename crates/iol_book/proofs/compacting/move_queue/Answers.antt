-- The clauses of `compacting::move_queue` that the search can't prove.
use Rattle.std.proofs.Common.{rules}
use Rattle.iol_book.proofs.NumberLemmas.{map-retained}
use Rattle.iol_book.proofs.compacting.move_queue.Goals as goal

pub returns-clause-lines : goal.returns-clause-lines
returns-clause-lines g c = map-retained _ _ _ (λ x b g y called. search rules) _ _
    c.retain_mut.ensures.filtered
