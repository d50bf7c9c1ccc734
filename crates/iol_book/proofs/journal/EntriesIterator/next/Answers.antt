-- The clauses of `EntriesIterator::next` that the search can't prove.
use Rattle.std.proofs.Common.{arith}
use Rattle.std.proofs.lemmas.Grind.{common_steps}
use Rattle.iol_book.proofs.JournalLemmas.{drop-at}
use Rattle.iol_book.proofs.journal.EntriesIterator.next.Goals as goal

pub returns-clause-steps : goal.returns-clause-steps
returns-clause-steps g c = drop-at c.args.self.now.journal.now.items c.args.self.now.place
    c.entry_at-entry.result (grind (arith, common_steps))
    (c.entry_at-entry.ensures c.entry_at-entry.result)
