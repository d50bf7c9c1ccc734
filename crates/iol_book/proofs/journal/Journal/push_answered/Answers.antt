-- The clauses of `Journal::push_answered` that the search can't prove.
use Rattle.std.proofs.Common.{refl}
use Rattle.iol_book.proofs.JournalLemmas.{outcome-back}
use Rattle.iol_book.proofs.journal.Journal.push_answered.Goals as goal

pub returns-clause-items : goal.returns-clause-items
returns-clause-items g c = rw (
  c.add.ensures.items,
  c.of.ensures,
  c.octets_of_outcome.ensures.value,
  outcome-back c.args.outcome.now,
) refl
