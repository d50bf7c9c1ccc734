-- The clauses of `Journal::push` that the search can't prove.
use Rattle.std.proofs.Common.{refl}
use Rattle.iol_book.proofs.JournalLemmas.{entry-back}
use Rattle.iol_book.proofs.journal.Journal.push.Goals as goal

pub returns-clause-items : goal.returns-clause-items
returns-clause-items g c = rw (
  c.add.ensures.items,
  c.of.ensures,
  c.ticket.ensures,
  c.octets_of.ensures.value,
  entry-back c.args.entry.now,
) refl
