-- The clauses of `Journal::push_submitted` that the search can't prove.
use Rattle.std.proofs.Common.{refl}
use Rattle.iol_book.proofs.JournalLemmas.{request-back}
use Rattle.iol_book.proofs.journal.Journal.push_submitted.Goals as goal

pub returns-clause-items : goal.returns-clause-items
returns-clause-items g c = rw (
  c.add.ensures.items,
  c.of.ensures,
  c.octets_of_request.ensures.value,
  request-back c.args.request.now,
) refl
