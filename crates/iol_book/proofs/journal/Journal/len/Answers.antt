-- The clauses of `Journal::len` that the search can't prove.
use Rattle.std.proofs.Common.{arith}
use Rattle.std.proofs.lemmas.Grind.{common_steps}
use Rattle.iol_book.proofs.JournalLemmas.{octets-most}
use Rattle.iol_book.proofs.journal.Journal.len.Goals as goal

pub returns-clause-octets : goal.returns-clause-octets
returns-clause-octets g c =
    let most = octets-most c.self.inside.lines.items c.self.inside.octets.items c.self.invariant in
    rw (← c.self.view_is, c.len.ensures) (grind (arith, common_steps, most))
