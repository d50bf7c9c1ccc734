-- What the search can't prove of the body of `Journal::reserve_within`.
use Rattle.std.proofs.Common.{arith}
use Rattle.std.proofs.lemmas.Grind.{common_steps}
use Rattle.iol_book.proofs.JournalLemmas.{octets-are}
use Rattle.iol_book.proofs.journal.Journal.reserve_within.Goals.{then-is_err-via-then-is_err, then-is_err-via-else-is_err+then-is_err-2}
use Rattle.iol_book.proofs.journal.Journal.reserve_within.Goals as goal

pub returns-then-is_err-clause-full : goal.returns-then-is_err-clause-full
returns-then-is_err-clause-full g c = λ has.
    let sum = octets-are c.self.inside.lines.items c.self.inside.octets.items c.self.invariant in
    let places = has.entries_fit in
    let octet_places = has.octets_fit in
    elim c.then-is_err.branch [
      | then-is_err-via-then-is_err w ↦ grind (arith, common_steps)
      | then-is_err-via-else-is_err+then-is_err-2 w ↦ grind (arith, common_steps)
    ]

pub returns-clause-ok : goal.returns-clause-ok
returns-clause-ok g c =
    let sum = octets-are c.self.inside.lines.items c.self.inside.octets.items c.self.invariant in
    record {
      entries_fit = grind (arith, common_steps);
      octets_fit = grind (arith, common_steps);
    }

pub grow-requires-else-is_err-clause-fits : goal.grow-requires-else-is_err-clause-fits
grow-requires-else-is_err-clause-fits g c =
    let sum = octets-are c.self.inside.lines.items c.self.inside.octets.items c.self.invariant in
    let fits = c.requires.octets_fit in
    grind (arith, common_steps)
