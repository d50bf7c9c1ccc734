-- The clauses of `Journal::has_places` that the search can't prove.
use Rattle.std.proofs.Common.{arith}
use Rattle.std.proofs.lemmas.Grind.{common_steps}
use Rattle.iol_book.proofs.JournalLemmas.{octets-are}
use Rattle.iol_book.proofs.journal.Journal.has_places.Goals as goal

pub returns-then-entries-capacity-clause-yes : goal.returns-then-entries-capacity-clause-yes
returns-then-entries-capacity-clause-yes g c = λ h.
    let sum = octets-are c.self.inside.lines.items c.self.inside.octets.items c.self.invariant in
    let room = c.has_room.ensures.yes h in record {
      entries_fit = grind (arith, common_steps);
      octets_fit = grind (arith, common_steps);
    }

pub returns-then-entries-capacity-clause-no : goal.returns-then-entries-capacity-clause-no
returns-then-entries-capacity-clause-no g c = λ h places.
    let sum = octets-are c.self.inside.lines.items c.self.inside.octets.items c.self.invariant in
    let lacks = c.has_room.ensures.no h in
    let octets_fit = places.octets_fit in grind (arith, common_steps)
