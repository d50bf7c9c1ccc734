-- The clauses of `Book::has_next` that the search can't prove.
use Rattle.iol_book.proofs.LineLemmas.{entry_steps}
use Rattle.iol_book.proofs.SoundLemmas.{next-line}
use Rattle.iol_book.proofs.book.Book.has_next.Goals as goal

pub returns-then-is_none : goal.returns-then-is_none
returns-then-is_none g c =
    let is = next-line c.self.inside c.next_of.result (grind entry_steps) (grind entry_steps) in
    rw (← c.self.view_is, is) (grind entry_steps)
