-- What the search can't prove of the body of `Book::archive`.
use Rattle.iol_book.proofs.LineLemmas.{entry_steps}
use Rattle.iol_book.proofs.SoundLemmas.{sound-archived, whole-replayed}
use Rattle.iol_book.proofs.book.Book.archive.Goals as goal

pub invariant_of-self : goal.invariant_of-self
invariant_of-self g c = sound-archived c.self.invariant c.replace.new.dest (grind entry_steps)
    (grind entry_steps) (grind entry_steps) (grind entry_steps) (grind entry_steps)
    (grind entry_steps)

pub returns-clause-replayed : goal.returns-clause-replayed
returns-clause-replayed g c = whole-replayed (invariant_of-self g c)
