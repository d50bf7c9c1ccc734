-- What the search can't prove of the body of `Book::submit_urgent`.
use Rattle.iol_book.proofs.LineLemmas.{entry_steps}
use Rattle.iol_book.proofs.SoundLemmas.{sound-urgent, whole-replayed, whole-push}
use Rattle.iol_book.proofs.book.Book.submit_urgent.Goals as goal

pub invariant_of-self : goal.invariant_of-self
invariant_of-self g c =
    sound-urgent c.self.invariant _ _ _ _ _ c.push_urgent.ensures.items (grind entry_steps)
    (grind entry_steps) (grind entry_steps) (grind entry_steps)

pub returns-clause-state : goal.returns-clause-state
returns-clause-state g c = grind (
  entry_steps,
  (invariant_of-self g c).replayed,
  whole-push c.self.invariant,
)

pub returns-clause-replayed : goal.returns-clause-replayed
returns-clause-replayed g c = whole-replayed (invariant_of-self g c)
