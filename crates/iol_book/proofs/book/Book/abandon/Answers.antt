-- What the search can't prove of the body of `Book::abandon`.
use Rattle.std.proofs.Common.{refl}
use Rattle.iol_book.proofs.LineLemmas.{entry_steps, line_steps}
use Rattle.iol_book.proofs.SoundLemmas.{abandoned-taken, abandoned-waiting, abandoned-outcome, whole-replayed, whole-push}
use Rattle.iol_book.proofs.book.Book.abandon.Goals.{then-is_awaited, else-is_awaited+then-waits, else-is_awaited+else-waits+in-Some}
use Rattle.iol_book.proofs.book.Book.abandon.Goals as goal

pub invariant_of-self : goal.invariant_of-self
invariant_of-self g c = elim c.if-is_awaited.branch [
  | then-is_awaited w ↦ rw w.self-inside-is (abandoned-taken c.self.invariant _ _ c.args.ticket
      (grind (entry_steps, line_steps)) refl (grind entry_steps) (grind entry_steps))
  | else-is_awaited+then-waits w ↦ rw w.self-inside-is (abandoned-waiting c.self.invariant _ _ _
      c.args.ticket (grind (entry_steps, line_steps)) w.remove_from.ensures.urgent
      w.remove_from.ensures.waiting (grind entry_steps) (grind entry_steps))
  | else-is_awaited+else-waits+in-Some w ↦ rw w.self-inside-is (abandoned-outcome c.self.invariant
      _ _ c.args.ticket (grind (entry_steps, line_steps)) (grind entry_steps) (grind entry_steps)
      (record {
        urgent_room = grind entry_steps;
        queue_room = grind entry_steps;
        outcome_room = grind entry_steps;
        entry_room = grind entry_steps;
        octet_room = grind entry_steps;
        within = grind entry_steps;
        limit = grind entry_steps;
      }))
]

pub returns-clause-state : goal.returns-clause-state
returns-clause-state g c = elim c.if-is_awaited.branch [
  | then-is_awaited w ↦
      grind (entry_steps, line_steps, (invariant_of-self g c).replayed, whole-push c.self.invariant)
  | else-is_awaited+then-waits w ↦
      grind (entry_steps, line_steps, (invariant_of-self g c).replayed, whole-push c.self.invariant)
  | else-is_awaited+else-waits+in-Some w ↦
      grind (entry_steps, line_steps, (invariant_of-self g c).replayed, whole-push c.self.invariant)
]

pub returns-clause-replayed : goal.returns-clause-replayed
returns-clause-replayed g c = whole-replayed (invariant_of-self g c)
