-- What the search can't prove of the body of `Book::collect_into`.
use Rattle.std.proofs.Common.{◌≡◌, ℕ, Some, Ok, ap, ◌∙◌, sym}
use Rattle.iol_book.specs.declared.entries.Ticket.{Ticket}
use Rattle.iol_book.specs.declared.entries.Outcome.{Outcome}
use Rattle.std.specs.Map.{lookup}
use Rattle.iol_book.specs.Replay.{same_ticket}
use Rattle.iol_book.specs.Lines.{outcome_in}
use Rattle.iol_book.proofs.LineLemmas.{entry_steps, lookup-values}
use Rattle.iol_book.proofs.SoundLemmas.{taken-unanswered, sound-collected, whole-replayed, whole-push}
use Rattle.iol_book.proofs.book.Book.collect_into.Goals as goal

pub invariant_of-self : goal.invariant_of-self
invariant_of-self g c = sound-collected c.self.invariant _ _ _ c.push_bare.ensures.items
    (grind entry_steps) (grind entry_steps)

pub returns-clause-answer : goal.returns-clause-answer
returns-clause-answer g c =
    let line : lookup (same_ticket c.args.ticket) c.self.inside.outcomes.items
    ≡ Some c.remove-line.result.1 =
    rw c.deref.ensures.value at (c.in-Some.ensures.its_own c.remove-line.result)
    ∙ ap (λ (p : Ticket × ℕ). Some p.1) (sym c.remove-line.ensures.value) in
    let values_are = rw line at (lookup-values outcome_in c.self.inside.journal.items c.args.ticket
    c.self.inside.outcomes.items) in
    rw (← c.self.view_is, values_are) (ap (λ (o : Outcome). Ok o) c.put_outcome.ensures)

pub returns-clause-state : goal.returns-clause-state
returns-clause-state g c = grind (
  entry_steps,
  lookup-values,
  (invariant_of-self g c).replayed,
  whole-push c.self.invariant,
)

pub returns-clause-replayed : goal.returns-clause-replayed
returns-clause-replayed g c = whole-replayed (invariant_of-self g c)

pub returns-then-is_awaited-clause-answer : goal.returns-then-is_awaited-clause-answer
returns-then-is_awaited-clause-answer g c = grind (entry_steps, taken-unanswered)

pub returns-then-is_awaited-clause-state : goal.returns-then-is_awaited-clause-state
returns-then-is_awaited-clause-state g c = grind (entry_steps, taken-unanswered)
