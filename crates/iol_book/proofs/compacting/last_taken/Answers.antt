-- What the search can't prove of the body of `compacting::last_taken`.
use Rattle.std.proofs.Common.{◌≡◌, ◌+◌, ◌∷◌, ◌∙◌, List, Option, ap, arith, drop, refl, sym}
use Rattle.std.proofs.lemmas.Grind.{common_steps}
use Rattle.iol_book.specs.declared.entries.Ticket.{Ticket}
use Rattle.iol_book.specs.declared.entries.Entry.{Entry}
use Rattle.iol_book.specs.declared.entries.Entry.TheVariants.{Submitted, Urgent, Taken, Answered, Withdrawn, Collected, Abandoned}
use Rattle.iol_book.specs.Drained.{last_taken}
use Rattle.iol_book.proofs.JournalLemmas.{drop-at}
use Rattle.iol_book.proofs.compacting.last_taken.Goals.{in-Taken, in_default}
use Rattle.iol_book.proofs.compacting.last_taken.Goals as goal

-- any other entry leaves what was taken last
not-taken : (before : Option Ticket) (e : Entry) (es : List Entry)
    → ((t : Ticket) → e ≡ Taken t → ⊥) → last_taken before (e ∷ es) ≡ last_taken before es
not-taken before (Submitted t r) es other = refl
not-taken before (Urgent t r) es other = refl
not-taken before (Taken t) es other = absurd (other t refl)
not-taken before (Answered t o) es other = refl
not-taken before (Withdrawn t) es other = refl
not-taken before (Collected t) es other = refl
not-taken before (Abandoned t) es other = refl

pub loop-place-preserved : goal.loop-place-preserved
loop-place-preserved g c =
    let h = c.loop-place.invariant in
    let rest = drop-at c.args.journal.now.items c.loop-place.place c.entry_at.result
    (grind (arith, common_steps)) (c.entry_at.ensures c.entry_at.result) in
    let left : List Entry = drop (c.loop-place.place + 1) c.args.journal.now.items in
    let first = ap (λ es. last_taken c.loop-place.last es) rest in
    elim c.match-entry_at.branch [
      | in-Taken w ↦
          let step = ap (λ e. last_taken c.loop-place.last (e ∷ left)) w.in-Taken.is in
          rw w.last-is (sym (first ∙ step) ∙ h)
      | in_default w ↦
          let step = not-taken c.loop-place.last c.entry_at.result left w.in_default.not-Taken in
          rw w.last-is (sym (first ∙ step) ∙ h)
    ]
