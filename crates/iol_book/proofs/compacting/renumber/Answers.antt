-- What the search can't prove of the body of `compacting::renumber`.
use Rattle.std.proofs.Common.{◌≡◌, ◌+◌, ap, arith, drop, false, ◌∷◌, sym, true, ◌∙◌}
use Rattle.std.proofs.lemmas.Grind.{common_steps}
use Rattle.std.proofs.lemmas.List.{drop_all, drop_more}
use Rattle.std.specs.Option.{option_to_list}
use Rattle.std.specs.Prelude.{slice_index_or}
use Rattle.iol_book.specs.declared.entries.Entry.TheVariants.{Collected}
use Rattle.iol_book.specs.Lines.{entry_ticket}
use Rattle.iol_book.specs.Lines.{is_still_open_by, moved_number, with_numbers}
use Rattle.iol_book.proofs.NumberLemmas.{comes-dropped, comes-end, comes-retained, open-numbers}
use Rattle.iol_book.proofs.compacting.renumber.Goals as goal
use Rattle.iol_book.proofs.compacting.renumber.Goals.{then-is_still_open, else-is_still_open}

pub loop-line-preserved : goal.loop-line-preserved
loop-line-preserved g c =
    let es = c.args.journal.now.items in
    let e = slice_index_or es c.loop-line.line (Collected c.ticket_at-ticket.result) in
    let k = is_still_open_by c.args.doubt c.args.urgent.now.items c.args.waiting.now.items
    c.args.taken.now c.args.outcomes.now.items in
    let at : drop c.loop-line.line c.args.journal.now.items
    ≡ e ∷ drop (c.loop-line.line + 1) c.args.journal.now.items =
    drop_more c.args.journal.now.items c.loop-line.line (Collected c.ticket_at-ticket.result)
    (grind (arith, common_steps)) in
    let h = c.loop-line.invariant in
    let same : c.is_still_open.result ≡ is_still_open_by c.args.doubt c.args.urgent.now.items
    c.args.waiting.now.items c.args.taken.now c.args.outcomes.now.items (entry_ticket e) =
    c.is_still_open.ensures
    ∙ (ap (λ os. is_still_open_by c.args.doubt c.loop-line.urgent.items
    c.loop-line.waiting.items c.loop-line.taken os c.ticket_at-ticket.result) c.deref.ensures.value
    ∙ (ap (λ t. is_still_open_by c.args.doubt c.loop-line.urgent.items
    c.loop-line.waiting.items c.loop-line.taken c.loop-line.outcomes.items t)
    (c.ticket_at-ticket.ensures (Collected c.ticket_at-ticket.result))
    ∙ h.8 (entry_ticket e))) in
    elim c.if-is_still_open.branch [
      | then-is_still_open w ↦
          let stays : is_still_open_by c.args.doubt c.args.urgent.now.items
          c.args.waiting.now.items c.args.taken.now c.args.outcomes.now.items (entry_ticket e)
          ≡ true = sym same ∙ grind (arith, common_steps) in
          let us : c.if-is_still_open.urgent.items ≡ with_numbers
          (moved_number c.loop-line.line c.loop-line.retained) c.loop-line.urgent.items =
          grind (arith, common_steps) in
          let ws : c.if-is_still_open.waiting.items ≡ with_numbers
          (moved_number c.loop-line.line c.loop-line.retained) c.loop-line.waiting.items =
          grind (arith, common_steps) in
          let one : option_to_list c.if-is_still_open.taken ≡ with_numbers
          (moved_number c.loop-line.line c.loop-line.retained) (option_to_list c.loop-line.taken) =
          grind (arith, common_steps) in
          let os : c.if-is_still_open.outcomes.items ≡ with_numbers
          (moved_number c.loop-line.line c.loop-line.retained) c.loop-line.outcomes.items =
          grind (arith, common_steps) in
          let more : c.if-is_still_open.retained ≡ c.loop-line.retained + 1 =
          grind (arith, common_steps) in (
            grind (arith, common_steps),
            comes-retained k es e c.loop-line.line c.loop-line.retained at _ _ h.1 _ _
                stays us more,
            comes-retained k es e c.loop-line.line c.loop-line.retained at _ _ h.2 _ _
                stays ws more,
            comes-retained k es e c.loop-line.line c.loop-line.retained at _ _ h.3 _ _
                stays one more,
            comes-retained k es e c.loop-line.line c.loop-line.retained at _ _ h.4 _ _
                stays os more,
            grind (arith, common_steps),
            grind (arith, common_steps),
            grind (arith, common_steps),
            λ t. open-numbers t (moved_number c.loop-line.line c.loop-line.retained) c.args.doubt
                c.loop-line.urgent.items c.loop-line.waiting.items c.loop-line.outcomes.items
                c.if-is_still_open.urgent.items c.if-is_still_open.waiting.items
                c.if-is_still_open.outcomes.items c.loop-line.taken c.if-is_still_open.taken
                us ws one os ∙ h.8 t,
          )
      | else-is_still_open w ↦
          let goes : is_still_open_by c.args.doubt c.args.urgent.now.items
          c.args.waiting.now.items c.args.taken.now c.args.outcomes.now.items (entry_ticket e)
          ≡ false = sym same ∙ grind (arith, common_steps) in (
            grind (arith, common_steps),
            comes-dropped k es e c.loop-line.line c.loop-line.retained at _ _ h.1 _ _ goes
                (grind (arith, common_steps)) w.retained-is,
            comes-dropped k es e c.loop-line.line c.loop-line.retained at _ _ h.2 _ _ goes
                (grind (arith, common_steps)) w.retained-is,
            comes-dropped k es e c.loop-line.line c.loop-line.retained at _ _ h.3 _ _ goes
                (grind (arith, common_steps)) w.retained-is,
            comes-dropped k es e c.loop-line.line c.loop-line.retained at _ _ h.4 _ _ goes
                (grind (arith, common_steps)) w.retained-is,
            grind (arith, common_steps),
            grind (arith, common_steps),
            grind (arith, common_steps),
            λ t. rw (w.urgent-is, w.waiting-is, w.taken-is, w.outcomes-is) (h.8 t),
          )
    ]

pub returns-clause-urgent : goal.returns-clause-urgent
returns-clause-urgent g c = comes-end
    (is_still_open_by c.args.doubt c.args.urgent.now.items c.args.waiting.now.items
    c.args.taken.now c.args.outcomes.now.items) _ c.loop-line.line
    c.loop-line.retained _ _
    (drop_all c.loop-line.line c.args.journal.now.items (grind (arith, common_steps)))
    c.loop-line.invariant.1

pub returns-clause-waiting : goal.returns-clause-waiting
returns-clause-waiting g c = comes-end
    (is_still_open_by c.args.doubt c.args.urgent.now.items c.args.waiting.now.items
    c.args.taken.now c.args.outcomes.now.items) _ c.loop-line.line
    c.loop-line.retained _ _
    (drop_all c.loop-line.line c.args.journal.now.items (grind (arith, common_steps)))
    c.loop-line.invariant.2

pub returns-clause-taken : goal.returns-clause-taken
returns-clause-taken g c = comes-end
    (is_still_open_by c.args.doubt c.args.urgent.now.items c.args.waiting.now.items
    c.args.taken.now c.args.outcomes.now.items) _ c.loop-line.line
    c.loop-line.retained _ _
    (drop_all c.loop-line.line c.args.journal.now.items (grind (arith, common_steps)))
    c.loop-line.invariant.3

pub returns-clause-outcomes : goal.returns-clause-outcomes
returns-clause-outcomes g c = comes-end
    (is_still_open_by c.args.doubt c.args.urgent.now.items c.args.waiting.now.items
    c.args.taken.now c.args.outcomes.now.items) _ c.loop-line.line
    c.loop-line.retained _ _
    (drop_all c.loop-line.line c.args.journal.now.items (grind (arith, common_steps)))
    c.loop-line.invariant.4
