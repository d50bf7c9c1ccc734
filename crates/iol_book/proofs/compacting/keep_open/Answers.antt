-- What the search can't prove of the body of `compacting::keep_open`.
use Rattle.std.proofs.Common.{◌≡◌, ◌∙◌, Bool, arith, false, true}
use Rattle.std.proofs.lemmas.Grind.{common_steps}
use Rattle.iol_book.specs.declared.entries.Entry.{Entry}
use Rattle.iol_book.specs.Lines.{entry_ticket, is_still_open_by}
use Rattle.iol_book.proofs.JournalLemmas.{drop-at, room-left, room-skipped, octets-left, octets-skipped, octets-next, filter-retained, filter-skipped}
use Rattle.iol_book.proofs.compacting.keep_open.Goals.{then-is_still_open, else-is_still_open}
use Rattle.iol_book.proofs.compacting.keep_open.Goals as goal

pub push-requires-clause-octets : goal.push-requires-clause-octets
push-requires-clause-octets g c = λ most.
    let h = c.loop-place.invariant in
    let is = c.entry_at-entry.ensures c.entry_at-entry.result in
    let rest = drop-at c.args.list.now.items c.loop-place.place c.entry_at-entry.result
    (grind (arith, common_steps)) is in
    octets-next _ _ _ _ _ h.4 rest

pub loop-place-preserved : goal.loop-place-preserved
loop-place-preserved g c =
    let h = c.loop-place.invariant in
    let is = c.entry_at-entry.ensures c.entry_at-entry.result in
    let rest = drop-at c.args.list.now.items c.loop-place.place c.entry_at-entry.result
    (grind (arith, common_steps)) is in
    let is_retained : Entry → Bool = λ e. is_still_open_by c.args.doubt c.args.urgent.now.items
    c.args.waiting.now.items c.args.taken c.args.outcomes.now (entry_ticket e) in
    elim c.if-is_still_open.branch [
      | then-is_still_open w ↦
          let stays : is_retained c.entry_at-entry.result ≡ true = grind (arith, common_steps) in (
            rw (w.journal-is, w.push.ensures.items)
                (filter-retained is_retained _ _ _ _ rest stays ∙ h.0),
            rw w.journal-is (w.push.ensures.places.entries ∙ h.1),
            rw w.journal-is (w.push.ensures.places.octets ∙ h.2),
            rw (w.journal-is, w.push.ensures.items, w.push.ensures.places.entries)
                (room-left _ _ _ _ _ h.3 rest),
            rw (w.journal-is, w.push.ensures.items, w.push.ensures.places.octets)
                (octets-left _ _ _ _ _ h.4 rest),
          )
      | else-is_still_open w ↦
          let over : is_retained c.entry_at-entry.result ≡ false = grind (arith, common_steps) in (
            rw w.journal-is (filter-skipped is_retained _ _ _ _ rest over ∙ h.0),
            rw w.journal-is h.1,
            rw w.journal-is h.2,
            rw w.journal-is (room-skipped _ _ _ _ _ h.3 rest),
            rw w.journal-is (octets-skipped _ _ _ _ _ h.4 rest),
          )
    ]
