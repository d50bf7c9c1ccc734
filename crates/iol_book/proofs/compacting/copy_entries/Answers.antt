-- What the search can't prove of the body of `compacting::copy_entries`.
use Rattle.std.proofs.Common.{◌∙◌, arith, refl, sym}
use Rattle.std.proofs.lemmas.Grind.{common_steps}
use Rattle.std.proofs.lemmas.List.{append_assoc, append-nil}
use Rattle.iol_book.proofs.JournalLemmas.{drop-at, take-at, room-left, octets-left, octets-next}
use Rattle.iol_book.proofs.compacting.copy_entries.Goals as goal

pub loop-place-init : goal.loop-place-init
loop-place-init g c = (
  sym (append-nil c.args.list.now.items),
  refl,
  refl,
  c.requires.entries_fit,
  c.requires.octets_fit,
)

pub push-requires-clause-octets : goal.push-requires-clause-octets
push-requires-clause-octets g c = λ most.
    let h = c.loop-place.invariant in
    let is = c.entry_at.ensures c.entry_at.result in
    let rest = drop-at c.args.journal.now.items c.loop-place.place c.entry_at.result
    (grind (arith, common_steps)) is in
    octets-next _ _ _ _ _ h.4 rest

pub loop-place-preserved : goal.loop-place-preserved
loop-place-preserved g c =
    let h = c.loop-place.invariant in
    let is = c.entry_at.ensures c.entry_at.result in
    let rest = drop-at c.args.journal.now.items c.loop-place.place c.entry_at.result
    (grind (arith, common_steps)) is in
    let more = take-at c.args.journal.now.items c.loop-place.place c.entry_at.result
    (grind (arith, common_steps)) is in (
      rw (c.push.ensures.items, h.0, more) (append_assoc c.args.list.now.items _ _),
      c.push.ensures.places.entries ∙ h.1,
      c.push.ensures.places.octets ∙ h.2,
      rw (c.push.ensures.items, c.push.ensures.places.entries) (room-left _ _ _ _ _ h.3 rest),
      rw (c.push.ensures.items, c.push.ensures.places.octets) (octets-left _ _ _ _ _ h.4 rest),
    )
