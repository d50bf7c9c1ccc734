-- What the search can't prove of the body of `Objects::push`.
use Rattle.std.proofs.Common.{◌∙◌, ap, sym, ◌++◌, ◌∷◌, []}
use Rattle.iol_storage.specs.Objects.{fits_behind}
use Rattle.iol_storage.proofs.Spans.{Pushed, pushed, room-is}
use Rattle.iol_storage.proofs.objects.Objects.push.Goals as goal
use Rattle.iol_storage.proofs.objects.Objects.push.Goals.{After-push, Then-not-fits_behind}

after : (c : After-push) → Pushed c.self.inside.spans.items c.push.new.self.items
    c.self.inside.octets.items c.args.octets.now c.try_extend_from_slice.new.self.items
    c.args.place
after c =
    let octets = rw c.unwrap.ensures at c.try_extend_from_slice.ensures.ok in
    let room = sym c.fits_behind.ensures ∙ c.if-not-fits_behind.false in
    pushed c.self.inside.spans.items c.push.new.self.items
    c.self.inside.octets.items c.args.octets.now c.try_extend_from_slice.new.self.items
    c.args.place c.len-from.result c.self.invariant.0 c.push.ensures.items octets
    c.len-from.ensures.value (rw (c.len.ensures.value, c.len-2.ensures.value) at room)

pub invariant_of-self : goal.invariant_of-self
invariant_of-self c = ((after c).spans, (after c).fits)

pub returns-clause-pushed : goal.returns-clause-pushed
returns-clause-pushed c = (after c).objects
    ∙ ap (λ os. os ++ (c.args.place, c.args.octets.now) ∷ []) c.self.view_is

pub returns-clause-room : goal.returns-clause-room
returns-clause-room c = sym c.if-not-fits_behind.false ∙ (c.fits_behind.ensures
    ∙ (rw (c.len.ensures.value, c.len-2.ensures.value)
    (sym (room-is c.self.inside.octets.items c.self.inside.spans.items c.args.octets.now
    c.self.invariant.0)) ∙ ap (λ os. fits_behind os c.args.octets.now) c.self.view_is))

pub returns-then-not-fits_behind-clause-room : goal.returns-then-not-fits_behind-clause-room
returns-then-not-fits_behind-clause-room c = sym c.if-not-fits_behind.true ∙ (c.fits_behind.ensures
    ∙ (rw (c.len.ensures.value, c.len-2.ensures.value)
    (sym (room-is c.self.inside.octets.items c.self.inside.spans.items c.args.octets.now
    c.self.invariant.0)) ∙ ap (λ os. fits_behind os c.args.octets.now) c.self.view_is))
