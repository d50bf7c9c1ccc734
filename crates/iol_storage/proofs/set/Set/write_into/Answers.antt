-- What the search can't prove of the body of `Set::write_into`.
use Rattle.std.proofs.Common.{◌∙◌, ◌++◌, ap, sym, arith}
use Rattle.std.specs.Option.{option_map}
use Rattle.iol_storage.proofs.Sets.{header-image, image-room, image-length, next-image}
use Rattle.iol_storage.proofs.set.Set.write_into.Goals as goal

pub loop-index-preserved : goal.loop-index-preserved
loop-index-preserved c =
    let o = c.unwrap-in-loop-index.result in
    let found = sym c.get.ensures.value
    ∙ ap (option_map (λ x. (x.place, x.octets.now))) c.unwrap-in-loop-index.ensures in
    let next = next-image c.args.self.now.objects c.loop-index.index (o.place, o.octets.now)
    c.loop-index.image.items c.write_object.new.image.items _ found c.loop-index.invariant.items
    c.loop-index.invariant.size c.write_object.ensures in
    record { items = next.0; size = next.1 }

pub write_object-requires-clause-room : goal.write_object-requires-clause-room
write_object-requires-clause-room c =
    let o = c.unwrap-in-loop-index.result in
    let found = sym c.get.ensures.value
    ∙ ap (option_map (λ x. (x.place, x.octets.now))) c.unwrap-in-loop-index.ensures in
    let room = image-room c.args.self.now.objects c.loop-index.index (o.place, o.octets.now)
    found in
    omega (
      arith,
      room,
      c.loop-index.invariant.size,
      image-length c.args.self.now.objects,
      c.are_few.ensures,
    )

pub loop-index-init : goal.loop-index-init
loop-index-init c =
    let own = c.args.self.now in
    let first = rw c.unwrap.ensures at c.try_extend_from_slice.ensures.ok in
    let second = rw c.unwrap-2.ensures at c.try_extend_from_slice-2.ensures.ok in
    let third = rw c.unwrap-3.ensures at c.try_extend_from_slice-3.ensures.ok in
    let header = header-image own.checksum own.device own.unit.items
    c.try_extend_from_slice.new.self.items c.try_extend_from_slice-2.new.self.items
    c.try_extend_from_slice-3.new.self.items c.write_unit.new.image.items
    (omega arith) (omega arith) (first ∙ ap (λ x. x ++ own.checksum) c.clear.ensures) second
    third c.write_unit.ensures.written c.write_unit.ensures.short in
    record { items = header.0; size = header.1 }
