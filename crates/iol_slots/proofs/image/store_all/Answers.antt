-- What the search can't prove of the body of `image::store_all`.
use Rattle.std.proofs.Common.{arith, ◌+◌, length}
use Rattle.iol_slots.proofs.Stores.{step-stores, step-holds, step-room, store_at}
use Rattle.iol_slots.proofs.image.store_all.Goals as goal

pub loop-octet-preserved : goal.loop-octet-preserved
loop-octet-preserved g c =
    let slot = c.args.slot in
    let from = c.args.from in
    let i = c.loop-octet.octet-index in
    let at = c.loop-octet.at in
    let octets = c.args.octets.now in
    let within = c.loop-octet-test.true in
    let place = c.loop-octet.invariant.place in
    let memory = g.S.Slots.memory in
    let old = c.args.slots.now in
    let mid = c.loop-octet.slots in
    let new = c.store.new.self in
    record {
      place = omega (arith, place);
      room = step-room (memory mid) (memory new) (store_at slot from i at octets within place at)
          slot (from + length octets) c.store.ensures.holds c.loop-octet.invariant.room;
      stores = step-stores slot from i at octets within place g.S.Slots.store_gives old mid new
          c.loop-octet.invariant.stores c.store.ensures.gives;
      holds = step-holds slot from i at octets within place (memory old) (memory mid)
          (memory new) c.loop-octet.invariant.holds c.store.ensures.holds;
    }
