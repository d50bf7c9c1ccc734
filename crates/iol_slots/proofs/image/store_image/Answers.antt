-- What the search can't prove of the body of `image::store_image`.
use Rattle.std.proofs.Common.{arith, ◌+◌, length}
use Rattle.iol_slots.specs.Memory.{stores_of}
use Rattle.iol_slots.proofs.Stores.{after-room, image-stored, image-after, marks}
use Rattle.iol_slots.proofs.image.store_image.Goals as goal

pub store_all-requires-2-clause-room : goal.store_all-requires-2-clause-room
store_all-requires-2-clause-room g c =
    let memory = g.S.Slots.memory in
    let slot = c.args.slot in
    let content = c.args.content.now in
    let first = after-room (memory c.args.slots.now) (memory c.store_all.new.slots)
    (stores_of slot 0 (marks slot c.args.mark content)) slot (length content + 2)
    c.store_all.ensures.holds c.requires.room in
    omega (arith, first)

pub store_all-requires-3-clause-room : goal.store_all-requires-3-clause-room
store_all-requires-3-clause-room g c =
    let memory = g.S.Slots.memory in
    let slot = c.args.slot in
    let content = c.args.content.now in
    let first = after-room (memory c.args.slots.now) (memory c.store_all.new.slots)
    (stores_of slot 0 (marks slot c.args.mark content)) slot (length content + 2)
    c.store_all.ensures.holds c.requires.room in
    let second = after-room (memory c.store_all.new.slots) (memory c.store_all-2.new.slots)
    (stores_of slot 1 content) slot (length content + 2) c.store_all-2.ensures.holds first in
    omega (arith, second)

pub returns-clause-stores : goal.returns-clause-stores
returns-clause-stores g c =
    image-stored c.args.slot c.args.mark c.args.content.now g.S.Slots.store_gives
    c.args.slots.now c.store_all.new.slots c.store_all-2.new.slots c.store_all-3.new.slots
    c.store_all.ensures.stores c.store_all-2.ensures.stores c.store_all-3.ensures.stores

pub returns-clause-holds : goal.returns-clause-holds
returns-clause-holds g c =
    let memory = g.S.Slots.memory in
    image-after c.args.slot c.args.mark c.args.content.now (memory c.args.slots.now)
    (memory c.store_all.new.slots) (memory c.store_all-2.new.slots)
    (memory c.store_all-3.new.slots) c.store_all.ensures.holds c.store_all-2.ensures.holds
    c.store_all-3.ensures.holds
