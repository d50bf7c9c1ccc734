-- What each round of a loop of `image::store_all` keeps.
use Rattle.std.proofs.Common.{◌≡◌, ◌≤◌, ◌+◌, length, take}
use Rattle.iol_slots.specs.Memory.{slot_octets, after_stores, AreStored, stores_of}
use Rattle.iol_slots.proofs.image.store_all.Given as goal

abbrev pub invariant-loop-octet : goal.invariant-loop-octet
invariant-loop-octet g l = record {
  place : l.at ≡ l.from + l.octet-index;
  room : l.from + length l.octets
      ≤ length (slot_octets (g.S.Slots.memory l.slots) l.slot);
  stores : AreStored g.S.Slots.store_gives l.initial.slots
      (stores_of l.slot l.from (take l.octet-index l.octets)) l.slots;
  holds : g.S.Slots.memory l.slots ≡ after_stores (g.S.Slots.memory l.initial.slots)
      (stores_of l.slot l.from (take l.octet-index l.octets));
}
