-- What each round of a loop of `Set::write_into` keeps.
use Rattle.std.proofs.Common.{◌≡◌, ◌≤◌, ◌+◌, ◌++◌, length, take}
use Rattle.iol_storage.specs.Sets.{set_header, objects_image}
use Rattle.iol_storage.proofs.set.Set.write_into.Given as goal

abbrev pub invariant-loop-index : goal.invariant-loop-index
invariant-loop-index l = record {
  items : l.image.items ≡ set_header l.self ++ objects_image (take l.index l.self.objects);
  size : length l.image.items ≤ 31 + length (objects_image (take l.index l.self.objects));
}
