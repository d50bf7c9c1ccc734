-- What each round of a loop of `Objects::any_owned` keeps.
use Rattle.std.proofs.Common.{◌≡◌, drop}
use Rattle.iol_storage.specs.Objects.{any_owned}
use Rattle.iol_storage.proofs.objects.Objects.any_owned.Given as goal

abbrev pub invariant-loop-index : goal.invariant-loop-index
invariant-loop-index l = any_owned (drop l.index l.self) ≡ any_owned l.self
