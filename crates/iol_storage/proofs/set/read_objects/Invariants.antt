-- What each round of a loop of `set::read_objects` keeps.
use Rattle.std.proofs.Common.{◌≡◌, ◌++◌, length}
use Rattle.iol_storage.specs.Sets.{objects_image}
use Rattle.iol_storage.proofs.set.read_objects.Given as goal

abbrev pub invariant-loop-rest : goal.invariant-loop-rest
invariant-loop-rest l = objects_image l.objects ++ l.rest ≡ l.image

abbrev pub decreases-loop-rest : goal.decreases-loop-rest
decreases-loop-rest l = length l.rest
