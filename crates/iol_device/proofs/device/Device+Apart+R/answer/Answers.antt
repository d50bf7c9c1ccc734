-- What the search can't prove of the body of `Device::answer`.
use Rattle.std.proofs.Common.{arith}
use Rattle.std.proofs.lemmas.Grind.{common_steps}
use Rattle.iol_device.proofs.Following.{follows_more}
use Rattle.iol_device.proofs.device.Device+Apart+R.answer.Goals as goal

pub invariant_of-self : goal.invariant_of-self
invariant_of-self g c = grind (arith, common_steps, follows_more)
