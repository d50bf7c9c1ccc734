-- The message out stays the session's while a request is begun, and both ends stand together.
use Rattle.std.proofs.lemmas.Grind.{common_steps}
use Rattle.std.proofs.Common.{arith}
use Rattle.iol_app.proofs.Stations.{begun_fits, operate_isdu}
use Rattle.iol_app.proofs.CoreCalls.{begin_steps}
use Rattle.iol_app.proofs.core_data.Core.begin.Goals as goal

pub invariant_of-self : goal.invariant_of-self
invariant_of-self c = grind (arith, common_steps, begun_fits)

pub returns-clause-steps : goal.returns-clause-steps
returns-clause-steps c = grind (arith, common_steps, begin_steps, operate_isdu)
