-- Both ends stand together as before where the link is taken down.
use Rattle.std.proofs.lemmas.Grind.{common_steps}
use Rattle.std.proofs.Common.{arith}
use Rattle.iol_app.proofs.CoreCalls.{restart_steps_of}
use Rattle.iol_app.proofs.core_data.Core.restart.Goals as goal

pub returns-clause-steps : goal.returns-clause-steps
returns-clause-steps c = grind (arith, common_steps, restart_steps_of)
