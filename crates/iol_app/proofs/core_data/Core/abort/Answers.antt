-- An abort that waits at the busy limit changes nothing of what is seen, one that the program asks
-- for sets the mark.
use Rattle.std.proofs.lemmas.Grind.{common_steps}
use Rattle.std.proofs.Common.{arith}
use Rattle.iol_app.proofs.CoreCalls.{abort_steps, cancel_steps}
use Rattle.iol_app.proofs.core_data.Core.abort.Goals as goal

pub returns-clause-steps : goal.returns-clause-steps
returns-clause-steps c = grind (arith, common_steps, abort_steps)

pub returns-clause-cancel : goal.returns-clause-cancel
returns-clause-cancel c = grind (arith, common_steps, cancel_steps)
