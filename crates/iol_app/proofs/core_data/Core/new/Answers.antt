-- A core that is made stands with every device.
use Rattle.std.proofs.Common.{rules}
use Rattle.iol_app.proofs.CoreCalls.{new_steps}
use Rattle.iol_app.proofs.core_data.Core.new.Goals as goal

pub returns-clause-steps : goal.returns-clause-steps
returns-clause-steps c = new_steps c.args.devices c.args.busy _ (search rules)
