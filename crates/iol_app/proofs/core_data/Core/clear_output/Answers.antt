-- Both ends stand together as before where no output is wanted.
use Rattle.std.proofs.Common.{rules, None}
use Rattle.iol_app.proofs.CoreCalls.{want_steps}
use Rattle.iol_app.proofs.core_data.Core.clear_output.Goals as goal

pub returns-clause-steps : goal.returns-clause-steps
returns-clause-steps c =
    want_steps None c.args.self.now _ tt (search rules)
