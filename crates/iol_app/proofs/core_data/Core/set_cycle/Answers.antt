-- Both ends stand together as before where start-ups ask something else of the device.
use Rattle.std.proofs.Common.{rules, refl}
use Rattle.iol_app.proofs.CoreCalls.{ask_steps}
use Rattle.iol_app.proofs.core_data.Core.set_cycle.Goals as goal

pub returns-clause-steps : goal.returns-clause-steps
returns-clause-steps c =
    ask_steps (record c.args.self.now.session.configuration { cycle = c.args.cycle })
    c.args.self.now _ refl (search rules)
