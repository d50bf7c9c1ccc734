-- The clauses of `Core::may_deny` that the search can't prove.
use Rattle.iol_app.proofs.CoreCalls.{deny_steps}
use Rattle.iol_app.proofs.core_data.Core.may_deny.Goals as goal

pub returns : goal.returns
returns c =
    record { steps = deny_steps c.args.self.now c.requires.operate c.requires.free c.requires.isdu }
