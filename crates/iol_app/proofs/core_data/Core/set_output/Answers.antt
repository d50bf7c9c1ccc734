-- Both ends stand together as before where another output is wanted.
use Rattle.std.proofs.Common.{rules, Some, Result, Ok, Err}
use Rattle.std.specs.Prelude.{OnOk}
use Rattle.iol_app.proofs.CoreCalls.{want_steps}
use Rattle.iol_app.proofs.core_data.Core.set_output.Goals as goal

both_ok : {A E : Type 0} (P Q R : Type 0) (result : Result A E) → (P → Q → R) → OnOk result P
    → OnOk result Q → OnOk result R
both_ok P Q R (Ok value) h p q = h p q
both_ok P Q R (Err fault) h p q = tt

pub returns-clause-steps : goal.returns-clause-steps
returns-clause-steps c =
    both_ok _ _ _ c.set_output.result
    (λ e image. want_steps (Some c.args.image.now) c.args.self.now _ image (search rules))
    c.set_output.ensures.ok c.set_output.ensures.image
