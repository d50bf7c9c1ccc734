-- The clauses of `Script::read` that the search can't prove.
use Rattle.std.proofs.Common.{◌≡◌, Ok, Err, fold, rules, arith, ap, ◌∙◌}
use Rattle.std.specs.Result.{result_err}
use Rattle.iol_script.specs.Script.{draft_after, empty_draft}
use Rattle.iol_script.specs.Text.{numbered_lines}
use Rattle.iol_script.specs.declared.fault.ScriptFault.TheVariants.{Line}
use Rattle.iol_script.proofs.LinesRead.{read-bad}
use Rattle.iol_script.proofs.ScriptLemmas.{goods}
use Rattle.iol_script.proofs.script.Script.read.Goals as goal

pub returns-in_err-take-clause-bad_line : goal.returns-in_err-take-clause-bad_line
returns-in_err-take-clause-bad_line g c = λ n e.
    let bad : c.take.result ≡ Err (Line n) = search rules in
    ap result_err (read-bad _ _ c.loop-number.draft _ _ _ n c.loop-number.invariant
    c.in-Some.ensures.steps (c.take.ensures.bad n bad))

pub returns-clause-calls : goal.returns-clause-calls
returns-clause-calls g c =
    let all = goods empty_draft c.loop-number.draft (numbered_lines c.args.input.now)
    (c.loop-number.invariant
    ∙ ap (fold draft_after (Ok c.loop-number.draft)) c.in-None.ensures.steps.0) in
    omega (arith, all.calls, c.finish.ensures.calls)

pub returns-clause-forms : goal.returns-clause-forms
returns-clause-forms g c =
    (goods empty_draft c.loop-number.draft (numbered_lines c.args.input.now)
    (c.loop-number.invariant
    ∙ ap (fold draft_after (Ok c.loop-number.draft)) c.in-None.ensures.steps.0)).forms
