-- What the search can't prove of the body of `Plan::read`.
use Rattle.std.proofs.Common.{◌≡◌, Ok, Err, length, inl, refl, ap, arith, rules}
use Rattle.iol_script.specs.Plan.{plan_draft_after, whole_plan}
use Rattle.iol_script.specs.Text.{line_read}
use Rattle.iol_script.proofs.LinesRead.{read-bad}
use Rattle.iol_script.proofs.PlanLemmas.{few_lines}
use Rattle.iol_script.proofs.plan.Plan.read.Goals as goal

pub returns-in_default-clause-bad_line : goal.returns-in_default-clause-bad_line
returns-in_default-clause-bad_line c =
    let number = c.in-Some.number in
    let bad : line_read plan_draft_after (Ok c.loop-number.draft) (number, c.in-Some.line.now)
    ≡ Err number =
    search rules in (
      number,
      refl,
      ap (whole_plan _) (read-bad plan_draft_after _ c.loop-number.draft _ _ _ number
          c.loop-number.invariant.1 c.in-Some.ensures.steps bad),
    )

pub count-requires-clause-fits : goal.count-requires-clause-fits
count-requires-clause-fits c =
    inl (omega (arith, few_lines c.args.input.now, ap length c.of.ensures))

pub overflow_add-result : goal.overflow_add-result
overflow_add-result c =
    omega (arith, few_lines c.args.input.now, c.count.ensures.bound, ap length c.of.ensures)
