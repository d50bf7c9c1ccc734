-- What each round of a loop of `Plan::read` keeps.
use Rattle.std.proofs.Common.{◌≡◌, Ok, fold}
use Rattle.iol_script.specs.Plan.{plan_draft_after, IsPlanned}
use Rattle.iol_script.specs.Text.{numbered_lines, lines_left, line_read}
use Rattle.iol_script.specs.declared.plan_draft.PlanDraft.TheVariants.{Empty}
use Rattle.iol_script.proofs.plan.Plan.read.Given as goal

abbrev pub invariant-loop-number : goal.invariant-loop-number
invariant-loop-number l =
    IsPlanned l.draft
    × (fold (line_read plan_draft_after) (Ok Empty) (numbered_lines l.input)
    ≡ fold (line_read plan_draft_after) (Ok l.draft) (lines_left l.number-iterator))
