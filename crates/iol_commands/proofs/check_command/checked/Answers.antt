-- What the search can't prove of the body of `check_command::checked`.
use Rattle.std.proofs.Common.{◌≡◌, Some, [], refl, sym, ◌∙◌, append-nil}
use Rattle.std.specs.String.{string_bytes}
use Rattle.iol_script.specs.Text.{numbered_lines}
use Rattle.iol_script.specs.CheckLines.{check_form, parsed_form}
use Rattle.iol_commands.proofs.CheckedLemmas.{prints_more}
use Rattle.iol_commands.proofs.check_command.checked.Goals as goal

pub loop-number-preserved : goal.loop-number-preserved
loop-number-preserved g c =
    let form = parsed_form c.in-Some-parse.line in
    let fits : check_form c.in-Some.line.now ≡ Some form = sym c.in-Some-parse.ensures in
    let is = c.in-Some.ensures.steps in
    let answered = c.in_ok-answer.ensures in
    record {
      good = c.loop-number.invariant.good ∙ rw (is, fits);
      front = rw (answered.printed.1, answered.layout) (prints_more
          (numbered_lines c.args.input.now) _ _ _ _ _ form (string_bytes c.loop-number.output) _
          c.loop-number.invariant.front is fits answered.printed.2);
    }

pub returns-clause-printed : goal.returns-clause-printed
returns-clause-printed g c =
    rw append-nil at (c.loop-number.invariant.front [] (rw c.in-None.ensures.steps.0 refl))
