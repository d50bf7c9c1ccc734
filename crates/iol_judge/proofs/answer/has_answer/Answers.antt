-- The clauses of `answer::has_answer` that the search can't prove.
use Rattle.std.proofs.Common.{◌≡◌, ◌+◌, ◌-◌, arith, refl}
use Rattle.iol_judge.specs.Answers.{has_answer}
use Rattle.iol_judge.proofs.answer.has_answer.Goals as goal

pub returns-then-above-most-clause-value : goal.returns-then-above-most-clause-value
unfolding has_answer
returns-then-above-most-clause-value c =
    let same : (c.args.most + 1) - (c.args.above + 1) ≡ c.args.most - c.args.above = omega arith in
    let found = c.has_answer_of.ensures in
    cc

pub returns-else-above-most-clause-value : goal.returns-else-above-most-clause-value
unfolding has_answer
returns-else-above-most-clause-value c =
    let none : c.args.most - c.args.above ≡ 0 = omega arith in
    rw none refl
