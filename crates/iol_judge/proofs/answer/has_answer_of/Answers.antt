-- What the search can't prove of the body of `answer::has_answer_of`.
use Rattle.std.proofs.Common.{arith, sym}
use Rattle.iol_judge.specs.Answers.{is_some_answer}
use Rattle.iol_judge.proofs.Known.{any_here, any_later, any_none}
use Rattle.iol_judge.proofs.answer.has_answer_of.Goals as goal

pub loop-total-preserved : goal.loop-total-preserved
loop-total-preserved c =
    any_later (is_some_answer c.args.look c.args.read c.args.octets.now) c.loop-total.total
    c.args.end _ (omega arith) (sym c.if-is_some_answer.ensures) c.loop-total.invariant

pub returns-then-is_some_answer : goal.returns-then-is_some_answer
returns-then-is_some_answer c =
    any_here (is_some_answer c.args.look c.args.read c.args.octets.now) c.loop-total.total
    c.args.end _ (omega arith) (sym c.if-is_some_answer.ensures) c.loop-total.invariant

pub returns : goal.returns
returns c = any_none (is_some_answer c.args.look c.args.read c.args.octets.now) c.loop-total.total
    c.args.end _ (omega arith) c.loop-total.invariant
