-- The clauses of `answers::answer_into` that the search can't prove.
use Rattle.std.proofs.lemmas.Result.{on_ok_weaker}
use Rattle.iol_isdu.specs.Answers.{BeginsWithAnswer}
use Rattle.iol_isdu.proofs.FrameTexts.{only, text_at-rest}
use Rattle.iol_isdu.proofs.AnswerTexts.{answers}
use Rattle.iol_isdu.proofs.answers.answer_into.Goals as goal

pub returns-clause-found : goal.returns-clause-found
returns-clause-found c = rw (← c.is_read.ensures)
    (on_ok_weaker {Q = BeginsWithAnswer _ _ _} _ (λ spells. record {
      text = _;
      rest = _;
      spells = spells;
      whole = text_at-rest c.args.octets.now;
    }) c.put_answer_to.ensures.found)

pub returns-clause-only : goal.returns-clause-only
returns-clause-only c = rw (← c.is_read.ensures)
    (λ a b. only (answers c.is_read.result) c.args.octets.now _ c.put_answer_to.new.into
    c.put_answer_to.ensures.refused c.put_answer_to.ensures.found a b.text b.rest b.spells b.whole)
