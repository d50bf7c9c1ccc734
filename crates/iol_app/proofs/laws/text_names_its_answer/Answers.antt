-- The clauses of `laws::text_names_its_answer` that the search can't prove.
use Rattle.iol_app.proofs.AnswerTexts.{text_names}
use Rattle.iol_app.proofs.laws.text_names_its_answer.Goals as goal

-- src/laws.rt
pub returns : goal.returns
returns c = text_names c.one_text_in_front.ensures.answer c.one_text_each.ensures.answer
