-- The clauses of `answers::encode_answer` that the search can't prove.
use Rattle.iol_isdu.proofs.Texts.{answer_text-spells}
use Rattle.iol_isdu.proofs.answers.encode_answer.Goals as goal

pub returns-clause-spells : goal.returns-clause-spells
returns-clause-spells c = rw (c.text.ensures, c.answer_front.ensures.octets)
    (answer_text-spells _ _ (record { kind = c.requires; fits = c.answer_front.ensures.valid }))
