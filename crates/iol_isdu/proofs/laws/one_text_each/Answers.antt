-- The clauses of `laws::one_text_each` that the search can't prove.
use Rattle.std.proofs.Common.{subst, sym}
use Rattle.iol_isdu.specs.Texts.{request_text, answer_text}
use Rattle.iol_isdu.specs.Requests.{IsShortText}
use Rattle.iol_isdu.specs.Answers.{IsAnswerText}
use Rattle.iol_isdu.proofs.FrameTexts.{alone}
use Rattle.iol_isdu.proofs.RequestTexts.{requests}
use Rattle.iol_isdu.proofs.AnswerTexts.{answers}
use Rattle.iol_isdu.proofs.Texts.{request_text-spells, answer_text-spells, short_text-is, answer_text-is}
use Rattle.iol_isdu.proofs.Parse.{request_of-text}
use Rattle.iol_isdu.proofs.laws.one_text_each.Goals as goal

pub returns-clause-request : goal.returns-clause-request
returns-clause-request c = λ r h text. (
  short_text-is r text,
  λ e. subst (IsShortText r) (sym e) (request_text-spells r h),
)

pub returns-clause-answer : goal.returns-clause-answer
returns-clause-answer c = λ read a h text. (
  answer_text-is read a text,
  λ e. subst (IsAnswerText read a) (sym e) (answer_text-spells read a h),
)

pub returns-clause-request_length : goal.returns-clause-request_length
returns-clause-request_length c = λ r h.
    (alone requests r (request_text r) (_, request_text-spells r h)).0

pub returns-clause-answer_length : goal.returns-clause-answer_length
returns-clause-answer_length c = λ read a h.
    (alone (answers read) a (answer_text read a) (answer_text-spells read a h)).0

pub returns-clause-found : goal.returns-clause-found
returns-clause-found c = request_of-text

pub returns-clause-accepted : goal.returns-clause-accepted
returns-clause-accepted c = λ read a h.
    (alone (answers read) a (answer_text read a) (answer_text-spells read a h)).1
