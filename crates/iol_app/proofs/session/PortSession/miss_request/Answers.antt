-- The question has the parts of the layout.
use Rattle.std.proofs.Common.{◌≡◌, ◌∙◌, ap}
use Rattle.iol_app.specs.Messages.{question}
use Rattle.iol_app.proofs.Sessions.{question_parts}
use Rattle.iol_app.proofs.session.PortSession.miss_request.Goals as goal

pub returns-clause-parts : goal.returns-clause-parts
returns-clause-parts c =
    let i = c.self.inside in
    let is : c.question.result ≡ question i.output.carried.items = c.question.ensures
    ∙ ap question (c.part_of.ensures ∙ c.deref.ensures.0) in
    rw (← c.self.view_is, is) (question_parts i.layout i.output c.self.invariant.output)
