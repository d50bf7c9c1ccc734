-- The check has the parts of the layout.
use Rattle.std.proofs.Common.{◌≡◌, ◌∙◌, ap}
use Rattle.iol_app.specs.Messages.{check}
use Rattle.iol_app.proofs.Sessions.{check_parts}
use Rattle.iol_app.proofs.session.PortSession.miss_confirm.Goals as goal

pub returns-clause-parts : goal.returns-clause-parts
returns-clause-parts c =
    let i = c.self.inside in
    let is : c.check.result ≡ check i.output.carried.items = c.check.ensures
    ∙ ap check (c.part_of.ensures ∙ c.deref.ensures.0) in
    rw (← c.self.view_is, is) (check_parts i.layout i.output c.self.invariant.output)
