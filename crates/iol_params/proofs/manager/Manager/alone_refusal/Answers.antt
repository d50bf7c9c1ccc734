-- What the search can't prove of the body of `Manager::alone_refusal`.
use Rattle.std.proofs.Common.{◌∙◌, ap, arith}
use Rattle.std.proofs.lemmas.Grind.{common_steps}
use Rattle.iol_params.specs.Values.{values_in}
use Rattle.iol_params.specs.Carry.{content_refusal}
use Rattle.iol_params.specs.Manager.{ManagerValue}
use Rattle.iol_params.proofs.Consistency.{overlay-fits}
use Rattle.iol_params.proofs.ManagerLemmas.{content-fits}
use Rattle.iol_params.proofs.manager.Manager.alone_refusal.Goals as goal

pub are_consistent-requires-clause-fit : goal.are_consistent-requires-clause-fit
are_consistent-requires-clause-fit g c =
    let i = c.self.inside in
    let ms = i.table.now.members in
    let place = c.args.place in
    let octets = c.args.octets.now in
    let values = values_in ms i.values.items in
    let content = ap (λ (m : ManagerValue). content_refusal m.table.members place octets)
    c.self.view_is ∙ c.requires in
    let fit = overlay-fits ms values place octets c.self.invariant.fit
    (content-fits ms place octets content) in
    grind (arith, common_steps, fit)
