-- What the search can't prove of the body of `Manager::put`.
use Rattle.std.proofs.Common.{◌≡◌, ◌∙◌, true, ap, arith}
use Rattle.std.proofs.lemmas.Grind.{common_steps}
use Rattle.iol_params.specs.Values.{values_in, fits_place, overlay}
use Rattle.iol_params.specs.Carry.{is_consistent}
use Rattle.iol_params.specs.Manager.{ManagerValue}
use Rattle.iol_params.proofs.Consistency.{overlay-fits}
use Rattle.iol_params.proofs.manager.Manager.put.Goals as goal

pub invariant_of-self : goal.invariant_of-self
invariant_of-self g c =
    let i = c.self.inside in
    let ms = i.table.now.members in
    let place = c.args.place in
    let octets = c.args.octets.now in
    let values = values_in ms i.values.items in
    let fits : fits_place ms place octets ≡ true = ap (λ (m : ManagerValue).
    fits_place m.table.members place octets) c.self.view_is ∙ c.requires.fits in
    let holds : is_consistent i.table.now (overlay ms values place octets) ≡ true = ap
    (λ (m : ManagerValue). is_consistent m.table
    (overlay m.table.members m.state.values place octets)) c.self.view_is ∙ c.requires.rules in
    let fit = overlay-fits ms values place octets c.self.invariant.fit fits in
    record {
      values_room = grind (arith, common_steps);
      copy_room = c.self.invariant.copy_room;
      fit = grind (arith, common_steps, fit);
      copy_fit = c.self.invariant.copy_fit;
      consistent = grind (arith, common_steps, holds);
    }
