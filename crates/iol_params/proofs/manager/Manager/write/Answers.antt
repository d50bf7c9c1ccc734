-- What the search can't prove of the body of `Manager::write`.
use Rattle.std.proofs.Common.{◌∙◌, sym, ap, arith}
use Rattle.std.proofs.lemmas.Grind.{common_steps}
use Rattle.iol_params.specs.Values.{values_in}
use Rattle.iol_params.specs.Carry.{write_refusal}
use Rattle.iol_params.specs.Manager.{ManagerValue, manager_view}
use Rattle.iol_params.proofs.Consistency.{overlay-fits}
use Rattle.iol_params.proofs.ManagerLemmas.{write-taken}
use Rattle.iol_params.proofs.manager.Manager.write.Goals as goal

pub invariant_of-self-in-Download : goal.invariant_of-self-in-Download
invariant_of-self-in-Download g c =
    let i = c.self.inside in
    let ms = i.table.now.members in
    let place = c.args.place in
    let octets = c.args.octets.now in
    let values = values_in ms i.values.items in
    let refusal = ap (λ (m : ManagerValue). write_refusal m.table m.state place octets)
    (c.self.view_is ∙ c.write_refusal.ensures.state) ∙ sym c.in_default.ensures.value in
    let taken = write-taken i.table.now (manager_view i).state place octets refusal in
    let copy = values_in ms i.copy.items in
    record {
      values_room = c.self.invariant.values_room;
      copy_room = grind (arith, common_steps);
      fit = c.self.invariant.fit;
      copy_fit = λ under.
          let fit = overlay-fits ms copy place octets (c.self.invariant.copy_fit under) taken.0 in
          grind (arith, common_steps, fit);
      consistent = c.self.invariant.consistent;
    }
