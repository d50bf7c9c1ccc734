-- What the search can't prove of the body of `Manager::reset`.
use Rattle.std.proofs.Common.{arith}
use Rattle.std.proofs.lemmas.Grind.{common_steps}
use Rattle.iol_params.specs.Values.{values_in}
use Rattle.iol_params.proofs.Consistency.{reset-fits}
use Rattle.iol_params.proofs.manager.Manager.reset.Goals as goal

pub invariant_of-self : goal.invariant_of-self
invariant_of-self g c =
    let i = c.self.inside in
    let ms = i.table.now.members in
    let values = values_in ms i.values.items in
    let fit = reset-fits ms values c.is_sound.ensures.fit c.self.invariant.fit in
    let holds = c.is_sound.ensures.resets values c.self.invariant.fit in
    record {
      values_room = grind (arith, common_steps);
      copy_room = c.self.invariant.copy_room;
      fit = grind (arith, common_steps, fit);
      copy_fit = c.self.invariant.copy_fit;
      consistent = grind (arith, common_steps, holds);
    }
