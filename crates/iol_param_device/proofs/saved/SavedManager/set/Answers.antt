-- What the search can't prove of the body of `SavedManager::set`.
use Rattle.std.proofs.Common.{◌∙◌, ap}
use Rattle.iol_params.specs.State.{ParamState}
use Rattle.iol_param_device.proofs.Saving.{local_refused, same-saved}
use Rattle.iol_param_device.proofs.saved.SavedManager.set.Goals as goal

pub invariant_of-self : goal.invariant_of-self
invariant_of-self g c =
    let i = c.self.inside in
    let same = local_refused i.manager.table i.manager.state c.args.place c.args.octets.now
    c.in_err-set.field-0.0 c.in_err-set.ensures.refusal in
    same-saved g.S.Slots.memory i.manager c.set.new.self i.slots i.image.items
    c.self.invariant
    (c.set.ensures.state ∙ ap (λ (s : ParamState). record i.manager { state = s }) same)
