-- The clauses of `SavedManager::power_cycle` that the search can't prove.
use Rattle.iol_param_device.proofs.Saving.{cycled}
use Rattle.iol_param_device.proofs.saved.SavedManager.power_cycle.Goals as goal

pub returns : goal.returns
returns g c =
    let i = c.self.inside in
    cycled g.S.Slots.memory i.manager c.restart.new.manager i.slots c.args.self.now
    c.self.view_is c.self.invariant.saved c.restart.ensures.manager
