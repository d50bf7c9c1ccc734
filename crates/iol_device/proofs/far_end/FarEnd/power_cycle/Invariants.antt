-- The ghost values that `FarEnd::power_cycle` hands to what it calls.
use Rattle.iol_far.specs.History.{history_after_power_cycle}
use Rattle.iol_device.proofs.far_end.FarEnd.power_cycle.Given as goal

abbrev pub ghost-with_history : goal.ghost-with_history
ghost-with_history g a = history_after_power_cycle a.self.now.noted.history
