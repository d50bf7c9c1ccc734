-- The ghost values that `FarEnd::set_input` hands to what it calls.
use Rattle.std.specs.Prelude.{Some}
use Rattle.iol_far.specs.History.{history_after_input}
use Rattle.iol_device.proofs.far_end.FarEnd.set_input.Given as goal

abbrev pub ghost-with_history : goal.ghost-with_history
ghost-with_history g a = history_after_input (Some a.near.now) a.self.now.noted.history
