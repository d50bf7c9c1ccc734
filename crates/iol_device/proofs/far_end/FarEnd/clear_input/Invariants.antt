-- The ghost values that `FarEnd::clear_input` hands to what it calls.
use Rattle.std.specs.Prelude.{None}
use Rattle.iol_far.specs.History.{history_after_input}
use Rattle.iol_device.proofs.far_end.FarEnd.clear_input.Given as goal

abbrev pub ghost-with_history : goal.ghost-with_history
ghost-with_history g a = history_after_input None a.self.now.noted.history
