-- What is carried out without anything to be saved leaves what outlives the power as it was.
use Rattle.std.proofs.Common.{rules}
use Rattle.iolink_params_c.proofs.Keeping.{worked_keeps}
use Rattle.iolink_params_c.proofs.sensor.ParamSensor.work.Goals as goal

pub returns-then-is_nothing-clause-lasting : goal.returns-then-is_nothing-clause-lasting
returns-then-is_nothing-clause-lasting c =
    worked_keeps c.args.self.now c.tell_event.new.self (search rules)
