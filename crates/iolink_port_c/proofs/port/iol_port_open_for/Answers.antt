-- The port is opened for the devices of that number.
use Rattle.std.proofs.Common.{subst, Option}
use Rattle.iol_mode.specs.declared.configuration.Devices.{Devices}
use Rattle.iolink_port_c.specs.Opening.{HandleOpens}
use Rattle.iolink_port_forms.specs.Arguments.{limits_of}
use Rattle.iolink_port_c.proofs.port.iol_port_open_for.Goals as goal

pub returns : goal.returns
returns c = subst (λ (o : Option Devices). HandleOpens o
    (limits_of c.args.journal c.args.busy c.args.queue c.args.given) c.args.handle.now
    c.open_for.result c.open_for.new.handle) c.in-Some.ensures c.open_for.ensures
