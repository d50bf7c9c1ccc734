-- The clauses of `PortCore::serves_right_device` that the search can't prove.
use Rattle.iol_port.proofs.RightDevices.{right_device}
use Rattle.iol_port.proofs.port_core.PortCore.serves_right_device.Goals as goal

pub returns : goal.returns
returns g c =
    rw (← c.self.view_is)
    (right_device c.self.inside.core.state c.self.inside.core.session c.device_is_right.ensures)
