-- What a device expects is what its end of the line awaits.
use Rattle.std.proofs.Common.{rules}
use Rattle.iol_device.proofs.Awaited.{whole}
use Rattle.iol_device.proofs.device.Device.expects.Goals as goal

pub returns-clause-whole : goal.returns-clause-whole
returns-clause-whole g c =
    whole c.args.self.now.far c.args.begun.now c.awaited_length.result (search rules)
