-- The ghost values that `NoRecord::new` hands to what it calls.
use Rattle.iol_device.specs.Record.{nothing_noted}
use Rattle.iol_device.proofs.record.NoRecord.new.Given as goal

abbrev pub ghost-of : goal.ghost-of
ghost-of a = nothing_noted
