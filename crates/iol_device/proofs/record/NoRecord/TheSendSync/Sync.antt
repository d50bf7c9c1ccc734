-- An unkept record owns nothing, so any thread may share it.
use denote.Param.Send.{IsSync, part_keyless}
use Rattle.iol_device.specs.contracts.record.NoRecord.{the_row}
use Rattle.iol_device.proofs.record.NoRecord.TheSendSync.Send.{send}

pub sync : IsSync the_row
sync = record { shared = λ d b o κ q. part_keyless the_row send q d b o }
