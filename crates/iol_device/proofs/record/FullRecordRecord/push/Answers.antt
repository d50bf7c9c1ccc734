-- The clauses of `FullRecordRecord::push` that the search can't prove.
use Rattle.std.proofs.Common.{arith}
use Rattle.std.proofs.Math.Seq.{set-append_seam}
use Rattle.std.proofs.lemmas.Grind.{common_steps}
use Rattle.iol_device.proofs.record.FullRecordRecord.push.Goals as goal

pub returns-clause-appended : goal.returns-clause-appended
returns-clause-appended g c = grind (arith, common_steps, set-append_seam)
