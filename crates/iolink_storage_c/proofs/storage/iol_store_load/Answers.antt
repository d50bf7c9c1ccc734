-- The set that is kept is the one that was read.
use Rattle.std.proofs.Common.{rules, Some}
use Rattle.iolink_storage_c.proofs.storage.iol_store_load.Goals as goal

pub returns-clause-loads : goal.returns-clause-loads
returns-clause-loads c = λ opened. record {
  set = Some c.in-Ok.set;
  read = search rules;
  none = search rules;
  loads = search rules;
}
