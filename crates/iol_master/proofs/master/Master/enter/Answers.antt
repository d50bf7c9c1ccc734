-- The clauses of `Master::enter` that the search can't prove.
use Rattle.std.proofs.Common.{inr}
use Rattle.iol_master.proofs.master.Master.enter.Goals as goal

-- src/master.rt:153:5
pub returns-clause-entered : goal.returns-clause-entered
returns-clause-entered g c = inr (
  c.deref_mut.result.now,
  c.deref_mut-2.result.now,
  c.submit.new.self,
  c.submit.new.accounts,
  c.submit.ensures.enters,
)
