-- The clauses of `Master::leave` that the search can't prove.
use Rattle.std.proofs.Common.{inr}
use Rattle.iol_master.proofs.master.Master.leave.Goals as goal

pub returns-in-Some : goal.returns-in-Some
returns-in-Some g c = inr (
  c.deref_mut.result.now,
  c.leave.new.self,
  rw (← c.tickets.ensures) c.leave.ensures,
)
