-- The clauses of `stored_trace::traced_by_table` that the search can't prove.
use Rattle.std.proofs.Common.{rules}
use Rattle.iol_stored_commands.proofs.stored_trace.traced_by_table.Goals as goal

pub returns-in-Err-clause-flaw : goal.returns-in-Err-clause-flaw
returns-in-Err-clause-flaw g c = λ why is. record {
  table = record { members = c.deref.result.now; rules = c.deref-2.result.now };
  is_its = record { members = search rules; rules = search rules };
  flaw = search rules;
}
