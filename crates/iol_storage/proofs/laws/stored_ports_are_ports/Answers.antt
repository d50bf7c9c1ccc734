-- The clauses of `laws::stored_ports_are_ports` that the search can't prove.
use Rattle.iol_storage.proofs.StoredRuns.{moves_are_runs}
use Rattle.iol_storage.proofs.laws.stored_ports_are_ports.Goals as goal

pub returns-clause-runs : goal.returns-clause-runs
returns-clause-runs c = moves_are_runs
