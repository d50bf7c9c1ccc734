-- The clauses of `laws::stays_consistent` that the search can't prove.
use Rattle.iol_params.proofs.Consistency.{stays-consistent}
use Rattle.iol_params.proofs.laws.stays_consistent.Goals as goal

pub returns : goal.returns
returns c = stays-consistent
