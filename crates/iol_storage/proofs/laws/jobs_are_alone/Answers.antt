-- The clauses of `laws::jobs_are_alone` that the search can't prove.
use Rattle.iol_storage.proofs.StoredSteps.{jobs_are_alone}
use Rattle.iol_storage.proofs.laws.jobs_are_alone.Goals as goal

pub returns : goal.returns
returns c = jobs_are_alone
