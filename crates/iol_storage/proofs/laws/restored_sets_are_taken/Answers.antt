-- The clauses of `laws::restored_sets_are_taken` that the search can't prove.
use Rattle.iol_storage.proofs.Attempts.{restored-taken}
use Rattle.iol_storage.proofs.laws.restored_sets_are_taken.Goals as goal

pub returns : goal.returns
returns c = restored-taken
