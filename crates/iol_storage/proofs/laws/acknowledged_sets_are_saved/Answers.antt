-- The clauses of `laws::acknowledged_sets_are_saved` that the search can't prove.
use Rattle.iol_storage.proofs.AttemptAsks.{acknowledged-saved}
use Rattle.iol_storage.proofs.laws.acknowledged_sets_are_saved.Goals as goal

pub returns : goal.returns
returns c = acknowledged-saved
