-- The clauses of `laws::sets_are_whole` that the search can't prove.
use Rattle.iol_storage.proofs.Uploads.{sets-whole}
use Rattle.iol_storage.proofs.laws.sets_are_whole.Goals as goal

pub returns : goal.returns
returns c = sets-whole
