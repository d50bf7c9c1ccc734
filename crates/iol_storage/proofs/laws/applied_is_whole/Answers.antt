-- The clauses of `laws::applied_is_whole` that the search can't prove.
use Rattle.iol_storage.proofs.Downloads.{applied-whole}
use Rattle.iol_storage.proofs.laws.applied_is_whole.Goals as goal

pub returns : goal.returns
returns c = applied-whole
