-- The clauses of `laws::blocks_are_whole` that the search can't prove.
use Rattle.iol_storage.proofs.StoredStories.{blocks_are_whole}
use Rattle.iol_storage.proofs.laws.blocks_are_whole.Goals as goal

pub returns : goal.returns
returns c = blocks_are_whole
