-- The clauses of `laws::downloads_are_whole` that the search can't prove.
use Rattle.iol_params.proofs.Downloads.{downloads-whole}
use Rattle.iol_params.proofs.laws.downloads_are_whole.Goals as goal

pub returns : goal.returns
returns c = downloads-whole
