-- The clauses of `laws::uploads_are_one_moment` that the search can't prove.
use Rattle.iol_params.proofs.Downloads.{uploads-one_moment}
use Rattle.iol_params.proofs.laws.uploads_are_one_moment.Goals as goal

pub returns : goal.returns
returns c = uploads-one_moment
