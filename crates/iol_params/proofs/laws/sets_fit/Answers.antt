-- The clauses of `laws::sets_fit` that the search can't prove.
use Rattle.iol_params.proofs.Fitting.{sets-fit}
use Rattle.iol_params.proofs.laws.sets_fit.Goals as goal

pub returns : goal.returns
returns c = sets-fit
