-- The clauses of `laws::restored_sets_are_in_force` that the search can't prove.
use Rattle.iol_exchange.proofs.Restores.{sets-in-force}
use Rattle.iol_exchange.proofs.laws.restored_sets_are_in_force.Goals as goal

pub returns : goal.returns
returns c = sets-in-force c.sets_fit.ensures
