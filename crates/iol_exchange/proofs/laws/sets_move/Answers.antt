-- The clauses of `laws::sets_move` that the search can't prove.
use Rattle.iol_exchange.proofs.Fetches.{sets-moved}
use Rattle.iol_exchange.proofs.laws.sets_move.Goals as goal

pub returns : goal.returns
returns c =
    sets-moved c.fetched_sets_are_the_devices.ensures c.restored_sets_are_in_force.ensures
