-- The clauses of `laws::fetched_sets_are_the_devices` that the search can't prove.
use Rattle.iol_exchange.proofs.Fetches.{sets-fetched}
use Rattle.iol_exchange.proofs.laws.fetched_sets_are_the_devices.Goals as goal

pub returns : goal.returns
returns c = sets-fetched
