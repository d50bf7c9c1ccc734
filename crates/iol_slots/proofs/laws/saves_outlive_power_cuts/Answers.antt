-- The clauses of `laws::saves_outlive_power_cuts` that the search can't prove.
use Rattle.iol_slots.proofs.PowerCuts.{outlive}
use Rattle.iol_slots.proofs.laws.saves_outlive_power_cuts.Goals as goal

pub returns : goal.returns
returns c = outlive
