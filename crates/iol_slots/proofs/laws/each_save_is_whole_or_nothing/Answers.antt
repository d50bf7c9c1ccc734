-- The clauses of `laws::each_save_is_whole_or_nothing` that the search can't prove.
use Rattle.iol_slots.proofs.PowerCuts.{whole-or-nothing}
use Rattle.iol_slots.proofs.laws.each_save_is_whole_or_nothing.Goals as goal

pub returns : goal.returns
returns c = whole-or-nothing
