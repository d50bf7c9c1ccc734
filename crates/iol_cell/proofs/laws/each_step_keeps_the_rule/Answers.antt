-- The clauses of `laws::each_step_keeps_the_rule` that the search can't prove.
use Rattle.iol_cell.proofs.Rule.{reads, publishes, splits, joins}
use Rattle.iol_cell.proofs.laws.each_step_keeps_the_rule.Goals as goal

pub returns : goal.returns
returns c = record { reads = reads; publishes = publishes; splits = splits; joins = joins }
