-- The clauses of `laws::cut_changes_are_whole` that the search can't prove.
use Rattle.iol_param_device.proofs.Saving.{cut-whole}
use Rattle.iol_param_device.proofs.laws.cut_changes_are_whole.Goals as goal

pub returns : goal.returns
returns c = cut-whole c.each_save_is_whole_or_nothing.ensures
