-- The clauses of `laws::others_are_cut_off` that the search can't prove.
use Rattle.iol_storage.proofs.Downloads.{others-cut}
use Rattle.iol_storage.proofs.laws.others_are_cut_off.Goals as goal

pub returns : goal.returns
returns c = others-cut
