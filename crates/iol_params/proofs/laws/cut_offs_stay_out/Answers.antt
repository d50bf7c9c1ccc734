-- The clauses of `laws::cut_offs_stay_out` that the search can't prove.
use Rattle.iol_params.proofs.CutOffs.{cut_offs-stay_out}
use Rattle.iol_params.proofs.laws.cut_offs_stay_out.Goals as goal

pub returns : goal.returns
returns c = cut_offs-stay_out
