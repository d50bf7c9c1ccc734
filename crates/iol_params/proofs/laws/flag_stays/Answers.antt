-- The clauses of `laws::flag_stays` that the search can't prove.
use Rattle.iol_params.proofs.Flags.{flag-stays}
use Rattle.iol_params.proofs.laws.flag_stays.Goals as goal

pub returns : goal.returns
returns c = flag-stays
