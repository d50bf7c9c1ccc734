-- The clauses of `Draft::takes_param` that the search can't prove.
use Rattle.std.proofs.Common.{arith}
use Rattle.std.proofs.lemmas.Bool.Decides.{nat_tests}
use Rattle.iol_script.proofs.draft.Draft.takes_param.Goals as goal

pub returns-then-len-lt-PARAMS : goal.returns-then-len-lt-PARAMS
returns-then-len-lt-PARAMS g c = grind (arith, nat_tests)
