-- The clauses of `laws::attempts_ask_no_more` that the search can't prove.
use Rattle.iol_storage.proofs.AttemptAsks.{asks-no-more}
use Rattle.iol_storage.proofs.laws.attempts_ask_no_more.Goals as goal

pub returns : goal.returns
returns c = asks-no-more
