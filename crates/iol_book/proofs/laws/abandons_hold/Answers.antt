-- The clauses of `laws::abandons_hold` that the search can't prove.
use Rattle.iol_book.proofs.AbandonLemmas.{abandons_hold}
use Rattle.iol_book.proofs.laws.abandons_hold.Goals as goal

pub returns : goal.returns
returns g = abandons_hold
