-- The clauses of `laws::requests_are_received` that the search can't prove.
use Rattle.iol_far.proofs.Standing.{segment_laws}
use Rattle.iol_far.proofs.laws.requests_are_received.Goals as goal

pub returns : goal.returns
returns c = λ size low. segment_laws size (c.texts_join.ensures size low)
