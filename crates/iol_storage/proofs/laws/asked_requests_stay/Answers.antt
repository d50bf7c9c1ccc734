-- The clauses of `laws::asked_requests_stay` that the search can't prove.
use Rattle.iol_storage.proofs.StoredStories.{asked_requests_stay}
use Rattle.iol_storage.proofs.laws.asked_requests_stay.Goals as goal

pub returns : goal.returns
returns c = asked_requests_stay
