-- The clauses of `laws::unsaved_sets_are_whole` that the search can't prove.
use Rattle.iol_storage.proofs.Attempts.{unsaved-whole}
use Rattle.iol_storage.proofs.laws.unsaved_sets_are_whole.Goals as goal

pub returns : goal.returns
returns c = unsaved-whole
