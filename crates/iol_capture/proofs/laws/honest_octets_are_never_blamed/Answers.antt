-- The clauses of `laws::honest_octets_are_never_blamed` that the search can't prove.
use Rattle.iol_capture.proofs.OctetLemmas.{octet_texts}
use Rattle.iol_capture.proofs.laws.honest_octets_are_never_blamed.Goals as goal

pub returns : goal.returns
returns c = octet_texts c.octets_are_never_blamed.ensures
