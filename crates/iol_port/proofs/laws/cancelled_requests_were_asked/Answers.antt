-- The clauses of `laws::cancelled_requests_were_asked` that the search can't prove.
use Rattle.iol_port.proofs.AskedLemmas.{cancelled_was_asked, asked_by_cancel}
use Rattle.iol_port.proofs.laws.cancelled_requests_were_asked.Goals as goal

pub returns : goal.returns
returns c = record { turns = cancelled_was_asked; marks = asked_by_cancel }
