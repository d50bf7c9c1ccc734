-- The clauses of `laws::late_requests_end` that the search can't prove.
use Rattle.iol_port.proofs.OwnerRuns.{late_ends, cut_for_good_stays_out}
use Rattle.iol_port.proofs.laws.late_requests_end.Goals as goal

pub returns : goal.returns
returns c = record { wakes = late_ends; for_good = cut_for_good_stays_out }
