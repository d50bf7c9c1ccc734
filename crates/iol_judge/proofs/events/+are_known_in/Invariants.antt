-- What makes the functions of `events` that call one another (`are_known_in`) end.
use Rattle.std.proofs.Common.{length}
use Rattle.iol_judge.proofs.events.+are_known_in.Given as goal

abbrev pub decreases-are_known_in : goal.decreases-are_known_in
decreases-are_known_in l = length l.a.now
