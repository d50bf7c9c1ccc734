-- What makes the functions of `octets` that call one another (`are_as_known`) end.
use Rattle.std.proofs.Common.{length}
use Rattle.iol_judge.proofs.octets.+are_as_known.Given as goal

abbrev pub decreases-are_as_known : goal.decreases-are_as_known
decreases-are_as_known l = length l.octets.now
