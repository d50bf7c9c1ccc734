-- The clauses of `partial::no_known_octets` that the search can't prove.
use Rattle.std.proofs.Common.{rules}
use Rattle.iol_judge.specs.Answers.{no_known_octets}
use Rattle.iol_judge.proofs.partial.no_known_octets.Goals as goal

pub returns : goal.returns
unfolding no_known_octets
returns c = search rules
