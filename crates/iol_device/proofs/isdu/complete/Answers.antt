-- The clauses of `isdu::complete` that the search can't prove.
use Rattle.std.proofs.Common.{arith}
use Rattle.std.proofs.lemmas.Grind.{common_steps}
use Rattle.iol_isdu.specs.Parse.{request_of}
use Rattle.iol_device.proofs.isdu.complete.Goals as goal

-- a text that is refused has no request
pub returns-then-is_err-clause-state : goal.returns-then-is_err-clause-state
unfolding request_of
returns-then-is_err-clause-state c = grind (arith, common_steps)
