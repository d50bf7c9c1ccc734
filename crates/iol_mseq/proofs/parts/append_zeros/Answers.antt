-- The clauses of `parts::append_zeros` that the search can't prove.
use Rattle.std.proofs.Common.{ℕ, arith}
use Rattle.std.proofs.lemmas.List.{take-replicate}
use Rattle.iol_mseq.proofs.parts.append_zeros.Goals as goal

pub returns : goal.returns
returns c = rw (c.append.ensures, take-replicate {X = ℕ} c.args.size 66 0 (omega arith))
