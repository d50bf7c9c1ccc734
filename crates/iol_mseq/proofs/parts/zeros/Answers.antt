-- The clauses of `parts::zeros` that the search can't prove.
use Rattle.std.proofs.Common.{◌∙◌, arith}
use Rattle.std.proofs.lemmas.List.{take-replicate}
use Rattle.iol_mseq.proofs.parts.zeros.Goals as goal

pub returns : goal.returns
returns c = c.part_of.ensures ∙ take-replicate c.args.size 66 0 (omega arith)
