-- The clauses of `reply::spelled_by` that the search can't prove.
use Rattle.std.proofs.Common.{arith, eqb-true}
use Rattle.std.proofs.lemmas.Grind.{common_steps}
use Rattle.iol_mseq.proofs.reply.spelled_by.Goals as goal

pub returns-clause-spelled : goal.returns-clause-spelled
returns-clause-spelled c =
    let long = eqb-true _ _ c.requires.length in
    record {
      sizes = record { od = grind (arith, common_steps); input = grind (arith, common_steps) };
      parts = (c.from_octet-cks.result.sum, omega arith, grind (arith, common_steps));
      good = c.requires;
    }
