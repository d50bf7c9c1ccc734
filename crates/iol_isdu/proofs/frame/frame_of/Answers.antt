-- The clauses of `frame::frame_of` that the search can't prove.
use Rattle.std.proofs.Common.{arith, sym, ◌∙◌}
use Rattle.std.proofs.lemmas.Bool.Decides.{nat_tests}
use Rattle.iol_isdu.proofs.Frames.{Frames-at}
use Rattle.iol_isdu.proofs.frame.frame_of.Goals as goal
use Rattle.iol_isdu.proofs.frame.frame_of.Goals.{then-total-le-LONGEST_PLAIN, else-total-le-LONGEST_PLAIN}

pub returns-clause-found : goal.returns-clause-found
returns-clause-found c =
    Frames-at c.args.octets.now c.in_ok-total.total _
    (sym c.total_of.ensures ∙ c.in_ok-total.was) (omega arith)
    (elim c.if-total-le-LONGEST_PLAIN.branch [
      | then-total-le-LONGEST_PLAIN w ↦
          let small = w.if-total-le-LONGEST_PLAIN.true in w.head-is ∙ grind (arith, nat_tests)
      | else-total-le-LONGEST_PLAIN w ↦
          let large = w.if-total-le-LONGEST_PLAIN.false in w.head-is ∙ grind (arith, nat_tests)
    ])
