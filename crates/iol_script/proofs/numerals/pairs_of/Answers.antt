-- What the search can't prove of the body of `numerals::pairs_of`.
use Rattle.std.proofs.Common.{ap, ◌∙◌, arith, rules}
use Rattle.std.proofs.lemmas.Grind.{common_steps}
use Rattle.iol_script.proofs.OctetsLemmas.{behind, behind-full, behind-more, pairs_of_two}
use Rattle.iol_script.proofs.numerals.pairs_of.Goals as goal

pub returns-then-is_full : goal.returns-then-is_full
returns-then-is_full g c =
    behind-full _ c.loop-left.octets.items _ _ _ (c.loop-left.invariant.0
    ∙ ap (behind _) (pairs_of_two c.loop-left.left.now c.in-len2-up.len_at_least)) (search rules)

pub loop-left-preserved : goal.loop-left-preserved
loop-left-preserved g c = (
  rw c.push.ensures.items (behind-more _ c.loop-left.octets.items _ _ _
      (c.loop-left.invariant.0
      ∙ ap (behind _) (pairs_of_two c.loop-left.left.now c.in-len2-up.len_at_least))
      c.in_ok-octet_of.ensures),
  grind (arith, common_steps),
)
