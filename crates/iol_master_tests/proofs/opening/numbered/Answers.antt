-- What the search can't prove of the body of `opening::numbered`.
use Rattle.std.proofs.Common.{◌≡◌, ℕ, ◌+◌, arith}
use Rattle.iol_master.specs.Tickets.{HasIssued}
use Rattle.std.proofs.lemmas.List.Elements.{All-push}
use Rattle.iol_master_tests.proofs.opening.numbered.Goals as goal

one_more : (more ports turns : ℕ) → more ≡ ports + 1 → ports ≡ turns →
    more ≡ turns + 1
one_more more ports turns a b = omega arith

pub loop-index-preserved : goal.loop-index-preserved
loop-index-preserved c =
    let pushed = c.in_ok-push.ensures in
    let before = c.loop-index.invariant in (
      one_more _ _ _ pushed.len before.0,
      rw pushed.items
          (All-push (λ p. HasIssued p 0) _ _ before.1 c.in_ok-numbered_port.ensures),
    )
