-- What the search can't prove of the body of `served::opened_ports`.
use Rattle.std.proofs.Common.{◌≡◌, ℕ, ◌+◌, arith}
use Rattle.iol_master.specs.Tickets.{HasIssued}
use Rattle.std.proofs.lemmas.List.Elements.{All-push}
use Rattle.iol_bench.proofs.served.opened_ports.Goals as goal

one_more : (more ports turns : ℕ) → more ≡ ports + 1 → ports ≡ turns → more ≡ turns + 1
one_more more ports turns a b = omega arith

pub loop-preserved : goal.loop-preserved
loop-preserved c =
    let pushed = c.in_ok-push.ensures in (
      one_more _ _ _ pushed.len c.loop.invariant.0,
      rw pushed.items
          (All-push (λ p. HasIssued p 0) _ _ c.loop.invariant.1 c.in_ok-port.ensures),
    )
