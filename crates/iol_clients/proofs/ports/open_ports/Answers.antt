-- What the search can't prove of the body of `ports::open_ports`.
use Rattle.std.proofs.Common.{arith}
use Rattle.iol_master.specs.Tickets.{HasIssued}
use Rattle.std.proofs.lemmas.List.Elements.{All-push}
use Rattle.iol_clients.proofs.ports.open_ports.Goals as goal

pub loop-preserved : goal.loop-preserved
loop-preserved c =
    let pushed = c.in_ok-push.ensures in (
      omega (arith, pushed.len, c.loop.invariant.0),
      rw pushed.items
          (All-push (λ p. HasIssued p 0) _ _ c.loop.invariant.1 c.in_ok-open_port.ensures),
    )
