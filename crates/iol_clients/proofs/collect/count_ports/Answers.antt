-- What the search can't prove of the body of `collect::count_ports`.
use Rattle.std.proofs.Common.{◌≡◌, ◌+◌, length, length-append, arith}
use Rattle.std.proofs.lemmas.List.Elements.{All-push}
use Rattle.iol_clients.specs.Counts.{AddsUp}
use Rattle.iol_clients.proofs.Counting.{one_more}
use Rattle.iol_clients.proofs.collect.count_ports.Goals as goal

pub loop-port-preserved : goal.loop-port-preserved
loop-port-preserved g c =
    let before = c.loop-port.invariant in
    let push = c.in_ok-push.ensures in
    let counted = c.count_port.ensures in
    let next : 1 + length c.loop-port.counts.items ≡ c.loop-port.port + 1 =
    omega (arith, before.items) in
    record {
      count = omega (arith, before.count, push.len);
      items = rw (push.items, length-append) (omega (arith, before.items));
      up = rw push.items (All-push (λ port. AddsUp port.requests) _ _ before.up counted.up);
      counted = rw push.items
          (one_more _ _ 1 _ before.counted
          (rw next counted.counted));
    }
