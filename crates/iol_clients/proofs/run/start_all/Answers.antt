-- What the search can't prove of the body of `run::start_all`.
use Rattle.std.proofs.Common.{◌≡◌}
use Rattle.std.proofs.lemmas.List.Elements.{All-push}
use Rattle.iol_clients.proofs.PlansClients.{port_more}
use Rattle.iol_clients.proofs.run.start_all.Goals as goal

pub loop-preserved : goal.loop-preserved
loop-preserved g c =
    let before = c.loop.invariant in
    let push = c.in_ok-push.ensures in
    let is = c.in_ok-thread.ensures.submits in
    record {
      ports = rw push.items (port_more (λ thread. thread.promise.port) _ _ _ _ _ before.ports is.0);
      each = rw push.items
          (All-push (λ thread. thread.promise.each ≡ c.args.plan.each) _ _ before.each is.1);
    }
