-- What each round of a loop of `run::start_all` keeps.
use Rattle.std.proofs.Common.{◌≡◌, ◌+◌, ◌++◌, All, map, replicate}
use Rattle.iol_clients.specs.Submitted.{client_ports}
use Rattle.iol_clients.proofs.run.start_all.Given as goal

-- the clients of the ports up to here
abbrev pub invariant-loop-port : goal.invariant-loop-port
invariant-loop-port g l = record {
  ports : map (λ thread. thread.promise.port) l.threads.items
      ≡ client_ports l.port l.plan.clients;
  each : All (λ thread. thread.promise.each ≡ l.plan.each) l.threads.items;
}

-- and so many at this one
abbrev pub invariant-loop : goal.invariant-loop
invariant-loop g l = record {
  ports : map (λ thread. thread.promise.port) l.threads.items
      ≡ client_ports l.port l.plan.clients ++ replicate l.counter (l.port + 1);
  each : All (λ thread. thread.promise.each ≡ l.plan.each) l.threads.items;
}
