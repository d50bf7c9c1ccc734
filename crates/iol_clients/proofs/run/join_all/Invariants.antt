-- What each round of a loop of `run::join_all` keeps.
use Rattle.std.proofs.Common.{◌≡◌, ◌++◌}
use Rattle.std.specs.List.{AllZip}
use Rattle.std.specs.Vec.Iter.{into_iter_items}
use Rattle.iol_master.specs.Ports.{port_facts}
use Rattle.iol_clients.specs.Counts.{client_state}
use Rattle.iol_clients.specs.Submitted.{HasSubmitted}
use Rattle.iol_clients.proofs.run.join_all.Given as goal

-- the threads that are left make up all with those that were joined
abbrev pub invariant-loop-thread : goal.invariant-loop-thread
invariant-loop-thread g l = record {
  all : l.yielded ++ into_iter_items l.thread-iterator ≡ into_iter_items l.initial.thread-iterator;
  fulfilled : AllZip
      (λ thread client. (client.desk.port ≡ thread.promise.port)
      × HasSubmitted (port_facts g.W.Wire.facts) thread.promise.each
      (client_state client.desk client.tickets.items)) l.yielded l.clients.items;
}
