-- What each round of a loop of `collect::settle_all` keeps.
use Rattle.std.proofs.Common.{◌≡◌, ◌++◌, map}
use Rattle.std.specs.List.{FoldsTo}
use Rattle.std.specs.Vec.Iter.{into_iter_items}
use Rattle.iol_clients.specs.Counts.{SettlesClient, client_state}
use Rattle.iol_clients.proofs.collect.settle_all.Given as goal

-- the clients that are left make up all with those that are settled
abbrev pub invariant-loop-client : goal.invariant-loop-client
invariant-loop-client g l = record {
  all : l.yielded ++ into_iter_items l.client-iterator ≡ into_iter_items l.initial.client-iterator;
  settled : FoldsTo SettlesClient 0
      (map (λ client. client_state client.desk client.tickets.items) l.yielded)
      l.total;
}
