-- What each round of a loop of `collect::count_port` keeps.
use Rattle.std.proofs.Common.{◌≡◌, ◌*◌, ◌≤◌, take, map}
use Rattle.std.specs.List.{FoldsTo, sum_by}
use Rattle.iol_clients.specs.Counts.{AddsUp, accepted_at, client_state, NotesClientTickets, no_tickets}
use Rattle.iol_clients.proofs.collect.count_port.Given as goal

-- the clients up to here are counted, from the port as its lock was got
abbrev pub invariant-loop-client : goal.invariant-loop-client
invariant-loop-client g l = record {
  up : AddsUp l.requests;
  tickets : l.requests.tickets
      ≡ sum_by (λ client. accepted_at l.port client.desk) (take l.client-index l.clients);
  few : l.requests.tickets ≤ 64 * l.client-index;
  counted : FoldsTo (NotesClientTickets l.port) (l.initial.held.value, no_tickets)
      (map (λ client. client_state client.desk client.tickets.items)
      (take l.client-index l.clients))
      (l.held.value, l.requests);
}
