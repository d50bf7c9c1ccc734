-- What each round of a loop of `collect::count_ports` keeps.
use Rattle.std.proofs.Common.{◌≡◌, All, map, length, vec_len}
use Rattle.iol_clients.specs.Counts.{AddsUp, client_state, AreCounted}
use Rattle.iol_clients.proofs.collect.count_ports.Given as goal

abbrev pub invariant-loop-port : goal.invariant-loop-port
invariant-loop-port g l = record {
  count : vec_len l.counts ≡ l.port;
  items : length l.counts.items ≡ l.port;
  up : All (λ port. AddsUp port.requests) l.counts.items;
  counted : AreCounted g.row.W.Denot 1
      (map (λ client. client_state client.desk client.tickets.items) l.clients) l.counts.items;
}
