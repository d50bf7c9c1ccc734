-- What each round of a loop of `Client::submit` keeps.
use Rattle.std.proofs.Common.{◌≡◌, ◌≤◌, vec_len}
use Rattle.iol_master.specs.Ports.{port_facts}
use Rattle.iol_clients.specs.Counts.{client_state}
use Rattle.iol_clients.specs.Submitted.{new_client, SubmitsReads}
use Rattle.iol_clients.proofs.client.Client.submit.Given as goal

-- a ticket at most for each submit
abbrev pub invariant-loop : goal.invariant-loop
invariant-loop g l = record {
  port : l.client.desk.port ≡ l.fn.self.desk.port;
  few : vec_len l.client.tickets ≤ l.counter;
  submitted : SubmitsReads (port_facts g.W.Wire.facts) l.counter (new_client l.fn.self.desk.port)
      (client_state l.client.desk l.client.tickets.items);
}
