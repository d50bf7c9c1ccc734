-- The clauses of `run::submit_beside` that the search can't prove.
use Rattle.std.proofs.Common.{◌∙◌}
use Rattle.iol_master.specs.Ports.{port_facts}
use Rattle.iol_clients.specs.Counts.{client_state}
use Rattle.iol_clients.specs.Submitted.{HasSubmitted}
use Rattle.iol_clients.proofs.PlansClients.{same_ports, all_have}
use Rattle.iol_clients.proofs.run.submit_beside.Goals as goal

pub returns : goal.returns
returns g c =
    let threads = c.in_ok-threads.ensures in
    let joined = c.in_ok-join_all.ensures in
    record {
      ports = same_ports (λ client. client_state client.desk client.tickets.items)
          (λ thread. thread.promise.port) (λ thread. thread.promise.each) c.args.plan.each
          (HasSubmitted (port_facts g.W.Wire.facts)) _ _ joined ∙ threads.ports;
      submitted = all_have (λ client. client_state client.desk client.tickets.items)
          (λ thread. thread.promise.port) (λ thread. thread.promise.each) c.args.plan.each
          (HasSubmitted (port_facts g.W.Wire.facts)) _ _ joined threads.each;
    }
