-- What the search can't prove of the body of `serve::with_ledgers`.
use denote.Param.Send.{sendable}
use Rattle.std.proofs.Common.{◌≡◌, ◌∙◌, map}
use Rattle.std.proofs.Crossing.{crosses}
use Rattle.iol_sim.proofs.Crosses.{sim_send}
use Rattle.iol_clients.specs.Counts.{client_state}
use Rattle.iol_clients.proofs.PlansClients.{few}
use Rattle.iol_clients.proofs.serve.with_ledgers.Goals as goal

pub submit_all-requires-send-W : goal.submit_all-requires-send-W
submit_all-requires-send-W g c κs within = search (sim_send, crosses, sendable) depth 60 fits 20000

pub make_turns-requires-send-W : goal.make_turns-requires-send-W
make_turns-requires-send-W g c κs within = search (sim_send, crosses, sendable) depth 60 fits 20000

pub count_ports-requires-clause-few : goal.count_ports-requires-clause-few
count_ports-requires-clause-few g c =
    let ranges = c.args.plan.now.ranges in
    rw c.as_slice.ensures.value
    (few (λ client. client_state client.desk client.tickets.items)
    c.in_ok-clients.clients.items _ _ c.in_ok-clients.ensures.ports ranges.1 ranges.3)

pub returns-clause-served : goal.returns-clause-served
returns-clause-served g c =
    let ports : c.in-Ok.master ≡ c.args.plan.now.ports =
    c.in-Ok.ensures ∙ c.in_ok-ports.ensures.count in
    record {
      clients = map (λ client. client_state client.desk client.tickets.items)
          c.in_ok-clients.clients.items;
      all = c.in_ok-clients.ensures;
      turned = rw ports at c.in_ok-make_turns.ensures.turned;
      counted = rw c.as_slice.ensures.value at c.in_ok-ports-2.ensures.counted;
      settled = c.settle_all-total.ensures;
    }
