-- What the search can't prove of the body of `collect::count_port`.
use Rattle.std.proofs.Common.{arith}
use Rattle.iol_clients.proofs.Folds.{whole, summed, mapped}
use Rattle.iol_clients.specs.Counts.{accepted_at, client_state, NotesClientTickets}
use Rattle.iol_clients.proofs.collect.count_port.Goals as goal

pub loop-client-preserved : goal.loop-client-preserved
loop-client-preserved g c =
    let before = c.loop-client.invariant in
    let collect = c.collect.ensures in
    let is = c.client-item.is in
    record {
      up = collect.up;
      tickets = summed _ _ _ _ is c.loop-client-test.true (λ client.
          accepted_at c.args.port client.desk) _ _ before.tickets collect.tickets;
      few = omega (arith, before.few, collect.tickets, collect.few);
      counted = mapped _ _ _ _ is c.loop-client-test.true _ _ _
          (NotesClientTickets c.args.port)
          (λ client. client_state client.desk client.tickets.items) before.counted
          (rw c.deref_mut.ensures.value at collect.collected);
    }

pub returns-clause-counted : goal.returns-clause-counted
returns-clause-counted g c = (
  c.in-Ok.held.value,
  c.loop-client.held.value,
  rw (whole _ _ c.loop-client.auto.client-index-end c.loop-client-test.false)
      at c.loop-client.invariant.counted,
  rw c.deref.ensures at c.counters.ensures.gives,
)
