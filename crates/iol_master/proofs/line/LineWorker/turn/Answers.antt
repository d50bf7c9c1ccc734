-- The clauses of `LineWorker::turn` that the search can't prove.
use Rattle.std.proofs.Common.{sym, ◌∙◌}
use Rattle.iol_app.specs.declared.transmission.Transmission.TheVariants as asked
use Rattle.iol_master.proofs.line.LineWorker.turn.Goals as goal
use Rattle.iol_master.proofs.line.LineWorker.turn.Goals.{in-Wake, in-Exchange}

-- what the arm that was taken did
pub returns-clause-turned : goal.returns-clause-turned
returns-clause-turned g c =
    elim c.match-asked.branch [
      | in-Wake w ↦
          rw (← c.self.view_is, w.self-inside-is)
          (record {
            asked = asked.Wake;
            first = c.deref_mut.result.now;
            after = w.in-Wake.ensures.after;
            sent = c.send-asked.new.self;
            sends = w.in-Wake.ensures.sends;
            locked = w.deref_mut-in-Wake.result.now;
            awaits = w.receive_wake.ensures.awaits;
            between = w.receive_wake.ensures.after ∙ w.in-Wake.ensures.turns;
            taken = w.receive_wake.new.self;
            brings = (w.wake-rate.result, w.wake-rate.ensures.gives, w.receive_wake.ensures.takes);
            turns = sym w.receive_wake.ensures.turns;
            nothing_out = w.receive_wake.ensures.none_out;
          })
      | in-Exchange w ↦
          rw (← c.self.view_is, w.self-inside-is)
          (record {
            asked = asked.Exchange w.in-Exchange.out;
            first = c.deref_mut.result.now;
            after = w.in-Exchange.ensures.after;
            sent = c.send-asked.new.self;
            sends = w.in-Exchange.ensures.sends;
            locked = w.deref_mut-in-Exchange.result.now;
            awaits = w.receive.ensures.awaits;
            between = w.receive.ensures.after ∙ w.in-Exchange.ensures.turns;
            taken = w.receive.new.self;
            brings = (
              w.exchange-received.result,
              rw (← w.as_slice.ensures.value)
                  w.exchange-received.ensures.gives,
              w.receive.ensures.takes,
            );
            turns = sym w.receive.ensures.turns;
            nothing_out = w.receive.ensures.none_out;
          })
    ]
