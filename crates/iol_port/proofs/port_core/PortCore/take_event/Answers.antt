-- The clauses of `PortCore::take_event` that the search can't prove.
use Rattle.std.proofs.Common.{refl, rules}
use Rattle.iol_port.proofs.CallLemmas.{take_event_does, part_unchanged}
use Rattle.iol_port.proofs.port_core.PortCore.take_event.Goals as goal

pub returns : goal.returns
returns g c =
    rw (← c.self.view_is, c.ok_or.ensures.value)
    (record {
      does = record {
        follows = take_event_does _ c.pop_at.result c.pop_at.new.self.items
            c.pop_at.ensures.value c.pop_at.ensures.items
            (part_unchanged (λ queued. queued.items) c.pop_at.result _ _
            c.pop_at.ensures.absent);
        book = refl;
      };
      gives = search rules;
    })
