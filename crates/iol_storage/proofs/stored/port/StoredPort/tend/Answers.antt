-- The clauses of `StoredPort::tend` that the search can't prove.
use Rattle.std.proofs.Common.{refl}
use Rattle.iol_storage.proofs.StoredLemmas.{made-serve, one-call}
use Rattle.iol_storage.proofs.stored.port.StoredPort.tend.Goals as goal

pub returns : goal.returns
returns g c = record {
  heard = c.collect_asked.new.self;
  collects = rw (c.session-session.ensures) at c.collect_asked.ensures;
  watched = c.watch.new.self;
  watches = rw (← c.self.view_is, ← c.session-session.ensures) c.watch.ensures;
  asked = c.submit_asked.new.self;
  submits = rw (← c.self.view_is) c.submit_asked.ensures;
  served = record c.submit_asked.new.self { port = c.serve.new.self };
  serves = rw (← c.self-2.view_is, ← c.serves.ensures) (record {
    made = one-call _ _ _ _ (made-serve _ _ c.serves.result c.serve.ensures);
    rest = refl;
  });
  shows = rw (← c.self-2.view_is) c.show_output.ensures;
}
