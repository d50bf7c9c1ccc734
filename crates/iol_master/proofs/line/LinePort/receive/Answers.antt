-- The clauses of `LinePort::receive` that the search can't prove.
use Rattle.std.proofs.Common.{refl, arith}
use Rattle.iol_master.proofs.Turns.{one_more}
use Rattle.iol_master.proofs.line.LinePort.receive.Goals as goal

-- what came is taken; then the restart that waited is made
pub returns-then-waited-clause-takes : goal.returns-then-waited-clause-takes
returns-then-waited-clause-takes g c = rw (← c.self.view_is, c.if-waited.true) (record {
  mid = c.receive.new.self;
  takes = c.receive.ensures.receives;
  restarted = c.restart.ensures.restarts;
  waits = refl;
  turns = one_more _ _ _ _ _ _ (c.audit.ensures.whole c.requires.whole.1) c.requires.out refl
      (omega arith) c.audit.ensures.total c.add.ensures.total;
})

pub returns-else-waited-clause-takes : goal.returns-else-waited-clause-takes
returns-else-waited-clause-takes g c = rw (← c.self.view_is, c.if-waited.false) (record {
  mid = c.receive.new.self;
  takes = c.receive.ensures.receives;
  restarted = refl;
  waits = refl;
  turns = one_more _ _ _ _ _ _ (c.audit.ensures.whole c.requires.whole.1) c.requires.out refl
      (omega arith) c.audit.ensures.total c.add.ensures.total;
})
