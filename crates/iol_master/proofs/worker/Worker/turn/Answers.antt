-- The clauses of `Worker::turn` that the search can't prove.
use Rattle.iol_master.proofs.worker.Worker.turn.Goals as goal

pub returns-clause-turned : goal.returns-clause-turned
returns-clause-turned g c = record {
  before = c.deref_mut.result.now;
  after = c.make_turn.new.self;
  turns = c.make_turn.ensures;
}
