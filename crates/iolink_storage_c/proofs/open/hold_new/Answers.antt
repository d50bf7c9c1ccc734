-- The clauses of `open::hold_new` that the search can't prove.
use Rattle.iolink_storage_c.proofs.open.hold_new.Goals as goal

pub returns-in-Ok-open-clause-port : goal.returns-in-Ok-open-clause-port
returns-in-Ok-open-clause-port c = λ held. rw (c.hold.ensures.port held) (record {
  backup = c.in-Ok.backup;
  is_backup = c.in-Ok.ensures.backup;
  storage = c.in-Ok-open.ensures.storage;
  output = c.in-Ok-open.ensures.output;
  parts = c.in-Ok-open.ensures.port;
  opens = c.in-Ok-open.ensures.opens;
})
