-- The ghost values that `NoRecord::with_history` hands to what it calls.
use Rattle.iol_device.proofs.record.NoRecord.with_history.Given as goal

abbrev pub ghost-of : goal.ghost-of
ghost-of g a = record a.near.now.0.now.noted { history = g.history }
