-- The ghost values that `NoRecord::grown_by` hands to what it calls.
use Rattle.iol_far.specs.Level.{grown_by}
use Rattle.iol_device.proofs.record.NoRecord.grown_by.Given as goal

abbrev pub ghost-of : goal.ghost-of
ghost-of a =
    let self = a.near.now.0.now in
    record self.noted {
      carried = grown_by self.noted.carried a.near.now.1.now a.near.now.2.now;
    }
