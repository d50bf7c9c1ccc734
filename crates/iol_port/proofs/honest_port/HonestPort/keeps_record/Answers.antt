-- The clauses of `HonestPort::keeps_record` that the search can't prove.
use Rattle.iol_port.proofs.HonestRuns.{record_preserved}
use Rattle.iol_port.proofs.honest_port.HonestPort.keeps_record.Goals as goal

pub returns : goal.returns
returns g c =
    let laws = c.record_fits_journal.ensures in
    let law = c.keeps_record.ensures in
    let preserved = record_preserved laws.opens laws.pieces _ law.record_fits c.self.invariant in
    rw (← c.self.view_is)
    (record {
      replayed = law.replayed;
      run = c.self.invariant;
      record_fits = λ well. (preserved well).0;
      level = λ well. (preserved well).1;
    })
