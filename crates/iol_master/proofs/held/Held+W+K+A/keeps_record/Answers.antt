-- The clauses of `Held::keeps_record` that the search can't prove.
use Rattle.iol_master.proofs.held.Held+W+K+A.keeps_record.Goals as goal

pub returns-clause-claim : goal.returns-clause-claim
returns-clause-claim g c = rw (← c.self.view_is) (c.keeps_record.ensures.claim)
