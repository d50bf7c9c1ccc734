-- The clauses of `wired::submit_as` that the search can't prove.
use Rattle.iol_master.proofs.Refusing.{stored-refuses}
use Rattle.iol_master.proofs.wired.submit_as.Goals as goal

pub returns-in-Ordinary-clause-refused : goal.returns-in-Ordinary-clause-refused
returns-in-Ordinary-clause-refused g c = stored-refuses c.args.port.now c.args.request
    (λ answer does. does.call.gives.refused) c.submit.result _ c.submit.ensures.denied
    c.submit.ensures.is

pub returns-in-Urgent-clause-refused : goal.returns-in-Urgent-clause-refused
returns-in-Urgent-clause-refused g c = stored-refuses c.args.port.now c.args.request
    (λ answer does. does.call.gives.refused) c.submit_urgent.result _ c.submit_urgent.ensures.denied
    c.submit_urgent.ensures.is
