-- The clauses of `performing::perform` that the search can't prove.
use Rattle.iolink.proofs.performing.perform.Goals as goal

pub returns-in-Check-clause-answers : goal.returns-in-Check-clause-answers
returns-in-Check-clause-answers g c = rw c.in-Check.is c.check.ensures.answers

pub returns-in-Run-clause-answers : goal.returns-in-Run-clause-answers
returns-in-Run-clause-answers g c = rw c.in-Run.is c.run_script.ensures.answers

pub returns-in-Trace-clause-answers : goal.returns-in-Trace-clause-answers
returns-in-Trace-clause-answers g c = rw c.in-Trace.is c.trace_script.ensures.answers

pub returns-in-Many-clause-answers : goal.returns-in-Many-clause-answers
returns-in-Many-clause-answers g c = rw c.in-Many.is c.many.ensures.answers
