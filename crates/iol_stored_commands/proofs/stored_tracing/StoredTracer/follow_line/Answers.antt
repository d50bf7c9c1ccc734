-- The clauses of `StoredTracer::follow_line` that the search can't prove.
use Rattle.iol_stored_commands.proofs.TracedLemmas.{stored_traces_none}
use Rattle.iol_stored_commands.proofs.stored_tracing.StoredTracer.follow_line.Goals as goal

pub returns-in-Some-Store-clause-traced : goal.returns-in-Some-Store-clause-traced
returns-in-Some-Store-clause-traced g c =
    rw (← c.in-Some-Store.ensures, c.in-Some-Store.field-0-is)
    (stored_traces_none g.W.Wire.facts _)

pub returns-in-None-plain_call_of-clause-traced : goal.returns-in-None-plain_call_of-clause-traced
returns-in-None-plain_call_of-clause-traced g c =
    rw (← c.in-None.ensures, ← c.in-None-plain_call_of.ensures)
    (stored_traces_none g.W.Wire.facts _)
