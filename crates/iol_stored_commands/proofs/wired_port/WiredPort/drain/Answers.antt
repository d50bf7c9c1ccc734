-- The clauses of `WiredPort::drain` that the search can't prove.
use Rattle.std.proofs.Common.{Ok, Err, rules}
use Rattle.iol_stored_commands.proofs.wired_port.WiredPort.drain.Goals as goal

pub returns-in_err-entries-clause-makes : goal.returns-in_err-entries-clause-makes
returns-in_err-entries-clause-makes g c =
    rw (← c.self.view_is)
    (Err c.in_err-entries.field-0.0, search rules, c.in_err-entries.ensures.is)

pub returns-clause-makes : goal.returns-clause-makes
returns-clause-makes g c =
    rw (← c.self.view_is)
    (Ok c.in_ok-entries.entries.items, search rules, c.in_ok-entries.ensures.is)
