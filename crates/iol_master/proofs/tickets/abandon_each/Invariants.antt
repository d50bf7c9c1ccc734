-- What each round of a loop of `tickets::abandon_each` keeps.
use Rattle.std.proofs.Common.{take}
use Rattle.iol_master.specs.Left.{LeavesNone}
use Rattle.iol_master.proofs.tickets.abandon_each.Given as goal

-- the tickets up to here are left
abbrev pub invariant-loop-ticket : goal.invariant-loop-ticket
invariant-loop-ticket g l =
    LeavesNone g.P.MasterPort.facts l.fn.port (take l.ticket-index l.tickets) l.port
