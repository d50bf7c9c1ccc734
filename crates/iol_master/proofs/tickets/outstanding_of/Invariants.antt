-- What each round of a loop of `tickets::outstanding_of` keeps.
use Rattle.std.proofs.Common.{◌≡◌, ◌≤◌, filter, length, take}
use Rattle.iol_master.specs.Ports.{awaits_client}
use Rattle.iol_master.proofs.tickets.outstanding_of.Given as goal

-- those of the tickets up to here
abbrev pub invariant-loop-ticket : goal.invariant-loop-ticket
invariant-loop-ticket g l = record {
  are : l.outstanding
      ≡ filter (awaits_client g.P.MasterPort.facts l.port) (take l.ticket-index l.tickets);
  few : length l.outstanding ≤ l.ticket-index;
}
