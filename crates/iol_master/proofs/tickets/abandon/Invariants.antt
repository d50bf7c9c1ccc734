-- What each round of a loop of `tickets::abandon` keeps.
use Rattle.std.proofs.Common.{◌≡◌, ℕ, List, All, false}
use Rattle.std.specs.List.{FoldsTo}
use Rattle.iol_book.specs.declared.entries.Ticket.{Ticket}
use Rattle.iol_book.specs.Replay.{same_ticket}
use Rattle.iol_book.specs.Abandoning.{IsReportedAlike}
use Rattle.iol_master.specs.Left.{IsGone}
use Rattle.iol_master.proofs.Abandoning.{left_over}
use Rattle.iol_master.proofs.tickets.abandon.Given as goal

-- the ticket was abandoned so often
abbrev pub invariant-loop-ticket : goal.invariant-loop-ticket
invariant-loop-ticket g l = record {
  abandoned : List Ticket;
  among : All (λ t. t ≡ l.ticket) abandoned;
  calls : FoldsTo g.P.MasterPort.facts.abandons l.fn.port abandoned l.port;
  still : (other : Ticket) → IsGone g.P.MasterPort.facts l.fn.port other
      → IsGone g.P.MasterPort.facts l.port other;
  others : (other : Ticket) → same_ticket l.ticket other ≡ false
      → IsReportedAlike (g.P.MasterPort.facts.standing l.fn.port)
      (g.P.MasterPort.facts.standing l.port) other;
  counts : (count : ℕ) → g.P.MasterPort.facts.holds l.fn.port count
      → g.P.MasterPort.facts.holds l.port count;
}

abbrev pub decreases-loop-ticket : goal.decreases-loop-ticket
decreases-loop-ticket g l = left_over (g.P.MasterPort.facts.standing l.port)
