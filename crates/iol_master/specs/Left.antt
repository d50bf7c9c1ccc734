-- What a desk that is settled leaves at its port: none of its tickets is outstanding there.
use Rattle.std.specs.Prelude.{◌≡◌, ℕ, List, All, false}
use Rattle.std.specs.List.{FoldsTo, Contains}
use Rattle.iol_book.specs.declared.entries.Ticket.{Ticket}
use Rattle.iol_book.specs.Replay.{same_ticket}
use Rattle.iol_book.specs.Abandoning.{IsReportedAlike}
use Rattle.iol_master.specs.Ports.{PortFacts, awaits_client}

-- a ticket is none of these
abbrev pub IsNoneOf : List Ticket → Ticket → Type 0
IsNoneOf tickets other = All (λ ticket. same_ticket ticket other ≡ false) tickets

module _ {P : Type 0} (facts : PortFacts P) where
  open facts use {abandons, standing, holds}

  -- a ticket is outstanding no more
  abbrev pub IsGone : P → Ticket → Type 0
  IsGone p ticket = awaits_client facts p ticket ≡ false

  -- Those of these tickets that were outstanding at a port were abandoned, and nothing else was
  -- done
  pub record LeavesNone (p : P) (tickets : List Ticket) (next : P) : Type 0 where
    -- the tickets that were, one after another
    pub abandoned : List Ticket
    pub among : All (Contains tickets) abandoned
    pub calls : FoldsTo abandons p abandoned next
    -- none of these is outstanding, nor is one that wasn't
    pub gone : All (IsGone next) tickets
    pub still : (other : Ticket) → IsGone p other → IsGone next other
    -- and of each other ticket is told what was
    pub others : (other : Ticket) → IsNoneOf tickets other
        → IsReportedAlike (standing p) (standing next) other
    -- no submit was accepted
    pub counts : (count : ℕ) → holds p count → holds next count

  -- some port, whose lock was held, at which this was done
  abbrev pub WasLeft : List Ticket → Type 0
  WasLeft tickets = (p : P) × (next : P) × LeavesNone p tickets next
