-- What the search can't prove of the body of `opening::open_one`.
use Rattle.std.proofs.Common.{[], sym, ◌∙◌}
use Rattle.std.proofs.lemmas.List.Elements.{All-cons, All-nil, All-same}
use Rattle.iol_port.specs.View.{PortValue}
use Rattle.iol_master.specs.Tickets.{HasIssued}
use Rattle.iol_master_tests.proofs.opening.open_one.Goals as goal

abbrev IsFresh : {W : Type 0} → PortValue W → Type 0
IsFresh p = HasIssued p 0

pub open_master-requires-clause-tickets : goal.open_master-requires-clause-tickets
open_master-requires-clause-tickets g c = (
  c.requires.tickets.0,
  c.requires.tickets.1,
  c.requires.tickets.2 ∙ sym c.in_ok-ports.ensures.0,
)

pub open_master-requires-clause-fresh : goal.open_master-requires-clause-fresh
open_master-requires-clause-fresh g c = All-same IsFresh _ _ c.in_ok-ports.ensures.1
    (All-cons IsFresh _ [] c.requires.fresh (All-nil IsFresh))
