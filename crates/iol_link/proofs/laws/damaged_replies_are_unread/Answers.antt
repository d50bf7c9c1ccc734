-- The clauses of `laws::damaged_replies_are_unread` that the search can't prove.
use Rattle.iol_link.proofs.Damaged.{bad_octets_are_unread, lost_octets_are_unread}
use Rattle.iol_link.proofs.laws.damaged_replies_are_unread.Goals as goal

pub returns-clause-bad : goal.returns-clause-bad
returns-clause-bad c = bad_octets_are_unread c.modes_have_layouts.ensures

pub returns-clause-lost : goal.returns-clause-lost
returns-clause-lost c =
    lost_octets_are_unread c.modes_have_layouts.ensures c.pages_ask_for_layouts.ensures
