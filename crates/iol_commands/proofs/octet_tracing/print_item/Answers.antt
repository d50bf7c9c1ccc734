-- The clauses of `octet_tracing::print_item` that the search can't prove.
use Rattle.iol_commands.proofs.octet_tracing.print_item.Goals as goal

pub returns-in-Exchange : goal.returns-in-Exchange
returns-in-Exchange g c =
    rw (c.in-Some.is, c.in-Exchange.is, ← c.exchange.view_is)
    (rw c.as_slice.ensures.value at c.print_exchange.ensures.text)
