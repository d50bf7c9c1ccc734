-- The clauses of `passing::print_passed` that the search can't prove.
use Rattle.iol_commands.proofs.passing.print_passed.Goals as goal

pub returns-in-Exchange : goal.returns-in-Exchange
returns-in-Exchange g c =
    rw c.in-Exchange.is (rw c.as_slice.ensures.value at c.print_exchange.ensures.text)
