-- The clauses of `call_line::cycle_of_micros` that the search can't prove.
use Rattle.iol_script.proofs.Cycles.{computed}
use Rattle.iol_script.proofs.call_line.cycle_of_micros.Goals as goal

pub returns : goal.returns
returns c = computed c.from_micros.result c.unwrap.result c.args.micros c.unwrap.ensures
    c.from_micros.ensures.long c.from_micros.ensures.shortest
