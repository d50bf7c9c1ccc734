-- What the search can't prove of the body of `many_printing::print_ports`.
use Rattle.iol_commands.proofs.ManyLemmas.{port_printed}
use Rattle.iol_commands.proofs.many_printing.print_ports.Goals as goal

pub loop-place-preserved : goal.loop-place-preserved
loop-place-preserved g c =
    port_printed c.args.shown _ _ _ c.args.ports.now c.loop-place.place _
    c.loop-place.invariant c.loop-place-test.true c.in_ok-print_port.ensures
