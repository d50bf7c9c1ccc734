-- What the search can't prove of the body of `HonestPort::open_for`.
use Rattle.iol_port.proofs.HonestRuns.{began}
use Rattle.iol_port.proofs.honest_port.HonestPort.open_for.Goals as goal

pub invariant_of-result : goal.invariant_of-result
invariant_of-result g c =
    rw (c.of-at.ensures, c.of-from.ensures, c.of.ensures, c.of-in-Ok.ensures)
    (began c.in-Ok.core c.args.devices c.args.limits.now g.at c.in-Ok.ensures.opens)
