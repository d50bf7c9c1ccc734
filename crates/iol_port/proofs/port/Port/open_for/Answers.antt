-- What the search can't prove of the body of `Port::open_for`.
use Rattle.iol_port.proofs.WireLemmas.{port_new}
use Rattle.iol_port.proofs.port.Port.open_for.Goals as goal

pub invariant_of-result : goal.invariant_of-result
invariant_of-result g c =
    rw (c.of.ensures, c.of-in-Ok.ensures, c.of-wire_then.ensures)
    (port_new g.W.Wire.facts c.args.devices c.args.limits.now _ c.in-Ok.ensures.opens
    c.in-Ok.ensures.parts)

pub returns-in-Ok-clause-stands : goal.returns-in-Ok-clause-stands
returns-in-Ok-clause-stands g c =
    rw (c.of.ensures, c.of-wire_then.ensures)
    (λ well. (well.0, c.in-Ok.ensures.opens _ _ well.1))
