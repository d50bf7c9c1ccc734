-- What the search can't prove of the body of `Port::turn`.
use Rattle.iol_port.proofs.WireLemmas.{port_turned}
use Rattle.iol_port.proofs.port.Port.turn.Goals as goal

pub invariant_of-self : goal.invariant_of-self
invariant_of-self g c =
    port_turned g.W.Wire.facts _ _ _ c.self.invariant c.turn.ensures.does c.turn.ensures.asked
    c.turn.ensures.free c.turn.ensures.stands
