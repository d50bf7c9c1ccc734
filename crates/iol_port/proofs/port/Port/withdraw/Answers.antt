-- What the search can't prove of the body of `Port::withdraw`.
use Rattle.std.proofs.Common.{refl}
use Rattle.iol_port.proofs.WireLemmas.{call_preserves, stays}
use Rattle.iol_port.proofs.port.Port.withdraw.Goals as goal

pub invariant_of-self : goal.invariant_of-self
invariant_of-self g c = call_preserves g.W.Wire.facts c.self.invariant c.withdraw.ensures.does
    (stays c.withdraw.ensures.gives.rest refl refl refl)
