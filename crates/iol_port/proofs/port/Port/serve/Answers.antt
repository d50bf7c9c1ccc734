-- What the search can't prove of the body of `Port::serve`.
use Rattle.std.proofs.Common.{refl}
use Rattle.iol_port.proofs.WireLemmas.{call_preserves, stays}
use Rattle.iol_port.proofs.port.Port.serve.Goals as goal

pub invariant_of-self : goal.invariant_of-self
invariant_of-self g c = call_preserves g.W.Wire.facts c.self.invariant c.serve.ensures.does
    (stays c.serve.ensures.gives.rest refl refl refl)
