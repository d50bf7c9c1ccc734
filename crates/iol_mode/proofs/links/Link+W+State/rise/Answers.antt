-- An exchange of a start-up, over the wire.
use Rattle.iol_mode.proofs.Exchanging.{start_turn, exchange_stands}
use Rattle.iol_mode.proofs.links.Link+W+State.rise.Goals as goal

pub invariant_of-self : goal.invariant_of-self
invariant_of-self g c = (
  c.exchanged.ensures.judged.fits,
  exchange_stands g.W.Wire.facts c.exchanged.ensures c.self.invariant.1,
)

pub returns : goal.returns
returns g c =
    let turn = start_turn g.W.Wire.facts c.self.inside.state c.exchanged.ensures
    (rw (← c.self.view_is) at c.requires) c.self.invariant.1 in
    record { turn = rw (← c.self.view_is) turn.0; tried = rw (← c.self.view_is) turn.1 }
