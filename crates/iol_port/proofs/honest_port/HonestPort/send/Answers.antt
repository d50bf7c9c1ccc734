-- What the search can't prove of the body of `HonestPort::send`.
use Rattle.iol_port.proofs.HonestRuns.{sent}
use Rattle.iol_port.proofs.honest_port.HonestPort.send.Goals as goal

pub invariant_of-self : goal.invariant_of-self
invariant_of-self g c = sent _ _ c.self.invariant c.send.ensures.does
