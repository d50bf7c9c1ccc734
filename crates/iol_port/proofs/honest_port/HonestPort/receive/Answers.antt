-- What the search can't prove of the body of `HonestPort::receive`.
use Rattle.std.proofs.Common.{sym, subst}
use Rattle.iol_far.specs.Octets.{octets_in}
use Rattle.iol_port.specs.Honestly.{HonestParts, Exchanges}
use Rattle.iol_port.proofs.HonestRuns.{received}
use Rattle.iol_port.proofs.honest_port.HonestPort.receive.Goals as goal

pub invariant_of-self : goal.invariant_of-self
invariant_of-self g c =
    let p : HonestParts = record {
      parts = c.self.inside.core;
      at = c.self.inside.at.at;
      devices = c.self.inside.devices.value;
      limits = c.self.inside.limits.value;
      from = c.self.inside.from.at;
    } in
    rw c.of.ensures
    (received p c.receive.new.self (octets_in c.args.received.now) g.after c.self.invariant
    c.receive.ensures.does (subst (λ (q : HonestParts). Exchanges q
    (octets_in c.args.received.now) g.after) (sym c.self.view_is) c.requires.1.1.1))
