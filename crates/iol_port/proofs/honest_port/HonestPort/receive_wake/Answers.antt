-- What the search can't prove of the body of `HonestPort::receive_wake`.
use Rattle.std.proofs.Common.{sym, subst}
use Rattle.std.specs.Prelude.{is_some}
use Rattle.iol_link.specs.Honest.{HonestWake}
use Rattle.iol_port.specs.Honestly.{HonestParts}
use Rattle.iol_port.proofs.HonestRuns.{woken}
use Rattle.iol_port.proofs.honest_port.HonestPort.receive_wake.Goals as goal

pub invariant_of-self : goal.invariant_of-self
invariant_of-self g c =
    let p : HonestParts = record {
      parts = c.self.inside.core;
      at = c.self.inside.at.at;
      devices = c.self.inside.devices.value;
      limits = c.self.inside.limits.value;
      from = c.self.inside.from.at;
    } in
    rw c.of.ensures
    (woken p c.receive_wake.new.self (is_some c.args.rate) g.after c.self.invariant
    c.receive_wake.ensures.does (subst
    (λ (q : HonestParts). HonestWake q.at.far (is_some c.args.rate) g.after)
    (sym c.self.view_is) c.requires.1.1.1))
