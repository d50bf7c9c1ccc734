-- What the search can't prove of the body of `honest::meet`.
use Rattle.std.proofs.Common.{◌≡◌, ◌∙◌, ap}
use Rattle.iol_app.specs.declared.transmission.Outgoing.{Outgoing}
use Rattle.iol_port.specs.Honestly.{HonestParts}
use Rattle.iol_port_tests.proofs.honest.meet.Goals as goal

pub answered_by-requires-clause-premise : goal.answered_by-requires-clause-premise
answered_by-requires-clause-premise c =
    let port : HonestParts = c.send.new.self in
    let far_is : port.at.far ≡ c.args.device.now.far =
    ap (λ (p : HonestParts). p.at.far) c.send.ensures.moves ∙ c.requires.far in
    rw (
      far_is,
      ← ap (λ (out : Outgoing). out.octets.items) c.in-Exchange.ensures.says.1,
      ←
          c.as_slice.ensures.value,
    ) (c.exchange-received.ensures port.at.silence)
