-- What the search can't prove of the body of `Client::submit`.
use Rattle.std.proofs.Common.{◌≡◌, ◌∙◌, add-one, refl, ap, arith}
use Rattle.iol_clients.proofs.Submitting.{has_submitted}
use Rattle.iol_clients.proofs.client.Client.submit.Goals as goal

pub loop-init : goal.loop-init
loop-init g c =
    let none : c.args.self.desk.accepted ≡ 0 = ap (λ s. s.desk.accepted) c.requires.new in
    record {
      port = refl;
      few = omega (arith, none, c.args.self.each_has_a_ticket);
      submitted = c.requires.new;
    }

pub submit_one-requires-clause-port : goal.submit_one-requires-clause-port
submit_one-requires-clause-port g c = rw c.loop.invariant.port c.requires.port

pub submit_one-requires-clause-room : goal.submit_one-requires-clause-room
submit_one-requires-clause-room g c =
    omega (arith, c.loop.invariant.few, c.loop-test.true, c.requires.few)

pub loop-preserved : goal.loop-preserved
loop-preserved g c =
    let before = c.loop.invariant in
    let one = c.in_ok-submit_one.ensures in
    record {
      port = one.port ∙ before.port;
      few = omega (arith, one.more, before.few);
      submitted = rw add-one (_, before.submitted, one.submitted);
    }

pub returns-clause-port : goal.returns-clause-port
returns-clause-port g c = c.loop.invariant.port

pub returns-clause-submitted : goal.returns-clause-submitted
returns-clause-submitted g c =
    has_submitted _ _ _ _ _ c.loop.invariant.port
    (omega (arith, c.loop.auto.counter-end, c.loop-test.false)) c.loop.invariant.submitted
