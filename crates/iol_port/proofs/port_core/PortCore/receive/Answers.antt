-- What comes back goes to the book and to the kept events, and is one piece of a run.
use Rattle.std.proofs.Common.{◌≡◌, ◌∙◌, ◌++◌, refl, ap}
use Rattle.iol_far.specs.Octets.{octets_in}
use Rattle.iol_app.specs.Core.{CoreState}
use Rattle.iol_app.specs.CoreTurns.{received_mode}
use Rattle.iol_mode.specs.States.{is_reset}
use Rattle.iol_app.specs.Abstract.Steps.{through_steps}
use Rattle.iol_app.specs.Abstract.OfMaster.{resets, steps_for_book}
use Rattle.iol_port.specs.View.{PortParts}
use Rattle.iol_port.specs.CorePort.{awaited_answer}
use Rattle.iol_port.proofs.CorePorts.{parts_in, reply_out, receive_does, heard_reset}
use Rattle.iol_port.proofs.TieLemmas.{ends_ask, turn_tied, settled_limit}
use Rattle.iol_port.proofs.port_core.PortCore.receive.Given as given
use Rattle.iol_port.proofs.port_core.PortCore.receive.Goals as goal
use Rattle.iol_port.specs.Steps.{book_after}

pub settle-requires-clause-asked : goal.settle-requires-clause-asked
settle-requires-clause-asked g c =
    ends_ask _ _ _ c.self.invariant.same c.receive-wire_result.ensures.report_fits.ends

pub invariant_of-self : goal.invariant_of-self
invariant_of-self g c =
    let p : PortParts = parts_in c.self.inside in
    turn_tied p c.receive-wire_result.new.self c.settle.new.queued.items
    c.settle.new.book c.resets-reset.result c.receive-wire_result.new.report c.self.invariant
    (ap (λ (k : CoreState). k.session.limit) c.receive-wire_result.ensures.taken.is
    ∙ settled_limit (received_mode c.self.inside.core (octets_in c.args.received.now))
    c.self.inside.core.session)
    c.receive-wire_result.ensures.report_fits c.settle.ensures.book c.settle.ensures.queued

-- the book heard of a reset where both cores say so
book_is : (g : given.Over) (c : goal.After-settle g) → c.settle.new.book.state
    ≡ through_steps book_after
    (resets (is_reset c.self.inside.core.state) (is_reset c.receive-wire_result.new.self.state)
    ++ steps_for_book c.receive-wire_result.new.report) c.self.inside.book.state
book_is g c = heard_reset _ _ _ _ c.is_reset-began.ensures c.is_reset.ensures
    c.resets-reset.ensures c.settle.ensures.book

pub returns-clause-gives : goal.returns-clause-gives
returns-clause-gives g c =
    rw (← c.self.view_is)
    (record {
      report = c.receive-wire_result.new.report;
      core = c.receive-wire_result.ensures.taken.is;
      report_is = c.receive-wire_result.ensures.taken.settled.report_is;
      book = book_is g c;
      memory = c.settle.ensures.memory;
      queued = c.settle.ensures.queued;
      sent = refl;
      counters = c.turned.ensures ∙ (rw
          c.receive-wire_result.ensures.taken.settled.wire_result_is refl);
      last_loss = c.loss_after-self-inside.ensures ∙ (rw (
        c.status-mode.ensures.mode,
        c.status.ensures.mode,
        c.status.ensures.why,
      ) refl);
    })

pub returns-clause-does : goal.returns-clause-does
returns-clause-does g c =
    let p : PortParts = parts_in c.self.inside in
    let out = reply_out p c.self.invariant (ap awaited_answer c.self.view_is ∙ c.requires) in
    rw (← c.self.view_is) (receive_does p _ (octets_in c.args.received.now)
    c.receive-wire_result.new.report out.0 c.receive-wire_result.ensures.steps refl
    (record { posts = book_is g c; keeps = c.settle.ensures.queued }))
