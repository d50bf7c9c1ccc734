-- What a wake brought is one piece of a run.
use Rattle.std.proofs.Common.{◌≡◌, ◌∙◌, ◌++◌, refl, ap, append-nil}
use Rattle.std.specs.Prelude.{is_some}
use Rattle.iol_mode.specs.States.{is_reset}
use Rattle.iol_app.specs.Abstract.Steps.{through_steps}
use Rattle.iol_app.specs.Abstract.OfMaster.{resets, steps_for_book}
use Rattle.iol_app.specs.declared.report.Said.TheVariants.{Idle}
use Rattle.iol_app.specs.Core.{CoreState}
use Rattle.iol_port.specs.View.{PortParts}
use Rattle.iol_port.specs.CorePort.{awaited_answer}
use Rattle.iol_port.proofs.CorePorts.{parts_in, wake_out, wake_does, heard_reset}
use Rattle.iol_port.proofs.TieLemmas.{turn_tied, woken_limit}
use Rattle.iol_port.proofs.port_core.PortCore.receive_wake.Given as given
use Rattle.iol_port.proofs.port_core.PortCore.receive_wake.Goals as goal
use Rattle.iol_port.specs.Steps.{book_after}

pub invariant_of-self : goal.invariant_of-self
invariant_of-self g c =
    let p : PortParts = parts_in c.self.inside in
    turn_tied p c.receive_wake.new.self c.settle.new.queued.items
    c.settle.new.book c.resets-reset.result Idle c.self.invariant
    (ap (λ (k : CoreState). k.session.limit) c.receive_wake.ensures.core
    ∙ woken_limit (is_some c.args.rate) c.self.inside.core.session)
    c.receive_wake.ensures.report_fits c.settle.ensures.book c.settle.ensures.queued

-- the book heard of a reset where both cores say so
book_is : (g : given.Over) (c : goal.After-settle g) → c.settle.new.book.state
    ≡ through_steps book_after
    (resets (is_reset c.self.inside.core.state) (is_reset c.receive_wake.new.self.state)
    ++ steps_for_book Idle) c.self.inside.book.state
book_is g c = heard_reset _ _ Idle c.self.inside.book.state c.is_reset-began.ensures
    c.is_reset.ensures
    c.resets-reset.ensures c.settle.ensures.book

pub returns-clause-gives : goal.returns-clause-gives
returns-clause-gives g c =
    rw (← c.self.view_is)
    (record {
      core = c.receive_wake.ensures.core;
      book = rw append-nil at (book_is g c);
      memory = c.settle.ensures.memory;
      queued = c.settle.ensures.queued;
      sent = refl;
      counters = c.turned.ensures ∙ (rw c.of_wake.ensures refl);
      last_loss = c.loss_after-self-inside.ensures ∙ (rw (
        c.status-mode.ensures.mode,
        c.status.ensures.mode,
        c.status.ensures.why,
      ) refl);
    })

pub returns-clause-does : goal.returns-clause-does
returns-clause-does g c =
    let p : PortParts = parts_in c.self.inside in
    let out = wake_out p (ap awaited_answer c.self.view_is ∙ c.requires) in
    rw (← c.self.view_is) (wake_does p _ (is_some c.args.rate) out.0
    c.receive_wake.ensures.steps refl
    (record { posts = book_is g c; keeps = c.settle.ensures.queued }))
