-- In OPERATE a new message is out, where none was.
use Rattle.std.proofs.Common.{◌≡◌, ◌∙◌, refl, sym, ap, None, Option, arith}
use Rattle.std.proofs.lemmas.Grind.{common_steps}
use Rattle.iol_link.specs.Attempts.{Sending}
use Rattle.iol_mode.specs.declared.states.State.{State}
use Rattle.iol_mode.specs.declared.states.State.TheVariants.{Operate as AtOperate}
use Rattle.iol_mode.specs.Exchanges.{StandsOn, state_with_out}
use Rattle.iol_mode.specs.Messages.{new_sending}
use Rattle.iol_app.specs.declared.session.Purpose.{Purpose}
use Rattle.iol_app.specs.Due.{due_of}
use Rattle.iol_app.specs.State.{SessionState, IsMessageFor, session_sending}
use Rattle.iol_app.specs.StationState.{SessionFits}
use Rattle.iol_app.specs.Core.{CoreState}
use Rattle.iol_app.specs.CoreTurns.{core_out}
use Rattle.iol_app.specs.Pieces.{SendsMessage}
use Rattle.iol_app.proofs.Pieces.{no_exchange, new_sends, sent_reads}
use Rattle.iol_app.proofs.core_data.Core.put_due.Goals as goal

pub returns-then-is_none : goal.returns-then-is_none
returns-then-is_none c =
    let layouts = c.in-Operate.operate.layouts in
    let t : SessionState = c.self.inside.session in
    let due : Purpose = due_of t c.args.room in
    let made = c.new_message in
    let m = made.new.message in
    let none : c.in-Operate.operate.out ≡ None = grind (arith, common_steps) in
    let free : State = AtOperate (record { out = None; layouts = layouts }) in
    let state_is : c.self.inside.state ≡ free = c.in-Operate.is
    ∙ ap (λ (o : Option Sending). AtOperate (record { out = o; layouts = layouts })) none in
    let next : CoreState = core_out layouts (new_sending m) (session_sending due t) due t.current in
    let put_is : c.put_out.new.self ≡ next.state = c.put_out.ensures.state
    ∙ ap (state_with_out m) state_is in
    let new : CoreState = record { state = c.put_out.new.self; session = made.new.self } in
    let new_is : new ≡ next =
    λ i. record { state = put_is i; session = made.ensures.session i } in
    let old : CoreState = record { state = free; session = t } in
    let old_is : c.args.self.now ≡ old = sym c.self.view_is
    ∙ (λ i. record { state = state_is i; session = t }) in
    let joined : SessionFits free t = rw state_is at c.self.invariant.1 in
    let is : IsMessageFor due (session_sending due t) m =
    record { head = made.ensures.due.head; octets = made.ensures.due.od } in
    let sent : SendsMessage c.args.room old next = record {
      message = m;
      is = refl;
      due = is;
      parts = rw joined.has_layouts.0 at made.ensures.parts;
      carries = made.ensures.due.out;
    } in
    let on : StandsOn old.state next.state =
    rw (state_is, put_is) at c.put_out.ensures.stands in
    rw (old_is, new_is) (record {
      sent = sent;
      reads = sent_reads c.args.room old next sent;
      on = on;
      steps = new_sends c.station_laws.ensures layouts t c.args.room m c.is_valid.ensures
          (no_exchange t.exchange t joined.out_for) is made.ensures.due.out
          (rw put_is at c.put_out.ensures.fits)
          (λ far. rw put_is at (c.put_out.ensures.accepted far)) on;
    })
