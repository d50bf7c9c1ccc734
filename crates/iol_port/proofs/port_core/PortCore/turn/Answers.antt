-- A turn of a port: what goes out, one call of the wire, and what is made of what came.
use Rattle.std.proofs.Common.{◌≡◌, ◌&&◌, Option, true, false, refl, ap, sym, ◌∙◌, cond, ◌∷◌, [], ◌++◌, arith}
use Rattle.std.proofs.lemmas.Grind.{common_steps}
use Rattle.iol_app.specs.Abstract.Steps.{Reset}
use Rattle.iol_app.specs.Abstract.OfMaster.{steps_for_book}
use Rattle.iol_app.specs.Due.{is_ready}
use Rattle.iol_app.specs.StationState.{operates}
use Rattle.iol_app.specs.Core.{CoreState}
use Rattle.iol_isdu.specs.declared.values.Request.{Request}
use Rattle.iol_book.specs.BookModel.{next_taken}
use Rattle.iol_port.specs.Asks.{event_room, lacks_isdu, to_begin}
use Rattle.iol_port.specs.EveryWire.{core_begun}
use Rattle.iol_port.specs.View.{PortParts, PortOver, IsTied, on_wire}
use Rattle.iol_port.proofs.AskLemmas.{book_reported, turned_at}
use Rattle.iol_port.proofs.CorePorts.{parts_in, turn_does}
use Rattle.iol_port.proofs.Denying.{turn_denies}
use Rattle.iol_port.proofs.TieLemmas.{ends_ask, sent_tied, turn_tied, made_limit}
use Rattle.iol_port.proofs.TurnLemmas.{turn_gives_none}
use Rattle.iol_port.proofs.CleanTurns.{clean_turn, none_reset}
use Rattle.iol_port.proofs.port_core.PortCore.turn.Given as given
use Rattle.iol_port.proofs.port_core.PortCore.turn.Goals as goal

pub settle-requires-clause-asked : goal.settle-requires-clause-asked
settle-requires-clause-asked g c =
    let t = c.turn-wire_result.ensures.turn in
    ends_ask _ _ _ (sent_tied (parts_in c.self.inside) c.begin_next.new.core t.mid
    c.begin_next.new.book _ c.self.invariant c.begin_next.ensures.next
    (c.event_room-room.ensures ∙ ap (λ (q : PortParts). event_room q.queued)
    (sym c.self.view_is)) t.puts.sent t.puts.reads).same t.report_fits.ends

pub settle-requires-clause-room : goal.settle-requires-clause-room
settle-requires-clause-room g c =
    let t = c.turn-wire_result.ensures.turn in
    let tied = sent_tied (parts_in c.self.inside) c.begin_next.new.core t.mid
    c.begin_next.new.book _ c.self.invariant c.begin_next.ensures.next
    (c.event_room-room.ensures ∙ ap (λ (q : PortParts). event_room q.queued)
    (sym c.self.view_is)) t.puts.sent t.puts.reads in
    grind (arith, common_steps, tied.room, t.report_fits.reading)

free : (g : given.Over) (c : goal.After-settle g) → c.self.inside.sent ≡ false
free g c = ap (λ (q : PortParts). q.sent) c.self.view_is ∙ c.requires.free

room : (g : given.Over) (c : goal.After-settle g)
    → c.event_room-room.result ≡ event_room (parts_in c.self.inside).queued
room g c = c.event_room-room.ensures
    ∙ ap (λ (q : PortParts). event_room q.queued) (sym c.self.view_is)

mid_tied : (g : given.Over) (c : goal.After-settle g) → IsTied (record (parts_in c.self.inside) {
  core = c.turn-wire_result.ensures.turn.mid;
  book = c.begin_next.new.book;
  sent = false;
})
mid_tied g c = let t = c.turn-wire_result.ensures.turn in
    sent_tied (parts_in c.self.inside) c.begin_next.new.core t.mid c.begin_next.new.book _
    c.self.invariant c.begin_next.ensures.next (room g c) t.puts.sent t.puts.reads

pub invariant_of-self : goal.invariant_of-self
invariant_of-self g c =
    let t = c.turn-wire_result.ensures.turn in
    rw (free g c)
    (turn_tied _ c.turn-wire_result.new.self c.settle.new.queued.items
    c.settle.new.book c.resets-reset.result c.turn-wire_result.new.report (mid_tied g c)
    (made_limit g.W.Wire.facts c.args.wire.now c.turn-wire_result.new.wire _ _ _ _ _ t)
    t.report_fits
    c.settle.ensures.book c.settle.ensures.queued)

-- and what was begun, over the wire
abbrev before : (g : given.Over) (c : goal.After-settle g) → PortOver g.row.W.Denot
before g c = on_wire (parts_in c.self.inside) c.args.wire.now

abbrev parts_after : (g : given.Over) (c : goal.After-settle g) → PortParts
parts_after g c = record {
  core = c.turn-wire_result.new.self;
  book = c.settle.new.book;
  queued = c.settle.new.queued.items;
  sent = c.self.inside.sent;
  counters = c.turned.new.self;
  last_loss = c.loss_after-self-inside.result;
}

abbrev after : (g : given.Over) (c : goal.After-settle g) → PortOver g.row.W.Denot
after g c = on_wire (parts_after g c) c.turn-wire_result.new.wire

-- in a turn that begins in OPERATE the device isn't reset
unreset : (g : given.Over) (c : goal.After-settle g)
    → operates c.begin_next.new.core.state ≡ true → c.resets-reset.result ≡ false
unreset g c = none_reset g.W.Wire.facts c.begin_next.new.core.state _ _ c.resets-reset.result
    c.is_reset-began.ensures c.resets-reset.ensures

pub returns-clause-does : goal.returns-clause-does
returns-clause-does g c =
    rw (← c.self.view_is)
    (record {
      follows = turn_does g.W.Wire.facts c.args.wire.now c.turn-wire_result.new.wire
          (parts_in c.self.inside) (parts_after g c) c.event_room-room.result
          c.turn-wire_result.new.report c.turn-wire_result.result
          c.begin_next.new.core c.begin_next.new.book.state (free g c)
          (free g c) c.begin_next.ensures.next
          c.turn-wire_result.ensures.turn c.turn-wire_result.ensures.honest
          (record { posts = cc; keeps = c.settle.ensures.queued });
      book = turn_gives_none _ _ _ _ _
          (cond c.resets-reset.result (Reset ∷ []) []
          ++ steps_for_book c.turn-wire_result.new.report)
          c.begin_next.ensures.next c.settle.ensures.book;
    })

pub returns-clause-clean : goal.returns-clause-clean
returns-clause-clean g c =
    rw (← c.self.view_is)
    (clean_turn g.W.Wire.facts c.clean_laws.ensures g.met.W.Wire.clean_exchanges (before g c)
    (after g c) c.begin_next.new.core c.begin_next.new.book.state _ c.resets-reset.result
    c.turn-wire_result.new.report c.begin_next.ensures.next c.begin_next.ensures.takes
    c.turn-wire_result.result c.turn-wire_result.ensures.turn
    (rw (← c.self.view_is) at c.requires.stands) c.self.invariant.busy (unreset g c)
    c.settle.ensures.book)

pub returns-clause-gives : goal.returns-clause-gives
returns-clause-gives g c =
    let p : PortParts = parts_in c.self.inside in
    let report = c.turn-wire_result.new.report in
    let next : Option Request = to_begin (lacks_isdu p.core.session.isdu)
    (next_taken p.book.state) in
    let turned = turned_at g.W.Wire.facts {has = event_room p.queued} {begun = core_begun p}
    c.turn-wire_result.ensures.turn (room g c)
    (c.begin_next.ensures.exact ∙ (rw (room g c) refl)) in
    rw (← c.self.view_is)
    (record {
      report = report;
      wire_result = c.turn-wire_result.result;
      mid = c.turn-wire_result.ensures.turn.mid;
      sent = turned.0;
      made = turned.1;
      book = c.settle.ensures.book
          ∙ book_reported p.core c.begin_next.new.core (parts_after g c).core next
          c.event_room-room.result _ _ _ report c.begin_next.new.book.state
          c.begin_next.ensures.exact c.is_reset-began.ensures c.is_reset.ensures
          c.resets-reset.ensures ∙ (rw (c.begin_next.ensures.taken, room g c) refl);
      memory = c.settle.ensures.memory ∙ c.begin_next.ensures.memory;
      queued = c.settle.ensures.queued;
      counters = c.turned.ensures;
      last_loss = c.loss_after-self-inside.ensures ∙ (rw (
        c.status-mode.ensures.mode,
        c.status.ensures.mode,
        c.status.ensures.why,
      ) refl);
      denies = λ ticket has. turn_denies p (parts_after g c) c.begin_next.new.book.state
          c.resets-reset.result report
          (ends_ask _ _ _ (mid_tied g c).same c.turn-wire_result.ensures.turn.report_fits.ends)
          c.settle.ensures.book ticket has
          (operates p.core.state && is_ready p.core.session c.event_room-room.result)
          c.begin_next.ensures.taken
          (λ ready. unreset g c (ap (λ (k : CoreState). operates k.state)
          c.begin_next.ensures.exact ∙ (grind (arith, common_steps))));
    })
