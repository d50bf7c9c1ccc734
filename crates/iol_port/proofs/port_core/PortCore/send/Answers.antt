-- What goes out: the next request is begun before it where nothing was out.
use Rattle.std.proofs.Common.{◌≡◌, ◌∙◌, true, false, refl, sym, ap, inl, arith}
use Rattle.std.proofs.lemmas.Grind.{common_steps}
use Rattle.iol_app.specs.Pieces.{SendsMessage}
use Rattle.iol_port.specs.Asks.{event_room}
use Rattle.iol_port.specs.EveryWire.{core_begun}
use Rattle.iol_port.specs.View.{PortParts, BeginsNext}
use Rattle.iol_port.proofs.TieLemmas.{send_tied}
use Rattle.iol_port.specs.CorePort.{PortSendGives, SendDoes}
use Rattle.iol_port.proofs.CorePorts.{parts_in, send_does, resend_does, sent_same}
use Rattle.iol_port.proofs.port_core.PortCore.send.Goals.{then-not-self, else-not-self}
use Rattle.iol_port.proofs.port_core.PortCore.send.Given as given
use Rattle.iol_port.proofs.port_core.PortCore.send.Goals as goal

room : (g : given.Over) (c : goal.After-send g)
    → c.event_room-room.result ≡ event_room (parts_in c.self.inside).queued
room g c = c.event_room-room.ensures
    ∙ ap (λ (q : PortParts). event_room q.queued) (sym c.self.view_is)

pub invariant_of-self : goal.invariant_of-self
invariant_of-self g c =
    let p : PortParts = parts_in c.self.inside in
    let now = c.if-not-self.self-inside in
    let begun = elim c.if-not-self.branch as (λ _. BeginsNext p.core p.book.state
    now.core now.book.state × (now.queued.items ≡ p.queued)) [
      | then-not-self w ↦ rw w.self-inside-is (w.begin_next.ensures.next, refl)
      | else-not-self w ↦ rw w.self-inside-is (inl (refl, refl), refl)
    ] in
    send_tied p now.core c.send.new.self now.book now.queued.items now.sent c.event_room-room.result
    c.self.invariant begun.0 begun.1 (room g c) c.send.ensures.puts.sent
    c.send.ensures.puts.reads (λ _. grind (arith, common_steps, c.send.ensures.says))

-- the parts after the sending
abbrev after : (g : given.Over) (c : goal.After-send g) → PortParts
after g c = record (parts_in c.if-not-self.self-inside) { core = c.send.new.self }

both : (g : given.Over) (c : goal.After-send g)
    → PortSendGives c.args.self.now (after g c) × SendDoes c.args.self.now (after g c)
both g c =
    let p : PortParts = parts_in c.self.inside in
    rw (← c.self.view_is)
    (elim c.if-not-self.branch [
      | then-not-self w ↦
          let begun = w.begin_next in
          let exact : begun.new.core ≡ core_begun p =
          begun.ensures.exact ∙ (rw (room g c) refl) in
          let sent : SendsMessage (event_room p.queued) (core_begun p) c.send.new.self =
          rw (w.self-inside-is, exact, room g c) at c.send.ensures.puts.sent in
          rw w.self-inside-is (
            record {
              core = λ _. sent;
              book = λ _. begun.ensures.taken ∙ (rw (room g c) refl);
              memory = begun.ensures.memory;
              queued = refl;
              sent = refl;
              counters = refl;
              last_loss = refl;
            },
            send_does p _ begun.new.core begun.new.book.state (cc)
                begun.ensures.next
                (rw w.self-inside-is at c.send.ensures.puts.steps) refl refl refl,
          )
      | else-not-self w ↦
          let sent : p.sent ≡ true = cc in
          let same : c.send.new.self ≡ c.self.inside.core = sent_same c.event_room-room.result
          c.self.inside.core c.send.new.self (c.self.invariant.out sent)
          (rw w.self-inside-is at c.send.ensures.puts.sent) in
          rw (w.self-inside-is, same) (
            record {
              core = λ free. absurd (let k : true ≡ false = sym sent ∙ free in cc);
              book = λ free. absurd (let k : true ≡ false = sym sent ∙ free in cc);
              memory = refl;
              queued = refl;
              sent = sent;
              counters = refl;
              last_loss = refl;
            },
            resend_does p sent,
          )
    ])

pub returns-clause-gives : goal.returns-clause-gives
returns-clause-gives g c = (both g c).0

pub returns-clause-does : goal.returns-clause-does
returns-clause-does g c = (both g c).1
