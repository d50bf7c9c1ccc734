-- A port without the wire: what goes out, and what comes back, are pieces of a run of the abstract
-- port.
-- For the clauses of `PortCore::expect_any`, `PortCore::expect`, `PortCore::receive_wake` and 12
--     more.
use Rattle.std.proofs.Common.{◌≡◌, ◌∷◌, ◌++◌, [], List, ℕ, Bool, true, false, cond, not, ◌&&◌, Option, Some, None, refl, ap, sym, ◌∙◌, subst, inl, inr, arith}
use Rattle.std.specs.Prelude.{IsTrue}
use Rattle.std.specs.List.{list_all}
use Rattle.std.proofs.lemmas.Grind.{common_steps}
use Rattle.iol_far.specs.Far.{Far}
use Rattle.iol_link.specs.WireFacts.{WireFacts}
use Rattle.iol_book.specs.BookModel.{BookState}
use Rattle.iol_mode.specs.declared.states.State.{State}
use Rattle.iol_mode.specs.States.{IsDown, is_reset}
use Rattle.iol_mode.specs.Exchanges.{IsSending}
use Rattle.iol_app.specs.declared.mode.Mode.TheVariants.{Operate}
use Rattle.iol_app.specs.declared.report.Said.{Said}
use Rattle.iol_app.specs.declared.report.Said.TheVariants.{Idle}
use Rattle.iol_app.specs.Abstract.Steps.{PortStep, Make, Reset, WireCall, Moment, through_steps, TakesSteps}
use Rattle.iol_app.specs.Abstract.OfMaster.{resets, steps_for_book}
use Rattle.iol_app.specs.Abstract.Session.{MaySession, session_after}
use Rattle.iol_app.specs.declared.event_work.EventRoom.{EventRoom}
use Rattle.iol_app.specs.declared.wire_result.WireResult.{WireResult}
use Rattle.iol_app.specs.State.{session_expecting, session_with_cycle}
use Rattle.iol_app.specs.StationState.{mode_in}
use Rattle.iol_app.specs.Core.{CoreState, Ghost, session_in, frozen_in, images_in}
use Rattle.iol_app.specs.CoreStands.{BothEndsStand, IsAttempted}
use Rattle.iol_app.specs.CoreGives.{TermsStay, ordered_output, moment_of}
use Rattle.iol_app.specs.CoreTurns.{made_ghost}
use Rattle.iol_app.specs.Pieces.{SendsMessage, IsWholeTurn, SendSteps, WakeSteps, ReceiveSteps, TakeUpGives}
use Rattle.iol_app.specs.CallSteps.{WantSteps}
use Rattle.iol_port.specs.declared.call.Call.{Call}
use Rattle.iol_port.specs.declared.call.Answered.{Answered}
use Rattle.iol_port.specs.declared.call.Answered.TheVariants as answered
use Rattle.iol_port.specs.declared.port_core.PortCore.TheInside.{Inside}
use Rattle.iol_page.specs.declared.cycle.CycleTime.{CycleTime}
use Rattle.iol_page.specs.declared.identity.Identity.{Identity}
use Rattle.iol_port.specs.declared.call.Counting.{Counting}
use Rattle.iol_port.specs.declared.call.Call.TheVariants as call
use Rattle.iol_port.specs.EveryWire.{page_shown}
use Rattle.iol_port.specs.Run.{counting_of, PortState, Pending, SendOf, PieceOf, Send, Receive, is_sending_step, moment_by}
use Rattle.iol_port.specs.declared.awaited.AwaitedAnswer.TheVariants.{Nothing, Wake, Reply}
use Rattle.iol_port.specs.View.{PortParts, PortValue, Choice, IsOutInOperate, IsTied, PendingAt, StandsFor, IsAbstractCall, Does, BeginsNext, abstract_port, on_wire, over}
use Rattle.iol_port.specs.CorePort.{IsCoreCall, awaited_answer, CoreDoes, PieceDoes, SendDoes, ReceiveDoes, WakeDoes}
use Rattle.iol_port.proofs.Filters.{book_through-filter, MayBookAll-filter, queued_through-filter, may_book_report}
use Rattle.iol_port.proofs.TurnLemmas.{Begun, Settles, under, begun, none_down, terms_of, page_read_of}
use Rattle.iol_port.proofs.CallLemmas.{none_pending, expect_does, set_cycle_does}
use Rattle.iol_app.specs.Abstract.Images.{MayImages, images_after}
use Rattle.iol_port.specs.Steps.{MayBook, book_after}
use Rattle.iol_port.specs.Owners.{owners_after}
use Rattle.iol_app.proofs.Parts.{runs-append}

-- the parts that the fields of a port show
abbrev pub parts_in : {A : Type 0} → Inside A → PortParts
parts_in inside = record {
  core = inside.core;
  book = inside.book;
  queued = inside.queued.items;
  sent = inside.sent;
  counters = inside.counters;
  last_loss = inside.last_loss;
}

-- What waits for its answer

pub nothing_out : (p : PortParts) → awaited_answer p ≡ Nothing → p.sent ≡ false
nothing_out p e = grind (arith, common_steps)

pub reply_out : (p : PortParts) → IsTied p → awaited_answer p ≡ Reply
    → (p.sent ≡ true) × IsSending p.core.state
reply_out p tied e = grind (arith, common_steps, tied.out)

pub wake_out : (p : PortParts) → awaited_answer p ≡ Wake → (p.sent ≡ true) × IsDown p.core.state
wake_out p e = grind (arith, common_steps)

-- What goes out

-- a message is made, or none is
abbrev make_of : Bool → List PortStep
make_of made = cond made (Make ∷ []) []

-- it is no business of the book
made_book : (made : Bool) (b : BookState) → TakesSteps MayBook book_after b (make_of made) b
made_book made b = grind (arith, common_steps)

record Sent (mid k : CoreState) (g after : Ghost) (far : Far) (n : ℕ) (made : Bool) : Type 0 where
  stands : BothEndsStand k after far n
  session : (m : Moment) → TakesSteps (MaySession m) session_after (session_in mid g far)
      (make_of made) (session_in k after far)
  frozen : frozen_in after far ≡ frozen_in g far
  images : (call : WireCall)
      → TakesSteps (MayImages (moment_of mid g n call)) (images_after (moment_of mid g n call))
      (images_in mid g far) (make_of made) (images_in k after far)
  terms : TermsStay mid k g after
  asks : mode_in k.state ≡ Operate → n ≡ 0
      → ordered_output k.state k.session ≡ mid.session.output.wanted

is_sent : {mid k : CoreState} {g : Ghost} {far : Far} {n : ℕ} → SendSteps mid k
    → IsAttempted mid.state → BothEndsStand mid g far n
    → (after : Ghost) × (made : Bool) × Sent mid k g after far n made
unfolding SendSteps
is_sent {mid = mid} {g = g} {far = far} {n = n} sends tried stands =
    elim (sends g far n stands) [
      | inl repeat ↦ (g, false, rw repeat.same (grind (arith, common_steps, repeat.asks tried)))
      | inr s ↦ (
        made_ghost mid.session g,
        true,
        record {
          stands = s.stands;
          session = λ m. ((tt, tt), s.session);
          frozen = sym s.frozen;
          images = λ call. ((s.may call, tt), s.images call);
          terms = s.terms;
          asks = λ up calm. s.asks;
        },
      )
    ]

-- what comes first is of the sending too
made_sends : (first : List PortStep) (made : Bool) → IsTrue (list_all is_sending_step first)
    → IsTrue (list_all is_sending_step (first ++ make_of made))
made_sends [] made h = grind (arith, common_steps)
made_sends (x ∷ xs) made h = grind (arith, common_steps, made_sends xs made)

-- where nothing was out
goes_out : {s : CoreState} {start : BookState} {after : Ghost} {made : Bool}
    (p next : PortParts) (far : Far) (n : ℕ) (u : Choice) → u.pending ≡ None
    → next.queued ≡ p.queued
    → next.sent ≡ true → next.book.state ≡ start
    → (b : Begun p.core p.book.state s start u.ghost far n)
    → Sent (under b.current p.core) next.core
    (record u.ghost { request = b.request }) after far n made
    → (m : PortState) × PieceOf (abstract_port far n p u) Send answered.Nothing m
    × StandsFor far n next m
goes_out {start = start} {after = after} {made = made} p next far n u none queued sent book_is b s =
    let before : PortState = abstract_port far n p u in
    let steps : List PortStep = b.first ++ make_of made in
    let c : Choice = record {
      owners = through_steps owners_after steps u.owners;
      ghost = after;
      pending = Some (record { wanted = p.core.session.output.wanted });
    } in (
      abstract_port far n next c,
      (
        refl,
        inl (record {
          free = none;
          page_read = page_read_of b.stands;
          steps = steps;
          only = made_sends b.first made b.only;
          book = rw book_is (runs-append MayBook book_after b.first (make_of made) _ b.book
              (made_book made start));
          session = λ call. let m : Moment = moment_by before call in
              runs-append (MaySession m) session_after b.first (make_of made) _ (b.session m refl)
              (s.session m);
          images = λ call. let m : Moment = moment_by before call in
              runs-append (MayImages m) (images_after m) b.first (make_of made) _
              (b.images m before.images) (s.images call);
          owners = refl;
          frozen = s.frozen;
          queued = queued;
          past = refl;
          silence = refl;
          terms = terms_of s.terms;
          pending = refl;
        }),
      ),
      (
        c,
        record {
          both = s.stands;
          out = (sent, s.asks);
        },
        refl,
      ),
    )

pub send_does : (p next : PortParts) (s : CoreState) (start : BookState)
    → p.sent ≡ false → BeginsNext p.core p.book.state s start
    → SendSteps s next.core → next.book.state ≡ start
    → next.queued ≡ p.queued → next.sent ≡ true → SendDoes p next
unfolding SendDoes
send_does p next s start free begins sends book queued sent = λ far n a for_a.
    let (u, shows, is) = for_a in
    let none = none_pending u.pending p.sent p.core n free shows.out in
    let b = begun begins shows.both in
    let (m, piece, after) = goes_out p next far n u none queued sent book b
    (is_sent (rw b.is at sends) (rw none at shows.out).1 b.stands).2 in
    (m, subst (λ (x : PortState). PieceOf x Send answered.Nothing m) (sym is) piece, after)

-- what is out goes out again
pub resend_does : (p : PortParts) → p.sent ≡ true → SendDoes p p
unfolding SendDoes
resend_does p sent = λ far n a for_a.
    let (u, shows, is) = for_a in
    (a, (refl, inr (rw is (grind (arith, common_steps, shows.out)), refl)), for_a)

-- What comes back

-- to what is out
module _ (p next : PortParts) (far far' : Far) (n n' : ℕ) (report : Said) (free : next.sent ≡ false)
    (settles : Settles p next report (is_reset p.core.state) p.book.state) where
  abbrev Receives : PortState → Type 0
  Receives a = (b : PortState) × PieceOf a Receive answered.Nothing b
      × StandsFor far' n' next b

  receives : (u : Choice) (out : Pending) → u.pending ≡ Some out
      → PendingAt (Some out) p.sent p.core n
      → TakeUpGives p.core u.ghost far n report next.core far' n'
      → Receives (abstract_port far n p u)
  receives u out was shown r =
      let x = r.gives in
      let began : Bool = is_reset p.core.state in
      let ended : Bool = is_reset next.core.state in
      let c : Choice = record {
        owners = through_steps owners_after x.steps u.owners;
        ghost = x.after;
        pending = None;
      } in (
        abstract_port far' n' next c,
        (
          refl,
          record {
            out = out;
            was = was;
            turn = record { call = x.call; steps = x.steps };
            all = record {
              order = x.order;
              fits = x.fits;
              silence = x.silent;
              terms = terms_of x.terms;
              page_read = page_read_of x.stands;
            };
            work = record {
              book = (
                MayBookAll-filter x.steps p.book.state
                    (rw x.book_steps_are (may_book_report began ended report p.book.state)),
                sym (settles.posts
                    ∙ (rw (← x.book_steps_are) (sym (book_through-filter x.steps p.book.state)))),
              );
              session = x.session;
              owners = refl;
              down = none_down next.core.state next.core.session x.after
                  x.after.request.hidden.answer x.stands.joined;
            };
            events = record {
              frozen = x.frozen;
              was_frozen = x.was_frozen;
              queued = sym (settles.keeps
                  ∙ (rw (← x.report_steps_are) (sym (queued_through-filter x.steps p.queued))));
              past = x.past;
            };
            images = record {
              images = x.images;
              awake = x.awake;
              image_is_last = x.image_is_last;
              output_is_wanted = λ silent. x.output_is_wanted silent ∙ shown.1 silent.0 silent.1;
            };
            pending = refl;
          },
        ),
        (c, record { both = x.stands; out = (free, r.attempted) }, refl),
      )

  -- with whatever was out
  taken_up : p.sent ≡ true → ((g : Ghost) → BothEndsStand p.core g far n
      → TakeUpGives p.core g far n report next.core far' n')
      → PieceDoes p far n Receive next far' n'
  taken_up sent gives = λ a for_a.
      let (u, shows, is) = for_a in
      subst Receives (sym is) (by u u.pending refl shows.out (gives u.ghost shows.both))
    where
      by : (u : Choice) (x : Option Pending) → u.pending ≡ x
          → PendingAt x p.sent p.core n
          → TakeUpGives p.core u.ghost far n report next.core far' n'
          → Receives (abstract_port far n p u)
      by u None was shown r = absurd (let k : true ≡ false = sym sent ∙ shown.0 in cc)
      by u (Some out) was shown r = receives u out was shown r

-- the book heard of a reset where both states say so
pub heard_reset : {reset began ended : Bool} (old new : State) (report : Said) (b : BookState)
    {after : BookState} → began ≡ is_reset old → ended ≡ is_reset new
    → reset ≡ (not began && ended)
    → after ≡ through_steps book_after (cond reset (Reset ∷ []) [] ++ steps_for_book report) b
    → after ≡ through_steps book_after
    (resets (is_reset old) (is_reset new) ++ steps_for_book report) b
heard_reset old new report b from to is book_is = rw (is, from, to) at book_is

pub receive_does : (p next : PortParts) (received : Option (List ℕ)) (report : Said) → p.sent ≡ true
    → ReceiveSteps p.core received report next.core → next.sent ≡ false
    → Settles p next report (is_reset p.core.state) p.book.state → ReceiveDoes p received next
unfolding ReceiveSteps ReceiveDoes
receive_does p next received report sent steps free settles = λ far far' n n' x.
    taken_up p next far far' n n' report free settles sent
    (λ g stands. steps g far far' n n' stands x)

pub wake_does : (p next : PortParts) (answered : Bool) → p.sent ≡ true
    → WakeSteps p.core answered next.core → next.sent ≡ false
    → Settles p next Idle (is_reset p.core.state) p.book.state → WakeDoes p answered next
unfolding WakeSteps WakeDoes
wake_does p next answered sent steps free settles = λ far far' n x.
    taken_up p next far far' n n Idle free settles sent (λ g stands. steps g far far' n stands x)

-- what goes out a second time changes nothing
pub sent_same : (room : EventRoom) (old new : CoreState) → IsOutInOperate old.state
    → SendsMessage room old new
    → new ≡ old
sent_same room old new is_out sent = grind (arith, common_steps)

-- What start-ups are to ask is changed

module _ {p q : PortParts} {r : Counting} {k : CoreState} (same : p ≡ q)
    (counts : r ≡ counting_of (page_shown q))
  where
    pub expect_core : {identity : Option Identity}
        → k ≡ record p.core { session = session_expecting identity p.core.session }
        → WantSteps p.core k
        → CoreDoes p (call.Expect identity) (answered.Counts r) (record p { core = k })
    expect_core is gives = record {
      follows = expect_does p _ r k (rw same counts) is gives;
      book = refl;
    }

    pub set_cycle_core : {cycle : Option CycleTime}
        → k ≡ record p.core { session = session_with_cycle cycle p.core.session }
        → WantSteps p.core k
        → CoreDoes p (call.Cycle cycle) (answered.Counts r) (record p { core = k })
    set_cycle_core is gives = record {
      follows = set_cycle_does p _ r k (rw same counts) is gives;
      book = refl;
    }

-- A call that leaves the wire is that of the parts

pub call_over : {W : Type 0} (facts : WireFacts W) (wire : W) (p next : PortParts) (c : Call)
    (reply : Answered) → CoreDoes p c reply next
    → Does facts (on_wire p wire) c reply (on_wire next wire)
unfolding IsAbstractCall IsCoreCall
call_over facts wire p next c reply does = record {
  follows = λ a for_a.
      let (b, step, stands) = does.follows (facts.far wire) (facts.silence wire) a for_a.1 in
      (b, step, (for_a.0, stands));
  book = does.book;
}

-- a port's call, which leaves its wire
pub port_call_over : {W : Type 0} (facts : WireFacts W) (old new : PortValue W) (c : Call)
    (reply : Answered) → CoreDoes old.parts c reply new.parts → new.wire ≡ old.wire
    → Does facts (over old) c reply (over new)
port_call_over facts old new c reply does same =
    rw same (call_over facts old.wire old.parts new.parts c reply does)

-- A turn over a wire is its two pieces

-- nothing was out, so a message is sent, and not again
send_of : {a m : PortState} → a.pending ≡ None → PieceOf a Send answered.Nothing m → SendOf a m
send_of none (report, inl sends) = sends
send_of none (report, inr repeat) = absurd (let k : false ≡ true = rw none at repeat.0 in cc)

-- a message that goes out leaves whether the device was reset
sent_reset : (room : EventRoom) (old mid : CoreState) → SendsMessage room old mid
    → is_reset mid.state ≡ is_reset old.state
sent_reset room old mid sent = grind (arith, common_steps)

module _ {W : Type 0} (facts : WireFacts W) (wire wire' : W) where
  open facts use {honest, far, silence}

  pub turn_does : (p next : PortParts) (room : EventRoom) (report : Said) (wire_result : WireResult)
      (s : CoreState) (start : BookState)
      → p.sent ≡ false → next.sent ≡ false → BeginsNext p.core p.book.state s start
      → IsWholeTurn facts room wire wire' s report wire_result next.core
      → honest wire' ≡ honest wire → Settles p next report (is_reset s.state) start
      → IsAbstractCall facts (on_wire p wire) call.Turn answered.Nothing (on_wire next wire')
  unfolding IsAbstractCall SendDoes
  turn_does p next room report wire_result s start free after begins t honesty settles = λ a for_a.
      let (up, here) = for_a in
      let (u, shows, is) = here in
      let between : PortParts = record {
        core = t.mid;
        book = record p.book { state = start };
        queued = p.queued;
        sent = true;
        counters = p.counters;
        last_loss = p.last_loss;
      } in
      let none : a.pending ≡ None = ap (λ (x : PortState). x.pending) is
      ∙ none_pending u.pending p.sent p.core (silence wire) free shows.out in
      let (m, sends, for_m) =
      send_does p between s start free begins t.puts.steps refl refl refl (far wire)
      (silence wire) a (u, shows, is) in
      let (b, receives, for_b) =
      taken_up between next (far wire) (far wire') (silence wire) (silence wire') report after
      (rw (sent_reset room s t.mid t.puts.sent)
      (record { posts = settles.posts; keeps = settles.keeps })) refl
      (t.takes up) m for_m in (
        b,
        (refl, (m, send_of none sends, receives.1)),
        (rw honesty up, for_b),
      )
