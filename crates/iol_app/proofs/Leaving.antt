-- An exchange of a start-up whose device wasn't reset yet: DeviceStartup is out, or behind it the
-- read of the page's first octet.
-- For the clauses of `laws::rise_gives`.
use Rattle.std.proofs.Common.{◌≡◌, ◌≢◌, ℕ, ◌+◌, min, Bool, true, false, List, [], ◌∷◌, refl, sym, ◌∙◌, ap, subst, arith}
use Rattle.std.proofs.lemmas.Grind.{common_steps}
use Rattle.std.proofs.lemmas.Bool.Decides.{nat_tests}
use Rattle.std.specs.Prelude.{Option, Some, None, ◌==◌, if◌then◌else◌, IsTrue}
use Rattle.iol_mseq.specs.Shape.{Shape, startup_shape}
use Rattle.iol_mseq.specs.Texts.{master_text}
use Rattle.iol_mseq.specs.Replies.{reply_in}
use Rattle.iol_mseq.specs.declared.master.MasterMsg.{MasterMsg}
use Rattle.iol_mseq.specs.declared.reply.Reply.{Reply}
use Rattle.iol_far.specs.declared.mode.DeviceMode.TheVariants.{Startup as FarStartup, Operate as FarOperate}
use Rattle.iol_far.specs.Codec.{layout_in, reply_octets}
use Rattle.iol_far.specs.Far.{Far, layout_of, accepted_message, heard_as, far_after_message, reply_to, output_of}
use Rattle.iol_far.specs.Local.{locals}
use Rattle.iol_far.specs.Level.{FarLink}
use Rattle.iol_far.specs.Linked.{TextsAreHeard, IsAt}
use Rattle.iol_far.specs.Laws.{IsSized, confirms as octets_confirm}
use Rattle.iol_far.specs.Orderly.{IsOrderly, IsToPage, OrderlyLaws}
use Rattle.iol_link.specs.declared.handler.Attempt.TheVariants.{Retry, Lost as WasLost}
use Rattle.iol_link.specs.Attempts.{good_reply}
use Rattle.iol_link.specs.Honest.{Passage, OutLost, IsUnread, HonestExchange, far_after}
use Rattle.iol_mode.specs.declared.configuration.Devices.{Devices}
use Rattle.iol_mode.specs.declared.configuration.Devices.TheVariants.{Any}
use Rattle.iol_mode.specs.declared.states.Startup.{Startup}
use Rattle.iol_mode.specs.declared.states.StartupStep.{StartupStep}
use Rattle.iol_mode.specs.declared.states.StartupStep.TheVariants.{Reset as Leaves, First, Read}
use Rattle.iol_mode.specs.declared.states.State.TheVariants.{Startup as AtStartup}
use Rattle.iol_mode.specs.declared.why.Why.TheVariants.{Lost}
use Rattle.iol_mode.specs.Next.{read_by}
use Rattle.iol_mode.specs.Stands.{startup_link, StartupStands, StateStands}
use Rattle.iol_mode.specs.States.{NextMode, InStartup, NextModeFits, StartupFits, StateFits, next_state, is_behind, startup_at, step_after, startup_by, startup_turned}
use Rattle.iol_mode.specs.Turns.{IsRisen}
use Rattle.iol_mode.specs.Exchanges.{text_out, mode_after_reply}
use Rattle.iol_app.specs.declared.mode.Mode.TheVariants.{Startup as ModeStartup, Operate as ModeOperate}
use Rattle.iol_app.specs.declared.report.Said.TheVariants.{Idle}
use Rattle.iol_app.specs.Abstract.Steps.{PortStep, Reset, Exchanged, silence_by}
use Rattle.iol_app.specs.Abstract.Session.{MayReset}
use Rattle.iol_app.specs.Abstract.OfDevice.{Hidden}
use Rattle.iol_app.proofs.AllLaws.{Laws, sized_locals}
use Rattle.iol_app.proofs.Orderly.{orderly_locals, alike_sent}
use Rattle.iol_app.proofs.Effects.{Effect, Ends, unreported_effect, opens_passed, unreported_of, gives, loses}
use Rattle.iol_app.proofs.Shown.{shown_as}
use Rattle.iol_app.proofs.FirstOctet.{confirms_of}
use Rattle.iol_app.proofs.StartMessages.{step_channel, page_confirms}
use Rattle.iol_app.proofs.SmallFacts.{third_time}
use Rattle.iol_app.proofs.PastPart.{none_waits}
use Rattle.arrayvec.specs.ArrayVec.{ArrayVec}
use Rattle.iol_app.specs.Requests.{request_under_way}
use Rattle.iol_app.specs.State.{SessionState}
use Rattle.iol_app.specs.Core.{CoreState, Ghost}
use Rattle.iol_app.specs.CoreStands.{BothEndsStand}
use Rattle.iol_app.specs.CoreGives.{CallGives}
use Rattle.iol_app.specs.CoreTurns.{settled_core}
use Rattle.iol_app.specs.Abstract.Turn.{may_bring}

below : ModeStartup ≢ ModeOperate
below e = absurd (cc)

may_reset : (devices : Devices) → devices ≡ Any → MayReset devices ModeStartup (Exchanged true)
may_reset devices e = grind (arith, common_steps)

is_valid_not : (v : Bool) → (v ≡ true → FarStartup ≡ FarOperate) → v ≡ false
is_valid_not v h = grind (arith, common_steps)

module _ (laws : Laws) (leaves : OrderlyLaws) (heard : TextsAreHeard) (s : Startup)
    (t : SessionState) (g : Ghost) (far far' : Far) (n n' : ℕ) (received : Option (List ℕ))
    (b : is_behind s.step ≡ false)
    (stands : BothEndsStand (record { state = AtStartup s; session = t }) g far n)
    (x : HonestExchange far n (text_out (AtStartup s)) received far' n') where
  abbrev c : CoreState
  c = record { state = AtStartup s; session = t }

  abbrev message : MasterMsg
  message = s.sent.message

  abbrev o : List ℕ
  o = master_text startup_shape message

  abbrev there : Far
  there = locals far x.steps

  to_page : IsToPage o message
  to_page = record {
    heard = heard startup_shape message stands.fits.parts;
    page = rw stands.fits.message_is (step_channel s.step stands.fits.step);
  }

  orderly : IsOrderly there
  orderly =
      let level = stands.link.level in
      orderly_locals leaves far x.steps (grind (arith, common_steps, b, level))

  orderly_passed : (passage : Passage) → IsOrderly (far_after passage there o)
  orderly_passed OutLost = orderly
  orderly_passed other = leaves.hears there o message to_page orderly

  unconfirmed : octets_confirm o ≡ false
  unconfirmed = sym (confirms_of startup_shape o message to_page.heard)
      ∙ page_confirms message to_page.page

  abbrev passed : Far
  passed = far_after x.passage there o

  nothing : request_under_way t.current ≡ None
  nothing = ap request_under_way stands.joined.0.0

  abbrev effect : Effect c g far passed n n'
  effect = unreported_effect c g far laws nothing stands.request.1
      (none_waits far.events x.regular.memory) x.steps n n' x.passage o
      x.silence_is unconfirmed
      (opens_passed g.request.hidden far x.steps x.passage o
      (leaves.holds there o message to_page) stands.request.1)
      (alike_sent leaves g.sent there o message to_page orderly) stands.events.1

  -- Whether the silence went on

  unread : (page : List ℕ) (q : Option (List ℕ)) → IsUnread page o q
      → good_reply startup_shape message q ≡ None
  unfolding layout_in
  unread page None h = refl
  unread page (Some answer) h = h FarStartup message to_page.heard

  -- what the far end answers there is a good reply
  answers : (q : Option (Far × MasterMsg)) → accepted_message there o ≡ q → (reply : List ℕ)
      → (heard_as there o q).reply ≡ Some reply
      → good_reply startup_shape message (Some reply) ≡ None → ⊥
  answers None e reply is bad = absurd (cc)
  answers (Some (at, m)) e reply is bad =
      let alike = leaves.alike there o message to_page orderly at m e in
      let new : Far = far_after_message at o m in
      let answer : Reply = reply_to new (layout_of new) m in
      let reads = laws.reads new m (subst IsSized
      (ap (λ (q : Option (Far × MasterMsg)). (heard_as there o q).far) e)
      (laws.sized.hears there o (sized_locals laws x.steps far x.regular.sized))) in
      let same : reply ≡ reply_octets answer = cc in
      let here : reply_in startup_shape message.mc.read reply ≡ Some answer = rw same
      (ap (λ (l : Shape). reply_in l message.mc.read (reply_octets answer)) (sym alike.layout)
      ∙ ap (λ (q : MasterMsg). reply_in (layout_of new) q.mc.read (reply_octets answer))
      (sym alike.message_is) ∙ reads) in
      let k : None ≡ Some answer = sym bad ∙ here in cc

  missed : good_reply startup_shape message received ≡ None → n' ≡ min 3 (n + 1)
  missed bad = grind (arith, common_steps, answers)

  takes_reply : (r : Reply) → good_reply startup_shape message received ≡ Some r → n' ≡ 0
  takes_reply r good = grind (arith, common_steps, unread)

  -- The outcomes

  abbrev Gives : NextMode → Type 0
  Gives outcome = CallGives c g far n Idle (settled_core outcome t) passed n'

  no_image : t.image ≡ None
  no_image = stands.shown.image below

  -- it stays in STARTUP
  stays_up : {answered : Bool} {ys : List PortStep} {next : Startup} {hidden : Hidden}
      → Ends c g far passed n n' effect stands below (Exchanged answered) ys
      (record { state = AtStartup next; session = t }) hidden false
      → n' ≡ silence_by (Exchanged answered) n
      → StartupFits next → StartupStands next n' passed → read_by next.step ≡ None
      → Gives (InStartup next)
  stays_up {answered} {ys} {next} {hidden} e silence fits link none = rw none
      (gives c g far passed n n' effect stands below (Exchanged answered) ys
      (record { state = AtStartup next; session = t }) hidden false e tt silence fits link
      (stands.joined.0, rw none tt))

  any_way : (answered : Bool)
      → IsTrue (may_bring ModeStartup (Exchanged answered) [])
  any_way answered = grind (arith, common_steps)

  -- it goes on before the reset
  goes : (answered : Bool) → n' ≡ silence_by (Exchanged answered) n → {next : Startup}
      → is_behind next.step ≡ false → StartupStands next n' passed → StartupFits next
      → Gives (InStartup next)
  goes answered silence {next} before link fits =
      stays_up {answered = answered} {ys = []} {hidden = effect.hidden} (record {
        limit = refl;
        configuration = refl;
        brings = any_way answered;
        reports = refl;
        book = rw (b, before) refl;
        session = (tt, refl);
        frozen = (tt, refl);
        images = (tt, refl);
        image = no_image;
        left = record {
          request = (
            λ k. absurd (cc (before, k)),
            effect.opens,
            stands.request.2,
            λ _. stands.request.3 b,
          );
          events = (stands.events.0, refl);
          output = (stands.output.0, λ k. absurd (cc (before, k)));
          quiet = tt;
        };
        sent = stands.sent;
        shown = shown_as stands.shown (λ e. no_image) refl stands.shown.present
            stands.shown.no_form;
      }) silence fits link (grind (arith, common_steps, before))

  -- the page's first octet is read: the device holds nothing of before
  reads : n' ≡ 0 → {octets : ArrayVec ℕ} → IsAt passed.page startup_link passed
      → StateStands (next_state (startup_at (Read octets))) n' passed
      → StateFits (next_state (startup_at (Read octets))) → Gives (startup_at (Read octets))
  reads silence at link fits =
      let orderly = orderly_passed x.passage in
      let mode : passed.mode ≡ FarStartup = ap (λ (l : FarLink). l.mode) at.link_is in
      let off : passed.valid ≡ false =
      is_valid_not passed.valid (λ v. sym mode ∙ orderly.valid v) in
      let none : output_of passed ≡ None = grind (arith, common_steps, off) in
      stays_up {answered = true} {ys = Reset ∷ []} {hidden = record effect.hidden { late = None }}
      (record {
        limit = refl;
        configuration = refl;
        brings = refl;
        reports = refl;
        book = rw b refl;
        session = ((may_reset t.configuration.devices (stands.request.3 b), tt), rw nothing refl);
        frozen = ((tt, tt), unreported_of passed.events.frozen effect.reported);
        images = ((tt, tt), rw none refl);
        image = no_image;
        left = record {
          request = (
            λ _. refl,
            rw (orderly.startup mode) tt,
            stands.request.2,
            λ k. absurd (cc k),
          );
          events = (stands.events.0, refl);
          output = (
            stands.output.0,
            λ _. record {
              unacknowledged = stands.output.0;
              off = λ a. off;
              waits = rw (ap (λ (l : FarLink). l.waits) at.link_is) tt;
            },
          );
          quiet = tt;
        };
        sent = stands.sent;
        shown = shown_as stands.shown (λ e. no_image) refl stands.shown.present
            stands.shown.no_form;
      }) silence fits link refl

  -- What comes back

  by_tries : (two : Bool) → (s.sent.tries == 2) ≡ two → n' ≡ min 3 (n + 1)
      → let outcome : NextMode = startup_by t.configuration
      (record { message = message; tries = if two then 0 else s.sent.tries + 1 }) s.step
      (if two then WasLost else Retry) in
      IsRisen (is_behind s.step) outcome n' far far' → NextModeFits outcome → Gives outcome
  by_tries true two silence risen fits =
      loses c g far passed n n' effect stands below (Exchanged false) Lost nothing refl
      (third_time s.sent.tries n (grind (arith, nat_tests)) stands.link.tries) tt silence
  by_tries false two silence risen fits =
      goes false silence b (rw x.far_is at risen.both.stands) fits

  by_step : (step : StartupStep) → is_behind step ≡ false → (r : Reply) → n' ≡ 0
      → IsRisen (is_behind step) (step_after t.configuration step r) n' far far'
      → NextModeFits (step_after t.configuration step r) → Gives (step_after t.configuration step r)
  by_step Leaves before r silence risen fits =
      goes true silence refl (rw x.far_is at risen.both.stands) fits
  by_step First before r silence risen fits = reads silence
      (rw x.far_is at (risen.both.met refl)) (rw x.far_is at risen.both.stands) fits
  by_step other before r silence risen fits = absurd (cc)

  by_reply : (q : Option Reply) → good_reply startup_shape message received ≡ q
      → let outcome : NextMode = startup_turned t.configuration s q in
      IsRisen (is_behind s.step) outcome n' far far' → NextModeFits outcome → Gives outcome
  by_reply None bad = by_tries (s.sent.tries == 2) refl (missed bad)
  by_reply (Some r) good = by_step s.step b r (takes_reply r good)

  pub leaving_rises : let outcome : NextMode =
      mode_after_reply t.configuration (AtStartup s) received in
      IsRisen (is_behind s.step) outcome n' far far' → NextModeFits outcome
      → CallGives c g far n Idle (settled_core outcome t) far' n'
  leaving_rises risen fits =
      rw x.far_is (by_reply (good_reply startup_shape message received) refl risen fits)
