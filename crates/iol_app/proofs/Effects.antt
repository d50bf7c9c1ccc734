-- What the far end does in one call of a port outside OPERATE, and what the port makes of it.
-- For the clauses of `laws::rise_gives`, `laws::wake_gives` and `laws::receive_gives`.
use Rattle.std.proofs.Common.{◌≡◌, ◌≢◌, ◌⊎◌, ℕ, Bool, true, false, ◌&&◌, List, [], ◌∷◌, ◌++◌, filter, refl, sym, ◌∙◌, arith}
use Rattle.std.proofs.lemmas.Grind.{common_steps}
use Rattle.std.specs.Prelude.{Some, None, IsTrue}
use Rattle.iol_event.specs.declared.event.Event.{Event}
use Rattle.iol_far.specs.Isdu.{Empty}
use Rattle.iol_far.specs.Far.{Far, hear}
use Rattle.iol_far.specs.Local.{LocalStep, locals}
use Rattle.iol_far.specs.Laws.{confirms as octets_confirm}
use Rattle.iol_link.specs.Honest.{Passage, far_after, unaltered_reply, silence_after}
use Rattle.iol_mode.specs.declared.why.Why.{Why}
use Rattle.iol_mode.specs.Kinds.{SeesPulses}
use Rattle.iol_mode.specs.Stands.{StateStands}
use Rattle.iol_mode.specs.States.{InDown, StateFits, is_reset}
use Rattle.iol_app.specs.declared.mode.Mode.TheVariants.{Down as ModeDown, Operate as ModeOperate}
use Rattle.iol_app.specs.declared.report.Said.TheVariants.{Idle}
use Rattle.iol_app.specs.Abstract.Steps.{PortStep, Report, Move as MoveTo, WireCall, Woke, Exchanged, Moment, silence_by, CallFits, is_report}
use Rattle.iol_app.specs.Abstract.OfMaster.{is_for_book, resets}
use Rattle.iol_app.specs.Abstract.OfDevice.{Hidden, IsOpen, hidden_through, reported_through, wake_steps, reported_wake, exchange_steps, reported_exchanged}
use Rattle.iol_app.specs.Abstract.Session.{MayMove, MaySession, session_after}
use Rattle.iol_app.specs.Abstract.Events.{marked_unreported, MayFrozen, frozen_after}
use Rattle.iol_app.specs.Abstract.Images.{MayImages, images_after}
use Rattle.iol_app.specs.Abstract.Shown.{frozen_of, images_of, past_of}
use Rattle.iol_app.specs.BothEnds.{Resting}
use Rattle.iol_app.proofs.AllLaws.{Laws, page_locals, page_after, kind_after, pulses_stay, misses_passed}
use Rattle.iol_app.proofs.Parts.{runs-append}
use Rattle.iol_app.proofs.OwnSession.{SessionRuns, wake_session, exchange_session, own_open, woken_if, woken_as}
use Rattle.iol_app.proofs.FrozenPart.{FrozenRuns, ConfirmsReported, wake_frozen, exchange_frozen}
use Rattle.iol_app.proofs.PastPart.{PastRuns, NoneWaits, wake_past, exchange_past, received_past}
use Rattle.iol_app.specs.Abstract.Past.{MayPast, past_after}
use Rattle.iol_app.proofs.ImagesPart.{ImagesRuns, OutputsSent, wake_images, exchange_images}
use Rattle.iol_app.proofs.Aside.{Aside, wake_aside, exchange_aside}
use Rattle.iol_app.specs.Requests.{request_under_way}
use Rattle.iol_app.proofs.ReportedFacts.{reported_exchange}
use Rattle.iol_app.proofs.Shown.{shown_as}
use Rattle.iol_app.specs.Ends.{SentFits}
use Rattle.iol_app.specs.StationState.{SessionFits, mode_in}
use Rattle.iol_app.specs.Core.{CoreState, Ghost, fields_in, shown_in, images_in}
use Rattle.iol_app.specs.CoreStands.{BothEndsStand, work_of, RequestStands, EventsStand, OutputStands, CalmAt, ShownStands}
use Rattle.iol_app.specs.CoreGives.{CallGives, moment_of}
use Rattle.iol_app.specs.CoreTurns.{settled_core}
use Rattle.iol_app.specs.Abstract.Turn.{may_bring}
use Rattle.iol_app.proofs.Orders.{InFarOrder, AnswersAwake, in_order, free_order, wake_order, replies_awake}

no_reset : (was : Bool) → [] ≡ resets was false ++ []
no_reset was = grind (arith, common_steps)

pub none_rests : (awake : Bool) → false ≡ (awake && false)
none_rests awake = grind (arith, common_steps)

-- a start takes back what was told
pub unreported_of : (f : List Event) (t : Bool)
    → marked_unreported (frozen_of f t) ≡ frozen_of f false
unreported_of f t = grind (arith, common_steps)

pub unconfirming : (o : List ℕ) (far : Far) (t : Bool) → octets_confirm o ≡ false
    → ConfirmsReported o far t
unconfirming o far t unconfirmed w e = absurd (let z : false ≡ true = sym unconfirmed ∙ e in cc)

-- octets that hand nothing over leave nothing under way
pub opens_passed : (h : Hidden) (far : Far) (own : List LocalStep) (passage : Passage) (o : List ℕ)
    → ((hear (locals far own) o).far.isdu ≡ (locals far own).isdu)
    ⊎ ((hear (locals far own) o).far.isdu ≡ Empty) → IsOpen far.isdu None h
    → IsOpen (far_after passage (locals far own) o).isdu None (hidden_through None far own h)
opens_passed h far own passage o holds opens = grind (arith, common_steps, own_open)

-- a wake is no exchange
woken_awake : (call : WireCall) (far : Far) → CallFits ModeDown call → AnswersAwake call far
woken_awake (Woke answered) far fits is = absurd (cc)
woken_awake (Exchanged replied) far fits is = absurd fits

module _ (c : CoreState) (g : Ghost) (far : Far) where
  -- the far end's part, with no request under way
  pub record Effect (far' : Far) (n n' : ℕ) : Type 0 where
    pub steps : List PortStep
    pub hidden : Hidden
    pub reported : Bool
    pub session : (m : Moment) → SessionRuns m (fields_in c g) g.request.hidden far.carried steps
        (fields_in c g) hidden far'.carried
    pub frozen : FrozenRuns far.events.frozen g.events.reported steps far'.events.frozen reported
    pub past : PastRuns (past_of far) steps (past_of far')
    pub images : (m : Moment) → CallFits (mode_in c.state) m.call
        → ImagesRuns m (images_in c g far) steps (images_of (shown_in c.session g.sent) far')
    pub aside : (ys : List PortStep) → Aside steps ys
    pub order : InFarOrder (mode_in c.state) steps
    pub awake : (call : WireCall) → CallFits (mode_in c.state) call → n' ≡ silence_by call n
        → AnswersAwake call far'
    pub opens : IsOpen far'.isdu None hidden
    pub page : far'.page ≡ far.page
    pub kind : far'.kind ≡ far.kind
    pub misses : far'.misses_pulses ≡ far.misses_pulses

  module _ (laws : Laws) (free : request_under_way c.session.current ≡ None)
      (opens : IsOpen far.isdu None g.request.hidden) (none : NoneWaits far.events)
      (own : List LocalStep) where
    pub opens_shown : IsOpen far.isdu (request_under_way c.session.current) g.request.hidden
    opens_shown = rw free opens

    abbrev there : Far
    there = locals far own

    abbrev hidden_there : Hidden
    hidden_there = hidden_through None far own g.request.hidden

    -- a wake that it sees, or nothing of it
    pub shown_effect : (n : ℕ) → mode_in c.state ≡ ModeDown → (wakes : Bool)
        → Effect (woken_if wakes there) n n
    shown_effect n down wakes =
        let page = page_locals laws own far in
        let kind = laws.much.kind_stays far own in
        let misses = laws.much.misses_stay far own in
        let unchanged = woken_as (λ (f : Far). (f.page ≡ far.page) × (f.kind ≡ far.kind)
        × (f.misses_pulses ≡ far.misses_pulses) × IsOpen f.isdu None hidden_there) wakes there
        (page, kind, misses, tt)
        (page, kind, misses, own_open None g.request.hidden own far opens) in
        record {
          steps = wake_steps far own wakes;
          hidden = hidden_there;
          reported = reported_wake far own wakes g.events.reported;
          session = λ m.
              wake_session m (fields_in c g) g.request.hidden far own wakes free opens_shown;
          frozen = wake_frozen far own wakes g.events.reported;
          past = wake_past far own wakes none;
          images = λ m fits.
              wake_images m (shown_in c.session g.sent) far own wakes (rw down at fits);
          aside = wake_aside far own wakes;
          order = wake_order (mode_in c.state) far own wakes;
          awake = λ call fits silent. woken_awake call (woken_if wakes there) (rw down at fits);
          opens = unchanged.3;
          page = unchanged.0;
          kind = unchanged.1;
          misses = unchanged.2;
        }

    -- where nothing was told, octets that confirm nothing leave it so
    pub unreported_after : (passage : Passage) (o : List ℕ) → octets_confirm o ≡ false
        → g.events.reported ≡ false → reported_exchanged far own passage o g.events.reported ≡ false
    unreported_after passage o unconfirmed unreported =
        (reported_exchange laws.events o Resting
        (λ e. absurd (let z : false ≡ true = sym unconfirmed ∙ e in cc)) own passage far
        g.events.reported ((λ a. tt), unreported ∙ none_rests far.awake)).1
        ∙ sym (none_rests (far_after passage there o).awake)

    -- octets that confirm nothing
    abbrev pub passed_effect : (n n' : ℕ) (passage : Passage) (o : List ℕ)
        → ((call : WireCall) → CallFits (mode_in c.state) call → n' ≡ silence_by call n
        → AnswersAwake call (far_after passage there o)) → octets_confirm o ≡ false
        → IsOpen (far_after passage there o).isdu None hidden_there
        → OutputsSent g.sent there o → Effect (far_after passage there o) n n'
    passed_effect n n' passage o answers unconfirmed still_open sent = record {
      steps = exchange_steps None far own passage o;
      hidden = hidden_there;
      reported = reported_exchanged far own passage o g.events.reported;
      session = λ m. rw free (rw free at
          (exchange_session m (fields_in c g) g.request.hidden far own
          passage o opens_shown));
      frozen = exchange_frozen None far own passage o g.events.reported
          (unconfirming o there (reported_through far own g.events.reported) unconfirmed);
      past = exchange_past None far own passage o none;
      images = λ m fits. exchange_images m None (shown_in c.session g.sent) far own passage o sent;
      aside = exchange_aside None far own passage o;
      order = free_order (mode_in c.state) g.request.hidden far own passage o unconfirmed opens;
      awake = answers;
      opens = still_open;
      page = page_after laws passage there o ∙ page_locals laws own far;
      kind = kind_after laws passage there o ∙ laws.much.kind_stays far own;
      misses = misses_passed laws.much passage own far o;
    }

    abbrev pub unreported_effect : (n n' : ℕ) (passage : Passage) (o : List ℕ)
        → n' ≡ silence_after n (unaltered_reply passage there o) → octets_confirm o ≡ false
        → IsOpen (far_after passage there o).isdu None hidden_there
        → OutputsSent g.sent there o → g.events.reported ≡ false
        → Effect (far_after passage there o) n n'
    unreported_effect n n' passage o silence unconfirmed still_open sent unreported =
        let e = passed_effect n n' passage o
        (λ call fits silent. replies_awake call passage there o n n' silence silent) unconfirmed
        still_open sent in
        record e {
          reported = false;
          frozen = rw (unreported_after passage o unconfirmed unreported) at e.frozen;
        }

  -- what the port makes of it, outside OPERATE
  module _ (far' : Far) (n n' : ℕ) (effect : Effect far' n n') (stands : BothEndsStand c g far n)
      (below : mode_in c.state ≢ ModeOperate) where
    -- with this of its hidden part, and of whether the frozen list is told
    abbrev pub ended : Hidden → Bool → Ghost
    ended hidden reported = record g {
      request = record g.request { hidden = hidden; base = far'.carried };
      events = record g.events { reported = reported };
    }

    -- how the new mode and the session stand
    pub record Left (next : CoreState) (hidden : Hidden) (reported : Bool) : Type 0 where
      pub request : RequestStands next.state (work_of next.session) next.session.events
          (ended hidden reported) far'
      pub events : EventsStand next.state next.session.exchange next.session.events
          (ended hidden reported).events far'
      pub output : OutputStands next.state next.session.exchange
          next.session.output.acknowledged g.sent
          far'
      pub quiet : CalmAt next.state n'

    -- what an outcome has to bring
    pub record Ends (call : WireCall) (ys : List PortStep) (next : CoreState) (hidden : Hidden)
        (reported : Bool) : Type 0 where
      pub limit : next.session.limit ≡ c.session.limit
      pub configuration : next.session.configuration ≡ c.session.configuration
      pub brings : IsTrue (may_bring (mode_in c.state) call ys)
      pub reports : filter is_report ys ≡ []
      pub book : filter is_for_book ys ≡ resets (is_reset c.state) (is_reset next.state) ++ []
      pub session : SessionRuns (moment_of c g n call) (fields_in c g) effect.hidden far'.carried ys
          (fields_in next (ended hidden reported)) hidden far'.carried
      pub frozen : FrozenRuns far'.events.frozen effect.reported ys far'.events.frozen reported
      pub images : ImagesRuns (moment_of c g n call) (images_of (shown_in c.session g.sent) far')
          ys (images_of (shown_in next.session g.sent) far')
      pub image : next.session.image ≡ None
      pub left : Left next hidden reported
      pub sent : SentFits next.session.layout next.session.output.carried.items g.sent
      pub shown : ShownStands next g.page

    -- the steps of both, one after the other
    pub gives : (call : WireCall) (ys : List PortStep) (next : CoreState) (hidden : Hidden)
        (reported : Bool)
        → Ends call ys next hidden reported → CallFits (mode_in c.state) call
        → n' ≡ silence_by call n → StateFits next.state → StateStands next.state n' far'
        → SessionFits next.state next.session → CallGives c g far n Idle next far' n'
    gives call ys next hidden reported e fits_call silence fits link joined =
        let m = moment_of c g n call in
        let aside = effect.aside ys in
        let after : Ghost = ended hidden reported in
        let was : c.session.image ≡ None = stands.shown.image below in
        let sees : SeesPulses next.session.configuration.devices far' = rw e.configuration
        (pulses_stay c.session.configuration.devices far far' effect.misses stands.sees) in
        record {
          call = call;
          steps = effect.steps ++ ys;
          after = after;
          order = in_order ys effect.order e.brings;
          fits = fits_call;
          silent = silence;
          terms = (e.limit, refl, e.configuration, refl);
          book_steps_are = aside.book ∙ e.book;
          report_steps_are = aside.reports ∙ e.reports;
          was_frozen = λ events k.
              let none : [] ≡ Report events ∷ [] = sym (aside.reports ∙ e.reports) ∙ k in cc;
          session = runs-append (MaySession m) session_after _ _ _ (effect.session m) e.session;
          frozen = runs-append MayFrozen frozen_after _ _ _ effect.frozen e.frozen;
          past = runs-append MayPast past_after _ _ _ effect.past
              (received_past (mode_in c.state) call ys _ e.brings);
          images = runs-append (MayImages m) (images_after m) _ _ _
              (effect.images m fits_call) e.images;
          awake = effect.awake call fits_call silence;
          image_is_last = ((λ k. absurd (below k.0)), (λ k. e.image), (λ k f. e.image ∙ sym was));
          output_is_wanted = λ k. absurd (below k.0);
          stands = assumption (effect.page ∙ stands.page, effect.kind ∙ stands.kind, sees);
        }

    -- it goes down, for a cause
    pub falls : (call : WireCall) (why : Why) → request_under_way c.session.current ≡ None
        → IsTrue (may_bring (mode_in c.state) call (MoveTo ModeDown (Some why) ∷ []))
        → MayMove (moment_of c g n call) (mode_in c.state) ModeDown (Some why)
        → Ends call (MoveTo ModeDown (Some why) ∷ [])
        (settled_core (InDown (record { why = Some why })) c.session) effect.hidden effect.reported
    falls call why free brings may = record {
      limit = refl;
      configuration = refl;
      brings = brings;
      reports = refl;
      book = no_reset (is_reset c.state);
      session = (((may, tt), tt), rw free refl);
      frozen = ((tt, tt), refl);
      images = ((tt, tt), rw (stands.shown.image below) refl);
      image = refl;
      left = record { request = effect.opens; events = tt; output = tt; quiet = tt };
      sent = stands.sent;
      shown = shown_as stands.shown (λ e. refl) refl stands.shown.present stands.shown.no_form;
    }

    pub loses : (call : WireCall) (why : Why) → request_under_way c.session.current ≡ None
        → IsTrue (may_bring (mode_in c.state) call (MoveTo ModeDown (Some why) ∷ []))
        → MayMove (moment_of c g n call) (mode_in c.state) ModeDown (Some why)
        → CallFits (mode_in c.state) call → n' ≡ silence_by call n
        → CallGives c g far n Idle (settled_core (InDown (record { why = Some why })) c.session)
        far' n'
    loses call why free brings may fits_call silence =
        gives call (MoveTo ModeDown (Some why) ∷ [])
        (settled_core (InDown (record { why = Some why })) c.session) effect.hidden effect.reported
        (falls call why free brings may) fits_call silence tt tt (refl, refl)
