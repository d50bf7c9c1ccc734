-- A good reply in OPERATE: once for all kinds, over what a kind has to bring.
-- For the clauses of `laws::receive_gives`.
use Rattle.std.proofs.lemmas.Grind.{common_steps}
use Rattle.std.proofs.lemmas.Bool.Decides.{nat_tests}
use Rattle.std.proofs.Common.{◌≡◌, ◌⊎◌, inl, inr, ℕ, suc, Bool, true, false, not, ◌&&◌, List, [], ◌∷◌, length, refl, sym, ◌∙◌, ap, arith, subst}
use Rattle.std.specs.Prelude.{Option, Some, None, IsSome, IfSome, if◌then◌else◌, slice_index, nat_lt, IsTrue}
use Rattle.iol_mseq.specs.Shape.{Shape}
use Rattle.iol_mseq.specs.declared.reply.Reply.{Reply}
use Rattle.iol_octets.specs.declared.control.Channel.TheVariants.{Diagnosis}
use Rattle.iol_isdu.specs.declared.values.Request.{Request}
use Rattle.iol_event.specs.declared.event.Event.{Event}
use Rattle.iol_event.specs.Memory.{is_empty, event_octet}
use Rattle.iol_event.specs.Reading.{next_address, reader_step}
use Rattle.iol_far.specs.declared.mode.DeviceMode.TheVariants.{Operate as FarOperate}
use Rattle.iol_far.specs.declared.carried.Carried.{Carried}
use Rattle.iol_far.specs.Codec.{layout_in}
use Rattle.iol_far.specs.declared.kind.HandsOver.{HandsOver}
use Rattle.iol_far.specs.Isdu.{IsduState, Handed, isdu_data, fits}
use Rattle.iol_far.specs.Far.{Far, hear, data_of, reply_to, output_of}
use Rattle.iol_far.specs.Local.{locals, input_size}
use Rattle.iol_far.specs.declared.kind.Recalls.{Recalls}
use Rattle.iol_far.specs.Level.{Progress, Quiet, NoneHeld, Written, Stands as FarStands, Move, Begin, Leave, IsOutOnce, after, base_after, turned_link, IsIdle, IsSettled, IsLevelBefore}
use Rattle.iol_far.specs.Laws.{IsRegular, ReplySays, confirms as octets_confirm}
use Rattle.iol_link.specs.Honest.{Clean}
use Rattle.iol_mode.specs.Stands.{StateStands, operate_link, IsAccepted}
use Rattle.iol_mode.specs.States.{NextMode, InOperate, StateFits, next_state}
use Rattle.iol_app.specs.declared.report.Said.{Said}
use Rattle.iol_app.specs.Abstract.Steps.{repeats_at, Report, Exchanged, Moment, input_length}
use Rattle.iol_app.specs.Abstract.OfMaster.{ExchangeResult, PlainReply, WasReported, received_steps, quiet_report, steps_for_queue}
use Rattle.iol_app.specs.Abstract.Shown.{images_of, frozen_of}
use Rattle.iol_app.specs.BothEnds.{ReadingState, Due, wants_confirm, wants_octet, AnswerFits, ProgressFits, EventsFit}
use Rattle.iol_app.specs.Exchange.{reading_continued, acknowledged_by}
use Rattle.iol_app.proofs.AllLaws.{sized_locals}
use Rattle.iol_app.proofs.EventReading.{ReaderLaws, memory_locals, memory_hear, continued_fits, continued_due, ends_hold}
use Rattle.iol_app.specs.Ends.{BusyFits, output_for}
use Rattle.iol_app.proofs.ReportedFacts.{heard_awake, reported_locals, frozen_stays}
use Rattle.iol_app.proofs.OwnSession.{SessionRuns}
use Rattle.iol_app.proofs.FrozenPart.{FrozenRuns}
use Rattle.iol_app.proofs.ImagesPart.{ImagesRuns}
use Rattle.iol_app.proofs.OpenLevel.{stands_open}
use Rattle.iol_app.proofs.Moves.{data_received, data_after, answer_after, idle_base, begins_idle, whole_begins}
use Rattle.iol_app.specs.declared.event_work.ReadingProgress as app
use Rattle.iol_app.specs.declared.event_work.ReadingProgress.TheVariants.{Resting}
use Rattle.iol_app.specs.declared.request.Current.{Current}
use Rattle.iol_app.specs.declared.session.Purpose.{Purpose}
use Rattle.iol_app.specs.declared.session.Purpose.TheVariants.{ReadEvent}
use Rattle.iol_app.specs.EventReading.{is_refused, reader_of, reading_after_exchange, list_read}
use Rattle.iol_app.specs.Messages.{Head, head_of, read_head}
use Rattle.iol_app.specs.Requests.{request_under_way, current_after}
use Rattle.iol_app.specs.Moves.{progress_of, confirms_events}
use Rattle.iol_mode.specs.declared.configuration.Devices.{Devices}
use Rattle.iol_app.specs.State.{IsSession, session_after_exchange, idle_after, image_in}
use Rattle.iol_app.specs.StationState.{SessionFits}
use Rattle.iol_app.specs.declared.output.OutputState.{OutputState}
use Rattle.iol_app.specs.Core.{fields_in, shown_in, frozen_in}
use Rattle.iol_app.specs.CoreStands.{BothEndsStand, reading_at}
use Rattle.iol_app.specs.CoreGives.{CallGives, moment_of}
use Rattle.iol_app.specs.CoreTurns.{settled_core}
use Rattle.iol_app.proofs.Orders.{awake_first}
use Rattle.iol_app.proofs.ReadingOn.{Took, reads_next}
use Rattle.iol_app.proofs.SmallFacts.{begins_request, confirms_is, same_output, input_is, input_hear, input_locals, image_octets}
use Rattle.iol_app.proofs.Exchanging.{Says, ReportWasFrozen, Passes, RequestWords, Turn, words, request_words, gives, at, some_od, late', tied', confirms, reported'}
use Rattle.iol_app.proofs.CaseFacts.{more_grown}
use Rattle.iol_app.proofs.Shown.{shown_as}
use Rattle.iol_app.specs.Abstract.Turn.{may_bring}
use Rattle.iol_app.specs.declared.mode.Mode.TheVariants.{Operate as ModeOperate}

pub progress_fits : (devices : Devices) (idle : Bool) (current : Option Current)
    → ProgressFits (progress_of devices idle current) (request_under_way current)
progress_fits devices idle current = grind (arith, common_steps)

-- after IDLE and ABORT the device holds nothing
left_idle : (trust : Recalls) (vain : ℕ) (p : Progress) (what : Move) (x : List ℕ)
    → what ≡ Leave → after trust vain p what x ≡ NoneHeld
left_idle trust vain p what x e = grind (arith, common_steps)

-- a device that takes a request with its only segment has it once it heard that
whole_handed : (devices : Devices) (hands_over : HandsOver) (size : ℕ) (r : Request)
    (s : IsduState) (counted : Option ℕ) (c : List Carried)
    → repeats_at devices hands_over size (Begin r) ≡ true
    → FarStands hands_over size c (Written r 0) s counted c → s ≡ Handed r
whole_handed devices hands_over size r s counted c whole stands =
    grind (arith, nat_tests, common_steps, more_grown)

-- a reading that is under way goes on
continued_at : (reading : app.ReadingProgress) (flag event : Bool) (due : Event × List Event)
    → is_refused reading ≡ false → reading_continued (reading_at reading flag due) event
    ≡ reading_at reading event due
continued_at other flag event due h = grind (arith, common_steps)

-- what is said to be reported came so
reported_kind : (kind : ExchangeResult) (request : Option Request) (report : Said)
    → Says kind request report → (events : List Event) → steps_for_queue report ≡ Report events ∷ []
    → kind ≡ WasReported events
reported_kind kind request report says events k = grind (arith, common_steps)

-- one exchange that brought this reply, and what is said of it
pub record Good : Type 0 where
  pub turn : Turn
  pub readers : ReaderLaws
  pub far' : Far
  pub n' : ℕ
  pub regular : IsRegular turn.far
  pub r : Reply
  pub report : Said

module _ (good : Good) (e : Purpose) (current : Option Current) where
  open good use {turn, far', n', r}
  open turn use {layouts, w, t, g, far, n, steps}
  open (words turn Clean) use {o, passed as there, trust, devices}
  open (request_words turn Clean e current) use {c, what, repeats, progress, vain}

  pub record Replied : Type 0 where
    pub stands : BothEndsStand c g far n
    pub passes : Passes turn Clean e current
    pub silent : n' ≡ 0
    pub octets : List ℕ
    pub replies : (hear (locals far steps) o).reply ≡ Some octets
    pub far_is : far' ≡ there
    pub reply_is : r ≡ reply_to there layouts.run w.message
    pub says : ReplySays g.page g.kind trust vain layouts.run.od g.request.base
        stands.request.link progress o w.message what (hear (locals far steps) o)
    pub once : repeats ≡ false → IsOutOnce g.kind.hands_over layouts.run.od what (suc vain)
    pub acknowledged_as : there.valid ≡ acknowledged_by (output_for e) t.output.acknowledged
    pub out_is : there.out ≡ w.message.out.items
    pub accepted : IsAccepted layouts g.page stands.request.link w.message
    pub valid : IsSession c.session
    pub sized : length r.input.items ≡ layouts.run.pd_in

module _ {good : Good} {e : Purpose} {current : Option Current} (a : Replied good e current) where
  open good use {turn, readers, far', n', regular, r, report, r.{od.{items as od}}}
  open turn use {laws, layouts, w, t, g, far, n, steps}
  open (words turn Clean) use {o, passed as there, reported, R, devices, trust, doubts}
  open a use {stands, passes, stands.{request as up}}

  abbrev pub its : RequestWords
  its = request_words turn Clean e current

  open its use {c, request, own as h0, hidden as h, xs, back, what, repeats, progress, vain}

  abbrev pub m : Moment
  m = moment_of c g n (Exchanged true)

  -- once the reply was had
  abbrev pub idle : Bool
  idle = idle_after e t.idle

  next_link : turned_link g.page up.link o w.message ≡ operate_link
  next_link = grind (arith, common_steps)

  pub od_is : od ≡ data_received layouts.run.od w.message there
  od_is = ap (λ (q : Reply). q.od.items) a.reply_is

  -- both ends are level behind it
  abbrev pub LevelBy : List Carried → Progress → Type 0
  LevelBy base p = IsLevelBefore g.page g.kind layouts.run.od base operate_link p there

  -- the record that a request begins with from now on
  abbrev pub base_now : List Carried
  base_now = base_after what g.request.base there.carried

  abbrev pub Follows : Progress → Type 0
  Follows p = after trust vain progress what od ≡ p

  pub follows : Follows (after trust vain progress what (isdu_data layouts.run.od there.isdu))
  follows = ap (after trust vain progress what) od_is ∙ data_after up.out.goes trust vain there

  pub before : {p : Progress} → Follows p → LevelBy base_now p
  before is = rw (sym is ∙ follows, ← next_link) a.says.before

  -- a request that is over leaves none under way, with the record as it is
  pub settled : (p : Progress) → IsSettled p → Follows p → LevelBy there.carried Quiet
  settled p over is =
      let some = some_od turn Clean e current stands in
      (laws.level layouts.run.od some).settles g.page g.kind base_now operate_link p there over
      (before is)

  -- how far both ends have come: as the reply says, or none of a request is under way
  abbrev pub Reaches : Option Current → Type 0
  Reaches next = Follows (progress_of devices idle next)
      ⊎ ((what ≡ Leave) × IsIdle (progress_of devices idle next))

  pub reached : (next : Option Current) → Reaches next
      → LevelBy base_now (progress_of devices idle next)
  reached next (inl is) = before is
  reached next (inr (leaves, rests)) = by_progress (progress_of devices idle next) rests
    where
      left : Follows NoneHeld
      left = left_idle trust vain progress what od leaves

      by_progress : (p : Progress) → IsIdle p → LevelBy base_now p
      by_progress Quiet idle = rw leaves (settled NoneHeld tt left)
      by_progress NoneHeld idle = before left
      by_progress p idle = absurd idle

  pub tied : repeats ≡ false → AnswerFits g.request.base request h there.carried
  tied once = rw (passes.unchanged once)
      (tied' turn Clean e current stands once)

  quiet_base : repeats ≡ false → IsIdle progress → there.carried ≡ g.request.base
  quiet_base once idle = idle_base g.request.base there.carried progress idle
      (a.says.grown (a.once once))

  -- The events

  event_is : r.event ≡ not (is_empty there.events.frozen)
  event_is = ap (λ (q : Reply). q.event) a.reply_is

  pub reported_now : reported ≡ wants_confirm R
  reported_now = (reported' turn Clean e current stands).1
      ∙ ap (λ (b : Bool). b && wants_confirm R) a.says.before.awake

  confirms_by : octets_confirm o ≡ confirms_events e
  confirms_by = confirms turn Clean e current stands

  fit_now : EventsFit R (confirms_events e) there.events
  fit_now = rw confirms_by at
      ((reported' turn Clean e current stands).0 a.says.before.awake)

  abbrev reading_then : Event × List Event → ReadingState
  reading_then due = reading_at (reading_after_exchange e od t.events.reading) r.event due

  -- what it makes of the reading
  pub record Reads : Type 0 where
    pub due : Event × List Event
    pub fit : EventsFit (reading_then due) false there.events
    pub form : is_refused (reading_after_exchange e od t.events.reading) ≡ false
    pub same : list_read e od t.events.reading ≡ None
        → frozen_of there.events.frozen reported
        ≡ frozen_of there.events.frozen (wants_confirm (reading_then due))

  pub keeps : confirms_events e ≡ false
      → reading_after_exchange e od t.events.reading ≡ t.events.reading → Reads
  keeps other unchanged =
      let held = ends_hold (locals far steps) o a.octets (confirms_by ∙ other) a.replies in
      let is : reading_continued R r.event ≡ reading_then g.events.due =
      rw unchanged (continued_at t.events.reading t.events.flag r.event g.events.due
      stands.shown.no_form) in
      record {
        due = g.events.due;
        fit = rw is at (continued_fits R r.event there.events event_is held (rw other at fit_now));
        form = ap is_refused unchanged ∙ stands.shown.no_form;
        same = λ k. ap (frozen_of there.events.frozen)
            (reported_now ∙ sym (continued_due R r.event) ∙ ap wants_confirm is);
      }

  -- a confirm leaves nothing frozen
  cleared : confirms_events e ≡ true → there.events.frozen ≡ []
  cleared is = by_reading R (up.out.confirm (confirms_is e is)) (rw is at
      (reported_locals laws.events R (confirms_events e) steps far g.events.reported
      stands.events).0)
    where
      by_reading : (x : ReadingState) → wants_confirm x ≡ true
          → ((locals far steps).awake ≡ true → EventsFit x true (locals far steps).events)
          → there.events.frozen ≡ []
      by_reading (Due first rest) d fit = ((laws.events first rest).clears (locals far steps) o
          a.octets (confirms_by ∙ is) fit a.replies).0
      by_reading other d fit = cc

  pub rests : confirms_events e ≡ true → reading_after_exchange e od t.events.reading ≡ Resting
      → Reads
  rests is rest =
      let none = cleared is in
      record {
        due = g.events.due;
        fit = rw (rest, event_is, none) tt;
        form = ap is_refused rest;
        same = λ k. rw none refl;
      }

  -- an octet of the list
  pub took : (head_of w.message.mc
      ≡ read_head Diagnosis (next_address (reader_of t.events.reading))) → wants_octet R ≡ true
      → Took (reader_step (reader_of t.events.reading) (slice_index od 0)) r.event there.events
  took head wants =
      rw octet (reads_next readers r.event t.events.reading t.events.flag g.events.due
      (confirms_events e) there.events
      (memory_hear readers (locals far steps) o
      (memory_locals readers steps far regular.memory)) fit_now wants)
    where
      octet : slice_index od 0 ≡ event_octet there.events.frozen
          (next_address (reader_of t.events.reading))
      octet = ap (λ (l : List ℕ). slice_index l 0) od_is
          ∙ ap (λ (x : Head). slice_index
          (if x.read then data_of there layouts.run.od x.channel x.address else []) 0) head

  -- Process data

  pub sized : IfSome there.input (λ x. length x ≡ input_length g.page)
  sized = subst (λ (p : List ℕ). IfSome there.input (λ x. length x ≡ input_length p))
      a.says.before.page_is (laws.sized.hears (locals far steps) o
      (sized_locals laws steps far regular.sized))

  image : image_in r ≡ there.input
  image =
      let same : layouts.run.pd_in ≡ input_size there =
      ap (λ (l : Shape). l.pd_in) (sym (at turn Clean e current stands))
      ∙ sym (ap (λ (p : List ℕ). (layout_in p FarOperate).pd_in) a.says.before.page_is) in
      let sized = laws.sized.hears (locals far steps) o
      (sized_locals laws steps far regular.sized) in
      let octets_in = input_locals steps far (image_octets far.input regular.input) in
      rw a.sized (input_is layouts.run.pd_in there.input r (rw same sized)
      (rw input_hear octets_in) (ap (λ (q : Reply). q.input.items) a.reply_is)
      (ap (λ (q : Reply). q.invalid) a.reply_is))

  ordered_now : output_of there ≡ (if acknowledged_by (output_for e) t.output.acknowledged
      && nat_lt 0 (length w.message.out.items) then Some w.message.out.items else None)
  ordered_now = grind (arith, common_steps)

  -- a kind of message and reply, with all that it brings
  pub record Comes (next : Option Current) : Type 0 where
    pub reads : Reads
    pub kind : ExchangeResult
    pub says : Says kind request report
    pub by_reading : (events : List Event) → kind ≡ WasReported events → e ≡ ReadEvent
    pub brings : IsTrue (may_bring ModeOperate (Exchanged true) (received_steps kind request))
    pub busy : ℕ
    pub session : SessionRuns m (fields_in c g) h there.carried (received_steps kind request)
        (record (fields_in c g) { request = request_under_way next; busy = busy }) h there.carried
    pub frozen : FrozenRuns there.events.frozen reported (received_steps kind request)
        there.events.frozen (wants_confirm (reading_then reads.due))
    pub images : ImagesRuns m (images_of (shown_in t g.sent) there) (received_steps kind request)
        (images_of (record (shown_in t g.sent) { image = there.input }) there)
    pub base : List Carried
    pub level : LevelBy base (progress_of devices idle next)
    pub answer : AnswerFits base (request_under_way next) h there.carried
    pub busy_is : BusyFits doubts t.limit next busy g.request.asked
    pub sure : IfSome next (λ c. c.repeat ≡ false)
    pub known : IsSome (request_under_way next) → IsSome request

  -- what is reported was frozen before
  was_frozen : {next : Option Current} → Comes next → ReportWasFrozen report (frozen_in g far)
  was_frozen b events k =
      let is : b.kind ≡ WasReported events = reported_kind b.kind request report b.says events k in
      let reads : e ≡ ReadEvent = b.by_reading events is in
      let wants : wants_octet R ≡ true = up.out.reads reads in
      let up_there : (locals far steps).awake ≡ true =
      sym (heard_awake (locals far steps) o) ∙ a.says.before.awake in
      let up_here : far.awake ≡ true = awake_first steps far up_there in
      let same : there.events.frozen ≡ far.events.frozen = frozen_stays laws.events R
      (confirms_events e) steps far o (confirms_by ∙ ap confirms_events reads) wants
      (stands.events.0 up_here) a.says.before.awake in
      let as_reported : g.events.reported ≡ reported =
      stands.events.1 ∙ ap (λ (x : Bool). x && wants_confirm R) up_here ∙ sym reported_now in
      ap (λ (f : List Event). frozen_of f g.events.reported) (sym same)
      ∙ ap (frozen_of there.events.frozen) as_reported ∙ (rw is at b.frozen).0.0

  abbrev outcome : NextMode
  outcome = InOperate (record { out = None; layouts = layouts }) (Some r)

  pub takes_reply : Comes (current_after e t.limit od current)
      → StateStands (next_state outcome) n' far' → StateFits (next_state outcome)
      → SessionFits (next_state outcome) (session_after_exchange e r c.session)
      → CallGives c g far n report (settled_core outcome c.session) far' n'
  takes_reply b link fits joined =
      let next = current_after e t.limit od current in
      gives turn Clean e current stands passes {call = Exchanged true}
      {of_request = record { hidden = h; busy = b.busy; asked = g.request.asked; base = b.base }}
      {of_events = record {
        reported = wants_confirm (reading_then b.reads.due);
        due = b.reads.due;
      }}
      {kind = b.kind} a.far_is (record {
        terms = (refl, refl);
        session = b.session;
        frozen = b.frozen;
        images = rw (same_output e t.output, image) b.images;
        says = b.says;
        was_frozen = was_frozen b;
        brings = b.brings;
        last = (
          (λ k. image),
          (λ k. absurd (k refl)),
          (λ k l. absurd (elim k [ inl other ↦ other refl | inr loud ↦ omega arith ])),
        );
        wanted = λ k. ordered_now;
        request_is = record {
          late = late' turn Clean e current stands;
          opens = stands_open g.kind.hands_over layouts.run.od b.base
              (progress_of devices idle next) there.counted there.carried there.isdu
              (request_under_way next) h b.level.stands (progress_fits devices idle next) b.answer;
          link = operate_link;
          linked = inr refl;
          in_operate = λ k. refl;
          level = b.level;
          out = b.sure;
          answer = λ once. b.answer;
          busy = b.busy_is;
          known = λ k. up.known (b.known k);
        };
        events = ((λ k. b.reads.fit), rw a.says.before.awake refl);
        output = (
          passes.outputs.0,
          (λ k l. a.acknowledged_as ∙ ap (λ (q : OutputState). q.acknowledged)
              (sym (same_output e t.output))),
          passes.outputs.2,
        );
        sent = rw (same_output e t.output) stands.sent;
        shown = shown_as stands.shown (λ k. absurd (k refl)) (rw (same_output e t.output) refl)
            stands.shown.present b.reads.form;
      })
      (λ k. a.says.before.awake) tt a.silent link fits
      joined a.silent

  -- the answer fits the record that the request began with, or was handed over with last
  answer_now : (what ≡ Leave → IsIdle progress) → AnswerFits base_now request h there.carried
  answer_now leaves = by_repeats repeats refl
    where
      by_repeats : (b : Bool) → repeats ≡ b → AnswerFits base_now request h there.carried
      by_repeats false once = answer_after what g.request.base there.carried request h
          (λ k. quiet_base once (leaves k))
          (λ q k. quiet_base once (begins_idle up.out.goes q k)) (tied once)
      by_repeats true whole =
          let (q, is) = whole_begins devices g.kind.hands_over layouts.run.od what whole in
          let handed = whole_handed devices g.kind.hands_over layouts.run.od q there.isdu
          there.counted there.carried (rw is at whole) (rw is at (before refl)).stands in
          let same : base_now ≡ there.carried = rw is refl in
          rw (begins_request e current q is, same, handed) (inl (refl, refl))

  -- a request goes on, or none is under way
  pub goes_on : (reads : Reads) (next : Option Current) → request_under_way next ≡ request
      → (what ≡ Leave → IsIdle progress) → Reaches next
      → BusyFits doubts t.limit next g.request.busy g.request.asked
      → IfSome next (λ c. c.repeat ≡ false)
      → list_read e od t.events.reading ≡ None → report ≡ quiet_report request → Comes next
  goes_on reads next same leaves is busy once none says = record {
    reads = reads;
    kind = PlainReply;
    says = says;
    by_reading = λ events k. cc;
    brings = refl;
    busy = g.request.busy;
    session = ((tt, tt), rw same refl);
    frozen = ((tt, tt), reads.same none);
    images = (((refl, refl, sized), tt), refl);
    base = base_now;
    level = reached next is;
    answer = rw same (answer_now leaves);
    busy_is = busy;
    sure = once;
    known = rw same (λ k. k);
  }
