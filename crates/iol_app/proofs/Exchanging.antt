-- An exchange in OPERATE: what every outcome needs; a miss, and a loss.
-- For the clauses of `laws::receive_gives`.
use Rattle.std.proofs.Common.{◌≡◌, inr, ℕ, suc, ◌+◌, ◌≤◌, min, Bool, true, false, List, [], ◌∷◌, ◌++◌, filter, refl, sym, ◌∙◌, ap, subst, arith}
use Rattle.std.proofs.lemmas.Grind.{common_steps}
use Rattle.std.specs.Prelude.{Option, Some, None, IfSome, IsTrue, if◌then◌else◌}
use Rattle.iol_mseq.specs.Shape.{Shape}
use Rattle.iol_mseq.specs.Texts.{master_text}
use Rattle.iol_page.specs.Page.{layouts_of}
use Rattle.iol_page.specs.declared.page.Layouts.{Layouts}
use Rattle.iol_isdu.specs.declared.values.Request.{Request}
use Rattle.iol_event.specs.declared.event.Event.{Event}
use Rattle.iol_far.specs.declared.carried.Carried.{Carried}
use Rattle.iol_far.specs.declared.mode.DeviceMode.TheVariants.{Operate as FarOperate}
use Rattle.iol_far.specs.declared.kind.HandsOver.{HandsOver}
use Rattle.iol_far.specs.Codec.{layout_in}
use Rattle.iol_far.specs.Far.{Far, output_of}
use Rattle.iol_far.specs.Local.{LocalStep, locals}
use Rattle.iol_mseq.specs.Master.{HasMasterParts}
use Rattle.iol_far.specs.Linked.{TextsAreHeard}
use Rattle.iol_far.specs.Level.{Progress, Move, Begin, Other, FarLink, IsSent, IsLevel, accepting_link}
use Rattle.iol_far.specs.Laws.{confirms as octets_confirm}
use Rattle.iol_link.specs.Attempts.{Sending}
use Rattle.iol_link.specs.Honest.{Passage, far_after}
use Rattle.iol_mode.specs.Stands.{StateStands, operate_link}
use Rattle.iol_mode.specs.States.{InDown, StateFits}
use Rattle.iol_mode.specs.declared.why.Why.TheVariants.{Lost}
use Rattle.iol_app.specs.declared.mode.Mode.TheVariants.{Down as ModeDown, Operate as ModeOperate}
use Rattle.iol_app.specs.declared.report.Said.{Said}
use Rattle.iol_app.specs.declared.report.Said.TheVariants.{Busy as SaidBusy, Answered, Cut as SaidCut, Reported}
use Rattle.iol_app.specs.Abstract.Steps.{PortStep, Moment, silence_left, repeats_at, doubts_at, Report, WireCall, Exchanged, silence_by, CallFits, is_report}
use Rattle.iol_app.specs.Abstract.OfDevice.{Hidden, IsOpen, hidden_through, hidden_redelivered, redeliver_steps, reported_through, exchange_steps, reported_exchanged}
use Rattle.iol_app.specs.Abstract.Shown.{MasterFields}
use Rattle.iol_app.specs.Abstract.OfMaster.{ExchangeResult, Missed, Unconfirmed, Gone, WasBusy, WasAnswered, WasAborted, WasReported, PlainReply, lost_steps, received_steps, quiet_report, lost_report, is_for_book, steps_for_book, steps_for_queue}
use Rattle.iol_app.specs.Abstract.Shown.{images_of}
use Rattle.iol_app.specs.BothEnds.{ReadingState, AnswerFits, wants_confirm}
use Rattle.iol_app.specs.Exchange.{hidden_lost, acknowledged_by}
use Rattle.iol_app.specs.Abstract.Turn.{ImageIsLast, may_bring, IsInOrder}
use Rattle.iol_app.proofs.AllLaws.{Laws, page_locals, page_after, kind_after, level_locals, level_after, level_more, pulses_stay, misses_passed}
use Rattle.iol_app.specs.Abstract.Session.{MaySession, session_after}
use Rattle.iol_app.specs.Abstract.Events.{Frozen, MayFrozen, frozen_after}
use Rattle.iol_app.specs.Abstract.Images.{Images, MayImages, images_after}
use Rattle.iol_app.proofs.Parts.{runs-append}
use Rattle.iol_app.proofs.OwnSession.{SessionRuns, MayRedeliver, exchange_session, redeliver_session}
use Rattle.iol_app.proofs.FrozenPart.{FrozenRuns, exchange_frozen, redeliver_frozen}
use Rattle.iol_app.proofs.PastPart.{NoneWaits, exchange_past, redeliver_past, received_past}
use Rattle.iol_app.specs.Abstract.Past.{MayPast, past_after}
use Rattle.iol_app.proofs.ImagesPart.{ImagesRuns, OutputsSent, exchange_images, redeliver_images}
use Rattle.iol_app.specs.Ends.{OutputFits, EventsReported, output_for, SentFits}
use Rattle.iol_app.proofs.OpenLevel.{lost_opens, IsTied, tied_locals, redeliver_late, carried_after}
use Rattle.iol_app.proofs.Aside.{exchange_aside, redeliver_aside}
use Rattle.iol_app.proofs.ReportedFacts.{reported_locals, reported_exchange, confirms_reported}
use Rattle.iol_app.proofs.FirstOctet.{confirms_of}
use Rattle.iol_app.proofs.Shown.{shown_as}
use Rattle.iol_app.specs.declared.request.Current.{Current}
use Rattle.iol_app.specs.declared.session.Purpose.{Purpose}
use Rattle.iol_app.specs.declared.session.Purpose.TheVariants.{ConfirmEvents, CheckEvents}
use Rattle.iol_app.specs.Requests.{request_under_way}
use Rattle.iol_app.specs.Moves.{progress_of, move_for, confirms_events}
use Rattle.iol_octets.specs.declared.control.Channel.TheVariants.{Diagnosis}
use Rattle.iol_app.specs.Messages.{head_of, head_for, write_of, question, check}
use Rattle.iol_app.specs.EventReading.{new_event_work}
use Rattle.iol_app.proofs.Effects.{unreported_of, none_rests}
use Rattle.iol_app.specs.State.{SessionState, IsSession, doubts, checks_by, missed_by}
use Rattle.iol_app.specs.StationState.{SessionFits, mode_in}
use Rattle.iol_app.proofs.OperateMessages.{exchange_confirms}
use Rattle.iol_app.proofs.SmallFacts.{confirms_is, more_silence, same_carried}
use Rattle.iol_app.proofs.Sessions.{question_parts, check_parts}
use Rattle.iol_app.proofs.Doubts.{missed_request_by}
use Rattle.iol_app.proofs.Missing.{stays, busy_missed, checks_confirm, confirm_vain, check_vain, confirm_stays, replaced, check_out}
use Rattle.iol_app.proofs.PageReads.{read_layout}
use Rattle.iol_app.specs.Core.{CoreState, Ghost, OfRequest, OfEvents, fields_in, shown_in, frozen_in, images_in}
use Rattle.iol_app.specs.CoreStands.{BothEndsStand, work_of, vain_by, RequestStands, EventsStand, OutputStands, CalmAt, ShownStands, reading_in}
use Rattle.iol_app.specs.CoreGives.{CallGives, ordered_by, moment_of}
use Rattle.iol_app.specs.CoreTurns.{after_missed, core_out, settled_core}
use Rattle.iol_mode.specs.Kinds.{trusted_recalls}
use Rattle.iol_far.specs.declared.kind.Recalls.{Recalls}
use Rattle.iol_mode.specs.declared.configuration.Devices.{Devices}
use Rattle.iol_mode.specs.declared.configuration.Devices.TheVariants.{Any}
use Rattle.iol_app.proofs.Orders.{AnswersAwake, in_order, exchange_order}
use Rattle.std.proofs.lemmas.List.{append_assoc}

-- what goes out again hands over what it did
repeats_missed : (devices : Devices) (hands_over : HandsOver) (size : ℕ) (e : Purpose)
    (current : Option Current)
    → repeats_at devices hands_over size (move_for e (missed_by devices (Some e) current)) ≡ false
    → repeats_at devices hands_over size (move_for e current) ≡ false
repeats_missed devices hands_over size e current once = grind (arith, common_steps)

-- and what says nothing of a request hands nothing over
no_repeats : (devices : Devices) (hands_over : HandsOver) (size : ℕ)
    → repeats_at devices hands_over size Other ≡ false
no_repeats devices hands_over size = grind (arith, common_steps)

-- what is said of what an exchange brings
abbrev pub Says : ExchangeResult → Option Request → Said → Type 0
Says Missed request report = report ≡ quiet_report request
Says Unconfirmed request report = report ≡ quiet_report request
Says Gone request report = report ≡ lost_report request
Says WasBusy request report = report ≡ SaidBusy
Says (WasAnswered answer) request report = report ≡ Answered answer
Says (WasAborted cause) request report = report ≡ SaidCut cause
Says (WasReported events) request report = report ≡ Reported events
Says PlainReply request report = report ≡ quiet_report request
Says kind request report = ⊥

report_of : (kind : ExchangeResult) (request : Option Request) (report : Said)
    → Says kind request report
    → (filter is_for_book (received_steps kind request) ≡ steps_for_book report)
    × (filter is_report (received_steps kind request) ≡ steps_for_queue report)
report_of kind request report says = grind (arith, common_steps)

-- a loss, with a request under way or none
lost_parts : (m : Moment) (f : List Event) (reported : Bool) (i : Images) (r : Option Request)
    → FrozenRuns f reported (lost_steps r) f reported
    × ImagesRuns m i (lost_steps r) (record i { image = None })
lost_parts m f reported i r = grind (arith, common_steps)

lost_session : (m : Moment) (fields : MasterFields) (h : Hidden) (c : List Carried)
    → fields.mode ≡ ModeOperate → 3 ≤ silence_left m
    → SessionRuns m fields h c (lost_steps fields.request)
    (record fields { request = None; mode = ModeDown; why = Some Lost })
    (hidden_lost fields.request h)
    c
lost_session m fields h c runs third = grind (arith, common_steps)

lost_brings : (r : Option Request)
    → IsTrue (may_bring ModeOperate (Exchanged false) (lost_steps r))
lost_brings r = grind (arith, common_steps)

-- of an exchange, however far its message came: the octets out, the far end behind it, whether the
-- frozen list is told then, and the reading that the message is sent in
pub record Words : Type 0 where
  pub o : List ℕ
  pub passed : Far
  pub reported : Bool
  pub R : ReadingState
  pub devices : Devices
  pub trust : Recalls
  -- whether it may be in doubt what the device made of a request
  pub doubts : Bool

-- and of the request that it is for
pub record RequestWords : Type 0 where
  pub c : CoreState
  pub request : Option Request
  -- what is hidden of it behind the device's own steps
  pub own : Hidden
  -- where the device is handed the request again, it has no answer any more
  pub hidden : Hidden
  -- the far end's steps, and that the request is handed over again
  pub xs : List PortStep
  pub back : List PortStep
  pub what : Move
  -- whether the message hands the device its request with each hearing
  pub repeats : Bool
  pub progress : Progress
  pub vain : ℕ

-- what is said to be reported was frozen, and not reported yet
abbrev pub ReportWasFrozen : Said → Option Frozen → Type 0
ReportWasFrozen report f = (events : List Event) → steps_for_queue report ≡ Report events ∷ []
    → f ≡ Some (record { events = events; reported = false })

quiet_frozen : (r : Option Request) (f : Option Frozen) → ReportWasFrozen (quiet_report r) f
quiet_frozen r f events k = grind (arith, common_steps)

lost_frozen : (r : Option Request) (f : Option Frozen) → ReportWasFrozen (lost_report r) f
lost_frozen r f events k = grind (arith, common_steps)

-- an exchange under way: the message out, and the far end's own steps before it
pub record Turn : Type 0 where
  pub laws : Laws
  pub layouts : Layouts
  pub w : Sending
  pub t : SessionState
  pub g : Ghost
  pub far : Far
  pub n : ℕ
  pub steps : List LocalStep

module _ (turn : Turn) (passage : Passage) where
  open turn use {layouts, w, t, g, far, steps}

  abbrev pub words : Words
  words =
      let o : List ℕ = master_text layouts.run w.message in
      record {
        o = o;
        passed = far_after passage (locals far steps) o;
        reported = reported_exchanged far steps passage o g.events.reported;
        R = reading_in t.events g.events;
        devices = t.configuration.devices;
        trust = trusted_recalls t.configuration.devices g.kind.recalls;
        doubts = doubts_at t.configuration.devices g.kind.recalls;
      }

  module _ (e : Purpose) (current : Option Current) where
    abbrev pub request_words : RequestWords
    request_words =
        let request : Option Request = request_under_way current in
        let own : Hidden = hidden_through request far steps g.request.hidden in
        record {
          c = core_out layouts w t e current;
          request = request;
          own = own;
          hidden = hidden_redelivered request words.passed.isdu own;
          xs = exchange_steps request far steps passage words.o;
          back = redeliver_steps request words.passed.isdu own;
          what = move_for e current;
          repeats = repeats_at words.devices g.kind.hands_over layouts.run.od
              (move_for e current);
          progress = progress_of words.devices t.idle current;
          vain = vain_by words.devices e current w.tries;
        }

    open words use {o, passed, devices}
    open request_words use {request, own, hidden, repeats}

    -- what the far end's own part is
    pub record Passes : Type 0 where
      pub opens : IsOpen passed.isdu request hidden
      -- the answer is taken back only where the device may carry the request out again
      pub repeat : MayRedeliver (λ r. repeats_at devices g.kind.hands_over
          (layout_in g.page FarOperate).od (Begin r)) request passed.isdu own
      pub unchanged : repeats ≡ false → hidden ≡ own
      pub outputs : OutputFits g.sent (output_for e ≡ None) t.output.acknowledged passed
      pub sends : OutputsSent g.sent (locals far steps) o
      pub none : NoneWaits far.events

module _ (turn : Turn) (passage : Passage) (e : Purpose) (current : Option Current)
    (stands : BothEndsStand (core_out turn.layouts turn.w turn.t e current) turn.g turn.far
    turn.n) where
  open turn use {laws, layouts, w, t, g, far, n, steps}
  open (words turn passage) use {o, passed, reported, R, devices, doubts as in_doubt}
  open (request_words turn passage e current) use {c, request, own as h, hidden as h', xs, back}
  open (request_words turn passage e current) use {repeats, progress, vain}
  open stands use {request as up}

  -- the far end's part, that of the level by the request's own fields
  pub at : layout_in g.page FarOperate ≡ layouts.run
  at = read_layout g.page FarOperate layouts
      (ap layouts_of (sym stands.page) ∙ stands.link.read_from)

  pub some_od : 1 ≤ layouts.run.od
  some_od = subst (λ (l : Shape). 1 ≤ l.od) at (laws.layouts g.page FarOperate).1

  pub level_here : IsLevel g.page g.kind layouts.run.od g.request.base up.link progress o vain
      (locals far steps)
  level_here = level_locals laws g.page g.kind layouts.run.od some_od g.request.base up.link
      progress o vain steps far up.level

  pub level' : IsLevel g.page g.kind layouts.run.od g.request.base up.link progress o (suc vain)
      passed
  level' = level_after laws g.page g.kind layouts.run.od some_od g.request.base up.link
      progress o vain passage (locals far steps) level_here

  own_tied : IsTied (repeats ≡ false) g.request.base request h (locals far steps).carried
  own_tied = tied_locals (repeats ≡ false) g.request.base request steps far g.request.hidden
      up.opens (up.late, up.answer)

  pub late' : h'.late ≡ None
  late' = redeliver_late request passed.isdu h ∙ own_tied.0

  pub tied' : repeats ≡ false → AnswerFits g.request.base request h passed.carried
  tied' once = rw (carried_after passage (locals far steps) o) (own_tied.1 once)

  pub confirms : octets_confirm o ≡ confirms_events e
  confirms = sym (confirms_of (layout_in g.page (accepting_link up.link o).mode) o w.message
      up.out.goes.spells) ∙ exchange_confirms e t.events.reading current w.message
      stands.joined.out_for.head

  due : octets_confirm o ≡ true → wants_confirm R ≡ true
  due k = up.out.confirm (confirms_is e (sym confirms ∙ k))

  reported_before : EventsReported R (octets_confirm o) far g.events.reported
  reported_before = rw confirms stands.events

  pub reported' : EventsReported R (octets_confirm o) passed reported
  reported' = reported_exchange laws.events o R due steps passage far g.events.reported
      reported_before

  abbrev pub ended : OfRequest → OfEvents → Ghost
  ended of_request of_events =
      record g { request = of_request; events = of_events }

  -- what an outcome has to bring
  pub record Ends (report : Said) (call : WireCall) (next : CoreState) (of_request : OfRequest)
      (of_events : OfEvents) (kind : ExchangeResult) : Type 0 where
    pub terms : (next.session.limit ≡ t.limit)
        × (next.session.configuration ≡ t.configuration)
    pub session : SessionRuns (moment_of c g n call) (fields_in c g) h' passed.carried
        (received_steps kind request) (fields_in next (ended of_request of_events))
        of_request.hidden passed.carried
    pub frozen : FrozenRuns passed.events.frozen reported (received_steps kind request)
        passed.events.frozen of_events.reported
    pub images : ImagesRuns (moment_of c g n call) (images_of (shown_in t g.sent) passed)
        (received_steps kind request) (images_in next (ended of_request of_events) passed)
    pub says : Says kind request report
    pub was_frozen : ReportWasFrozen report (frozen_in g far)
    pub brings : IsTrue (may_bring ModeOperate call (received_steps kind request))
    pub last : ImageIsLast (moment_of c g n call) (mode_in next.state) (images_in c g far)
        (images_in next (ended of_request of_events) passed)
    pub wanted : silence_by call n ≡ 0
        → output_of passed ≡ ordered_by (acknowledged_by (output_for e) t.output.acknowledged)
        w.message.out.items
    pub request_is : RequestStands next.state (work_of next.session) next.session.events
        (ended of_request of_events) passed
    pub events : EventsStand next.state next.session.exchange next.session.events
        of_events passed
    pub output : OutputStands next.state next.session.exchange next.session.output.acknowledged
        g.sent passed
    pub sent : SentFits next.session.layout next.session.output.carried.items g.sent
    pub shown : ShownStands next g.page

  module _ (p : Passes turn passage e current) where
    pub gives : {far' : Far} {n' : ℕ} {report : Said} {call : WireCall} {next : CoreState}
        {of_request : OfRequest} {of_events : OfEvents} {kind : ExchangeResult} → far' ≡ passed
        → Ends report call next of_request of_events kind → AnswersAwake call passed
        → CallFits ModeOperate call
        → n' ≡ silence_by call n → StateStands next.state n' far' → StateFits next.state
        → SessionFits next.state next.session → CalmAt next.state n'
        → CallGives c g far n report next far' n'
    gives {n'} {report} {call} {next} {of_request} {of_events} {kind} far_is b answers fits silent
        link
        state_fits joined calm =
        let ys : List PortStep = received_steps kind request in
        let report_is = report_of kind request report b.says in
        let m = moment_of c g n call in
        let repeat = redeliver_aside request passed.isdu h ys in
        let aside = exchange_aside request far steps passage o (back ++ ys) in
        let after : Ghost = ended of_request of_events in
        subst (λ (f : Far). CallGives c g far n report next f n') (sym far_is) (record {
          call = call;
          steps = xs ++ (back ++ ys);
          after = after;
          order = subst (IsInOrder ModeOperate call) (append_assoc xs back ys)
              (in_order ys (exchange_order ModeOperate request g.request.hidden far steps passage o
              (λ _. refl) up.opens) b.brings);
          fits = fits;
          silent = silent;
          terms = (b.terms.0, refl, b.terms.1, refl);
          book_steps_are = aside.book ∙ repeat.book ∙ report_is.0;
          report_steps_are = aside.reports ∙ repeat.reports ∙ report_is.1;
          was_frozen = λ events k. b.was_frozen events
              (sym (aside.reports ∙ repeat.reports ∙ report_is.1) ∙ k);
          session = runs-append (MaySession m) session_after _ _ _
              (exchange_session m (fields_in c g) g.request.hidden far steps passage o up.opens)
              (runs-append (MaySession m) session_after back ys _
              (redeliver_session m (fields_in c g) h passed.isdu passed.carried p.repeat)
              b.session);
          frozen = runs-append MayFrozen frozen_after _ _ _
              (exchange_frozen request far steps passage o g.events.reported
              (confirms_reported laws.events o R due (locals far steps)
              (reported_through far steps g.events.reported)
              (reported_locals laws.events R (octets_confirm o) steps far g.events.reported
              reported_before)))
              (redeliver_frozen request passed.isdu h _ _ _ _ ys b.frozen);
          past = runs-append MayPast past_after _ _ _
              (exchange_past request far steps passage o p.none)
              (redeliver_past request passed.isdu h _ _ ys
              (received_past ModeOperate call ys _ b.brings));
          images = runs-append (MayImages m) (images_after m) _ _ _
              (exchange_images m request (shown_in t g.sent) far steps passage o p.sends)
              (redeliver_images m request passed.isdu h _ _ ys b.images);
          awake = answers;
          image_is_last = b.last;
          output_is_wanted = λ k. b.wanted k.2;
          stands = record {
            page = page_after laws passage (locals far steps) o ∙ page_locals laws steps far
                ∙ stands.page;
            kind = kind_after laws passage (locals far steps) o
                ∙ laws.much.kind_stays far steps ∙ stands.kind;
            sees = rw b.terms.1 (pulses_stay t.configuration.devices far passed
                (misses_passed laws.much passage steps far o) stands.sees);
            fits = state_fits;
            link = rw far_is at link;
            joined = joined;
            calm = calm;
            sent = b.sent;
            request = b.request_is;
            events = b.events;
            output = b.output;
            shown = b.shown;
          };
        })

    -- No good reply

    abbrev pub unheard : OfRequest
    unheard = record g.request { hidden = h' }

    abbrev pub away : OfEvents
    away = record g.events { reported = reported }

    -- nothing counts as reported
    abbrev pub unreported : OfEvents
    unreported = record g.events { reported = false }

    -- what is left of it
    abbrev pub repeat : Sending
    repeat = record { message = w.message; tries = w.tries + 1 }

    abbrev carried : List ℕ
    carried = t.output.carried.items

    -- the message out stays so, or a question goes out in place of a request's
    abbrev pub missed_core : CoreState
    missed_core = core_out layouts (record repeat {
      message = if doubts c.session then question carried else w.message;
    }) t e (missed_by t.configuration.devices (Some e) current)

    pub missed_is : checks_by t.configuration.devices (Some e) ≡ false
        → missed_core ≡ after_missed (core_out layouts repeat t e current)
    missed_is other = rw other refl

    -- or a check goes out in that of a confirm
    abbrev pub checked_core : CoreState
    checked_core = core_out layouts (record repeat { message = check carried })
        (record t { events = new_event_work }) CheckEvents current

    pub checked_is : checks_by t.configuration.devices (Some e) ≡ true
        → checked_core ≡ after_missed (core_out layouts repeat t e current)
    checked_is is = rw is refl

    module _ (heard : TextsAreHeard) (valid : IsSession c.session) where
      layout_is : t.layout ≡ Some layouts.run
      layout_is = stands.joined.has_layouts.0

      parts : HasMasterParts layouts.run (question carried)
      parts = rw layout_is at (question_parts t.layout t.output valid.output)

      checked_parts : HasMasterParts layouts.run (check carried)
      checked_parts = rw layout_is at (check_parts t.layout t.output valid.output)

      sized : IfSome current (λ q. q.cutter.size ≡ layouts.run.od)
      sized = rw layout_is at valid.size

      carries : IfSome g.sent (λ image. carried ≡ image)
      carries = same_carried g.sent carried carried refl (rw layout_is at stands.sent)

      same_request : request_under_way (missed_by t.configuration.devices (Some e) current)
          ≡ request
      same_request = missed_request_by t.configuration.devices (Some e) current

      -- the request, once the ends are level with what is out from now on
      module _ (other : checks_by t.configuration.devices (Some e) ≡ false) where
        request_out : RequestStands missed_core.state (work_of missed_core.session) t.events
            (ended unheard away) passed
        request_out =
            let k = stays laws heard layouts up.link w R t g at some_od parts carries passed
            (doubts c.session) devices e current valid.current sized other refl up.out up.linked
            level' in
            record {
              late = late';
              opens = rw same_request p.opens;
              link = up.link;
              linked = k.linked;
              in_operate = up.in_operate;
              level = k.level;
              out = k.out;
              answer = λ once.
                  let still = repeats_missed devices g.kind.hands_over layouts.run.od e current
                  once in
                  rw same_request (rw (p.unchanged still) (tied' still));
              busy = busy_missed devices in_doubt t.limit e current g.request.busy g.request.asked
                  up.busy;
              known = rw same_request up.known;
            }

        pub misses : {report : Said} → report ≡ quiet_report request
            → Ends report (Exchanged false) missed_core unheard away Missed
        misses says = record {
          terms = (refl, refl);
          session = (tt, rw same_request refl);
          frozen = (tt, refl);
          images = (tt, refl);
          says = says;
          was_frozen = rw says (quiet_frozen request (frozen_in g far));
          brings = refl;
          last = ((λ k. absurd (more_silence n k.1)), (λ k. absurd (k refl)), (λ k l. refl));
          wanted = λ k. absurd (more_silence n k);
          request_is = request_out;
          events = rw confirms at reported';
          output = p.outputs;
          sent = stands.sent;
          shown = shown_as stands.shown (λ k. absurd (k refl)) refl stands.shown.present
              stands.shown.no_form;
        }

      -- The check

      module _ (is : checks_by t.configuration.devices (Some e) ≡ true) where
        any : devices ≡ Any
        any = (checks_confirm devices e is).0

        confirms_out : e ≡ ConfirmEvents
        confirms_out = (checks_confirm devices e is).1

        -- it was sent to a device in OPERATE, once
        there : up.link ≡ operate_link
        there = up.in_operate (up.out.confirm confirms_out)

        abbrev LevelAs : FarLink → ℕ → Type 0
        LevelAs l v = IsLevel g.page g.kind layouts.run.od g.request.base l progress o v
            (locals far steps)

        level_once : LevelAs operate_link 0
        level_once = subst (LevelAs operate_link) (confirm_vain devices e current w.tries is)
            (subst (λ (l : FarLink). LevelAs l vain) there level_here)

        abbrev SentAs : FarLink → Move → Type 0
        SentAs l what = IsSent g.page layouts.run.od l progress o w.message what

        confirm_sent : SentAs operate_link Other
        confirm_sent = subst (λ (x : Purpose). SentAs operate_link (move_for x current))
            confirms_out (subst (λ (l : FarLink). SentAs l (move_for e current)) there
            up.out.goes)

        head : head_of w.message.mc ≡ write_of Diagnosis 0
        head = subst (λ (x : Purpose). head_of w.message.mc
            ≡ head_for x t.events.reading current) confirms_out stands.joined.out_for.head

        abbrev check_text : List ℕ
        check_text = master_text layouts.run (check carried)

        check_level : IsLevel g.page g.kind layouts.run.od g.request.base operate_link progress
            check_text (vain_by devices CheckEvents current (w.tries + 1)) passed
        check_level = subst (λ (v : ℕ). IsLevel g.page g.kind layouts.run.od g.request.base
            operate_link progress check_text v passed)
            (sym (check_vain devices current (w.tries + 1)))
            (level_more laws g.page g.kind layouts.run.od some_od g.request.base operate_link
            progress check_text 0 (w.tries + 1) passed (omega arith)
            (replaced laws g.page g.kind layouts.run.od some_od g.request.base progress o check_text
            w.message confirm_sent (confirm_stays g.page o w.message head) passage
            (locals far steps) level_once))

        unrepeated : repeats ≡ false
        unrepeated = subst (λ (x : Purpose). repeats_at devices g.kind.hands_over layouts.run.od
            (move_for x current) ≡ false) (sym confirms_out) (no_repeats devices
            g.kind.hands_over layouts.run.od)

        check_request : RequestStands checked_core.state (work_of checked_core.session)
            new_event_work (ended unheard unreported) passed
        check_request = record {
          late = late';
          opens = p.opens;
          link = operate_link;
          linked = inr refl;
          in_operate = λ k. refl;
          level = check_level;
          out = check_out laws heard layouts operate_link w R t g at some_od parts carries passed
              devices e current (w.tries + 1) checked_parts is up.out.repeat;
          answer = λ once. rw (p.unchanged unrepeated) (tied' unrepeated);
          busy = up.busy;
          known = up.known;
        }

        pub unconfirms : {report : Said} → report ≡ quiet_report request
            → Ends report (Exchanged false) checked_core unheard unreported Unconfirmed
        unconfirms says = record {
          terms = (refl, refl);
          session = (((any, refl, refl), tt), refl);
          frozen = ((tt, tt), unreported_of passed.events.frozen reported);
          images = ((tt, tt), refl);
          says = says;
          was_frozen = rw says (quiet_frozen request (frozen_in g far));
          brings = refl;
          last = ((λ k. absurd (more_silence n k.1)), (λ k. absurd (k refl)), (λ k l. refl));
          wanted = λ k. absurd (more_silence n k);
          request_is = check_request;
          events = ((λ k. tt), none_rests passed.awake);
          output = subst (λ (x : Purpose). OutputFits g.sent (output_for x ≡ None)
              t.output.acknowledged
              passed) confirms_out p.outputs;
          sent = stands.sent;
          shown = shown_as stands.shown (λ k. absurd (k refl)) refl stands.shown.present refl;
        }

    pub loses : {report : Said} → report ≡ lost_report request → 3 ≤ min 3 (n + 1)
        → Ends report (Exchanged false) (settled_core (InDown (record { why = Some Lost }))
        c.session) (record g.request { hidden = hidden_lost request h' }) away Gone
    loses says third =
        let m = moment_of c g n (Exchanged false) in
        let parts = lost_parts m passed.events.frozen reported
        (images_of (shown_in t g.sent) passed)
        request in
        record {
          terms = (refl, refl);
          session = lost_session m (fields_in c g) h' passed.carried refl third;
          frozen = parts.0;
          images = parts.1;
          says = says;
          was_frozen = rw says (lost_frozen request (frozen_in g far));
          brings = lost_brings request;
          last = ((λ k. absurd (more_silence n k.1)), (λ k. refl), (λ k l. cc));
          wanted = λ k. absurd (more_silence n k);
          request_is = lost_opens passed.isdu request h' p.opens;
          events = tt;
          output = tt;
          sent = stands.sent;
          shown = shown_as stands.shown (λ k. refl) refl stands.shown.present
              stands.shown.no_form;
        }
