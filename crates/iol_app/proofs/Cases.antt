-- The good replies of OPERATE, kind by kind, by the code's own data.
-- For the clauses of `laws::receive_gives`.
use Rattle.std.proofs.Common.{◌≡◌, inl, inr, ℕ, suc, ◌+◌, ◌*◌, ◌%◌, min, Bool, true, false, ◌==◌, List, ◌++◌, length, refl, sym, ap, ◌∙◌, subst, arith, Option, Some, None, ◌⊎◌}
use Rattle.std.specs.Prelude.{IfSome, IsTrue, is_some, if◌then◌else◌, nat_lt, slice_index, MatchOption}
use Rattle.arrayvec.specs.ArrayVec.{ArrayVec}
use Rattle.iol_octets.specs.declared.flow_control.Flow.{Flow}
use Rattle.iol_octets.specs.declared.flow_control.Flow.TheVariants.{Count}
use Rattle.iol_isdu.specs.Answers.{is_read}
use Rattle.iol_isdu.specs.declared.values.Request.{Request}
use Rattle.iol_isdu.specs.declared.values.Answer.{Answer}
use Rattle.iol_isdu.specs.declared.values.Cause.{Cause}
use Rattle.iol_segment.specs.Cut.{Cutting}
use Rattle.iol_segment.specs.Join.{Joining, join_step}
use Rattle.iol_far.specs.declared.carried.Carried.{Carried}
use Rattle.iol_far.specs.declared.kind.Recalls.TheVariants.{UntilSent}
use Rattle.iol_far.specs.Level.{Progress, Busy as IsBusy, Received as IsReceived, Unsure, Ask, Other, progress_after_ask, may_be_none, IsSettled, grown_by}
use Rattle.iol_mode.specs.declared.configuration.Devices.{Devices}
use Rattle.iol_mode.specs.declared.configuration.Devices.TheVariants.{Any}
use Rattle.iol_mode.specs.Kinds.{trusted_recalls}
use Rattle.iol_app.specs.declared.report.Said.TheVariants.{Busy as SaidBusy, Answered, Cut as SaidCut, Reported}
use Rattle.iol_app.specs.Abstract.Steps.{misreads_at}
use Rattle.iol_app.specs.Abstract.OfMaster.{WasBusy, WasAnswered, WasAborted, WasReported, quiet_report}
use Rattle.iol_app.specs.Exchange.{ReadsAnswer, TextNamesAnswer}
use Rattle.iol_app.proofs.EventReading.{undue}
use Rattle.iol_app.specs.Abstract.Shown.{frozen_of}
use Rattle.iol_event.specs.declared.event.Event.{Event}
use Rattle.iol_event.specs.Reading.{reader_step}
use Rattle.iol_app.proofs.Moves.{text_received, answers_data, answers_base}
use Rattle.iol_app.specs.declared.request.Current.{Current}
use Rattle.iol_app.specs.declared.request.RequestProgress.{RequestProgress}
use Rattle.iol_app.specs.declared.request.RequestProgress.TheVariants.{Sending as Cut, Doubting, Asking, Receiving, Refused}
use Rattle.iol_app.specs.declared.session.Purpose.{Purpose}
use Rattle.iol_app.specs.declared.session.Purpose.TheVariants.{Abort, ReadEvent, ConfirmEvents, Request as NextMessage, Idle}
use Rattle.iol_app.specs.Requests.{IsUnsent, text_of, current_after_segment, sent_anew, one_more_busy, current_after_busy, current_after_refusal, forgotten_by, ReplyEffect, GoesOn, HasText, effect_of_start_read, effect_of_question, effect_of_count_read, effect_of_reply, replied_at, current_of_effect, current_after, IsEffectReport, IsJoining, request_under_way}
use Rattle.iol_app.specs.Moves.{move_for, progress_of, next_segment, octets_received, IsReading, is_forgotten, TakesUpSegment, AnswersAreTakenUp}
use Rattle.iol_app.specs.EventReading.{reader_of, list_read}
use Rattle.iol_app.specs.State.{IsExchangeReport, idle_after, od_size}
use Rattle.iol_app.proofs.Moving.{sent_busy, sent_follows, busy_follows, asked_after, resting_idle, unsent_idle}
use Rattle.iol_app.proofs.Stations.{resting_quiet}
use Rattle.iol_app.specs.Core.{fields_in}
use Rattle.iol_app.specs.CoreTurns.{core_out}
use Rattle.iol_app.proofs.GoodReplies.{Good, Replied, its, Reads, Comes, m, Follows, LevelBy, keeps, rests, took, goes_on, tied, before, settled, reached, follows, od_is, reported_now, sized}
use Rattle.iol_app.proofs.ReadingOn.{Took}
use Rattle.iol_app.specs.Abstract.Session.{MayAnswer}
use Rattle.iol_link.specs.Honest.{Clean}
use Rattle.iol_app.proofs.Exchanging.{words}
use Rattle.iol_app.proofs.CaseFacts.{aborted_session, busy_unanswered, answer_received, grown_answered, first_idle, busy_waits, hands_none, repeats_any, refused_waits, anew_busy, anew_idle, vain_repeat, vain_some, forgotten_none, EndsText, none_ends, trusts_none, doubts_of, asked_nothing, not_zero, not_both, other_once}

module _ (names : TextNamesAnswer) (taken : AnswersAreTakenUp) (good : Good) where
  open good use {turn, r, report, r.{od.{items as od}}}
  open turn use {layouts, w, t, g, far, n, steps}
  open (words turn Clean) use {o, passed as far', reported, R, devices, trust, doubts}

  abbrev For : Purpose → Option Current → Type 0
  For e current = Replied good e current

  abbrev cursor : Cutting Request → RequestProgress → Bool → Option Cause → Current
  cursor cutter p repeat abort =
      record { cutter = cutter; progress = p; repeat = repeat; abort = abort }

  abbrev at : Cutting Request → RequestProgress → Bool → Option Cause → Option Current
  at cutter p repeat abort = Some (cursor cutter p repeat abort)

  -- of a request whose message isn't out nothing is noted
  unnoted : {e : Purpose} {current : Option Current} → For e current → (e ≡ NextMessage → ⊥)
      → IfSome current (λ c. c.repeat ≡ false)
  unnoted {e} {current} a unlike =
      other_once devices e w.tries current unlike a.stands.request.out.repeat

  -- nothing is under way, or no segment of it, and nothing comes
  idle : (current : Option Current) (a : For Idle current) → IsUnsent current
      → report ≡ quiet_report (request_under_way current) → Comes a current
  idle current a unsent says =
      goes_on a (keeps a refl refl) current refl (λ k. unsent_idle devices t.idle current unsent)
      (inr (refl, unsent_idle devices true current unsent)) a.stands.request.busy
      (unnoted a (λ k. cc)) refl says

  -- a segment of the request
  segment : {cutter : Cutting Request} {flow : Flow} {piece : ArrayVec ℕ} {repeat : Bool}
      {abort : Option Cause} (a : For NextMessage (at cutter (Cut flow piece) repeat abort))
      → report ≡ SaidBusy → Comes a (Some
      (current_after_segment (cursor cutter (Cut flow piece) false abort)))
  segment {cutter} {flow} {piece} {abort} a says =
      let current : Current = cursor cutter (Cut flow piece) false abort in
      goes_on a (keeps a refl refl) (Some (current_after_segment current)) refl
      (first_idle devices cutter.source cutter.issued)
      (inl (sym (sent_follows trust (its a).vain devices
      false current flow piece od a.valid.current.progress))) (
        sent_busy doubts cutter (nat_lt (cutter.issued * cutter.size) (length (text_of cutter)))
            g.request.busy a.stands.request.busy.0,
        a.stands.request.busy.1,
      ) refl refl says

  -- a message of the request
  module _ {current : Current} (a : For NextMessage (Some current)) where
    open current use {cutter, abort, cutter.{source}}
    open a use {stands, stands.{request as up}}
    open (its a) use {own, hidden as h, back, what, repeats}

    abbrev sure : Current
    sure = record current { repeat = false }

    abbrev base : List Carried
    base = g.request.base

    once : ReadsAnswer what → repeats ≡ false
    once asks = hands_none devices g.kind.hands_over layouts.run.od what (inl asks)

    -- the base stays while the answer is read
    read_level : {p : Progress} → ReadsAnswer what → Follows a p → LevelBy a base p
    read_level asks is = rw (answers_base what base far'.carried asks) at (before a is)

    -- what came is none of an answer, or can't be known to be one
    refuses : IsTrue doubts → ReadsAnswer what → Follows a (Unsure source) → report ≡ SaidBusy
        → Comes a (Some (current_after_refusal sure))
    refuses may asks is says =
        goes_on a (keeps a refl refl) (Some (current_after_refusal sure)) refl
        (λ k. absurd (subst ReadsAnswer k asks)) (inl is)
        (refused_waits doubts t.limit g.request.busy g.request.asked abort may up.busy.1)
        refl refl says

    -- a START read answered busy
    busy : (counted : ℕ) → what ≡ Ask → counted ≡ min g.request.busy 65535
        → Follows a (IsBusy source) → (slice_index od 0 == 1) ≡ true → report ≡ SaidBusy
        → Comes a (Some (current_after_busy (one_more_busy counted) t.limit sure))
    busy counted asks count follows is says =
        let asking : ReadsAnswer what = subst ReadsAnswer (sym asks) tt in
        let reads = keeps a refl refl in
        let level = read_level asking follows in
        let answer = tied a (once asking) in
        let none : h.answer ≡ None = busy_unanswered g.kind.hands_over layouts.run.od base source
        far'.isdu far'.counted far'.carried h level.stands answer
        (rw (od_is a ∙ answers_data up.out.goes far' asking) at is) in
        record {
          reads = reads;
          kind = WasBusy;
          says = says;
          by_reading = λ events k. cc;
          brings = refl;
          busy = g.request.busy + 1;
          session = rw none ((refl, (tt, tt)), refl);
          frozen = ((tt, (tt, tt)), reads.same refl);
          images = ((tt, ((refl, refl, sized a), tt)), refl);
          base = base;
          level = rw (busy_follows devices cutter counted) level;
          answer = answer;
          busy_is = (
            omega (arith, count),
            busy_waits doubts t.limit g.request.busy g.request.asked abort counted count up.busy.1,
          );
          sure = refl;
          known = λ k. k;
        }

    -- what is said of what a reply came to, and the request then
    abbrev Goes_to : ReplyEffect → Type 0
    Goes_to outcome = IsEffectReport (is_read source) outcome report
        → Comes a (current_of_effect outcome)

    -- the request has its answer, and none is under way
    report_answer : (p : Progress) (x : Answer) → IsSettled p → Follows a p
        → MayAnswer (m a).terms x h.answer → report ≡ Answered x → Comes a None
    report_answer p x over so_far tells says =
        let reads = keeps a refl refl in
        record {
          reads = reads;
          kind = WasAnswered x;
          says = says;
          by_reading = λ events k. cc;
          brings = refl;
          busy = g.request.busy;
          session = ((tells, (tt, tt)), refl);
          frozen = ((tt, (tt, tt)), reads.same refl);
          images = ((tt, ((refl, refl, sized a), tt)), refl);
          base = far'.carried;
          level = rw (resting_quiet devices false refl) (settled a p over so_far);
          answer = refl;
          busy_is = tt;
          sure = tt;
          known = λ k. cc;
        }

    -- the device has forgotten its answer, and zeros were taken for the end of it
    misread : (text : List ℕ) (read_as : Answer) → IsTrue (misreads_at devices g.kind.recalls)
        → ReadsAnswer what → Follows a (Unsure source)
        → far'.carried ≡ grown_by base source read_as → Goes_to (HasText text)
    misread text read_as may asks is grown says =
        let (x, begins, answered) = says.found in
        report_answer (Unsure source) x tt is (inr (
          may,
          grown_answered base source read_as h far'.carried (tied a (once asks)) grown,
        )) answered

    -- a segment of the answer: the request goes on, or has its answer
    answer_segment : IsReading current.progress → ReadsAnswer what
        → is_forgotten current.progress current.repeat od ≡ false
        → Follows a (IsReceived source (next_segment current.progress)
        (octets_received current.progress od))
        → Goes_to (effect_of_reply t.limit od current)
    answer_segment reading asks retained so_far says =
        let size : cutter.size ≡ layouts.run.od = a.valid.size
        ∙ ap od_size stands.joined.has_layouts.0 in
        let (x, fitting, whole, low) =
        text_received up.out.goes trust (its a).vain g.kind.hands_over
        base source i octets far'.isdu far'.counted far'.carried (read_level asks so_far).stands
        asks
        (sym (follows a) ∙ so_far) in
        by_outcome x (effect_of_reply t.limit od current)
        (taken current t.limit od x a.valid.current retained reading fitting (simp size whole)
        (simp size low)) says
      where
        i : ℕ
        i = next_segment current.progress

        octets : List ℕ
        octets = octets_received current.progress od

        by_outcome : (x : Answer) (outcome : ReplyEffect)
            → TakesUpSegment current x i octets outcome
            → Goes_to outcome
        by_outcome x (GoesOn next) (joining, is, text_is) says = rw is
            (goes_on a (keeps a refl refl) (at cutter (Receiving joining i) false abort) refl
            (λ k. absurd (subst ReadsAnswer k asks)) (inl (rw text_is so_far)) (tt, up.busy.1)
            refl refl says)
        by_outcome x (HasText octets_) begins says =
            let answer = answer_received g.kind.hands_over layouts.run.od base source i octets
            far'.isdu
            far'.counted far'.carried h x (read_level asks so_far).stands (tied a (once asks))
            (names layouts.run.od source i octets x begins.1) in
            report_answer (IsReceived source i octets) x tt so_far (inl answer)
            (says.only x begins.0)

  start_read : {cutter : Cutting Request} {counted : ℕ} {repeat : Bool} {abort : Option Cause}
      (a : For NextMessage (at cutter (Asking counted) repeat abort))
      → Goes_to a (effect_of_start_read counted t.limit od
      (cursor cutter (Asking counted) false abort))
  start_read {cutter} {counted} {abort} a =
      by_octet (slice_index od 0 == 1) (slice_index od 0 == 0) refl refl
    where
      follows : Follows a (progress_after_ask trust cutter.source od)
      follows = asked_after trust (its a).vain devices cutter counted od a.valid.current.progress

      by_octet : (b z : Bool) → (slice_index od 0 == 1) ≡ b → (slice_index od 0 == 0) ≡ z
          → Goes_to a (effect_of_start_read counted t.limit od
          (cursor cutter (Asking counted) false abort))
      by_octet true z b e =
          rw b (busy a counted refl a.stands.request.busy.0 (follows ∙ rw b refl) b)
      by_octet false false f z = answer_segment a tt tt refl (follows ∙ rw (f, z) refl)
      by_octet false true f z =
          elim (asked_nothing devices g.kind.recalls cutter.source od f z) [
            | inl is ↦ answer_segment a tt tt refl (follows ∙ is)
            | inr p ↦ rw (f, z) (refuses a p.1 tt (follows ∙ p.0))
          ]

  -- the question whether the device has the one segment, which is asked at a port for any device
  doubting_any : {cutter : Cutting Request} {repeat : Bool} {abort : Option Cause}
      → For NextMessage (at cutter Doubting repeat abort) → devices ≡ Any
  doubting_any a = repeats_any devices (λ own. cc (a.valid.sure own).1)

  question_unheard : (cutter : Cutting Request) (repeat : Bool) (abort : Option Cause)
      (a : For NextMessage (at cutter Doubting repeat abort))
      → (slice_index od 0 == 1) ≡ false → (slice_index od 0 == 0) ≡ true
      → Goes_to a (effect_of_question repeat t.limit od (cursor cutter Doubting false abort))
  question_unheard cutter true abort a f z =
      let any = doubting_any a in
      let k = vain_repeat devices (cursor cutter Doubting true abort) w.tries any
      a.stands.request.out.repeat refl in
      rw (z, f) (refuses a (doubts_of devices g.kind.recalls (inl any)) tt (rw (f, z, k.1) refl))
  question_unheard cutter false abort a f z =
      let any = doubting_any a in
      let one = a.valid.current.progress.0 in
      let current : Current = cursor cutter Doubting false abort in
      let is : Follows a (progress_of devices false (Some (sent_anew current))) =
      rw (f, z, any) (sym (anew_idle false current one)) in
      rw z (goes_on a (keeps a refl refl) (Some (sent_anew current)) refl
      (λ k. cc) (inl is) (
        anew_busy doubts cutter g.request.busy a.stands.request.busy.0 one,
        a.stands.request.busy.1,
      ) refl refl)

  question_read : {cutter : Cutting Request} {repeat : Bool} {abort : Option Cause}
      (a : For NextMessage (at cutter Doubting repeat abort))
      → Goes_to a (effect_of_question repeat t.limit od (cursor cutter Doubting false abort))
  question_read {cutter} {repeat} {abort} a =
      by_octet (slice_index od 0 == 1) (slice_index od 0 == 0) refl refl
    where
      by_octet : (b z : Bool) → (slice_index od 0 == 1) ≡ b → (slice_index od 0 == 0) ≡ z
          → Goes_to a (effect_of_question repeat t.limit od (cursor cutter Doubting false abort))
      by_octet true z b e = rw (not_zero (slice_index od 0) b, b)
          (busy a 0 refl (rw a.stands.request.busy.0 refl) (rw b refl) b)
      by_octet false false f z = answer_segment a tt tt refl (rw (f, z) refl)
      by_octet false true f z = question_unheard cutter repeat abort a f z

  -- a COUNT read
  count_read : {cutter : Cutting Request} {joining : Joining} {last : ℕ} {repeat : Bool}
      {abort : Option Cause} (a : For NextMessage (at cutter (Receiving joining last) repeat abort))
      → Goes_to a (effect_of_count_read repeat joining (last + 1) od
      (cursor cutter (Receiving joining last) false abort))
  count_read {cutter} {joining} {last} {repeat} {abort} a =
      by_none (may_be_none trust (its a).vain joining.text od) refl
    where
      current : Current
      current = cursor cutter (Receiving joining last) repeat abort

      joins : IsJoining cutter.size last joining
      joins = a.valid.current.progress

      sure : Current
      sure = cursor cutter (Receiving joining last) false abort

      new : ReplyEffect
      new = effect_of_count_read repeat joining (last + 1) od sure

      IsNone : Bool → Type 0
      IsNone b = may_be_none trust (its a).vain joining.text od ≡ b

      follows : (b : Bool) → IsNone b → Follows a
          (if b then Unsure cutter.source else IsReceived cutter.source (suc last)
          (joining.text ++ od))
      follows b is = rw is refl

      -- at a port for our own kind nothing went out anew
      retained : IsNone false → is_forgotten (Receiving joining last) repeat od ≡ false
      retained none = not_both repeat
          (forgotten_by (join_step joining (Count ((last + 1) % 16)) od).took od) (λ twice forgot.
          let any = repeats_any devices (λ own. cc (a.valid.sure own).0) in
          let k = vain_repeat devices current w.tries any a.stands.request.out.repeat twice in
          cc (ap (λ (d : Devices). may_be_none (trusted_recalls d g.kind.recalls) (its a).vain
          joining.text od) any ∙ ap (λ (v : ℕ). may_be_none UntilSent v joining.text od) k.1
          ∙ forgotten_none od k.0 joins forgot))

      grown : (read_as : Answer) × (far'.carried ≡ grown_by g.request.base cutter.source read_as)
      grown = a.says.grown (a.once (once a tt))

      -- what came is none of an answer, or is taken for one that the device has forgotten: a port
      -- for our own takes the zeros for the text's end
      by_outcome : (devices ≡ Any) ⊎ IsTrue (misreads_at devices g.kind.recalls) → (k : ℕ)
          → (its a).vain ≡ suc k → IsNone true → (outcome : ReplyEffect)
          → EndsText repeat sure outcome → Goes_to a outcome
      by_outcome why k is none (GoesOn next) same =
          rw same (refuses a (doubts_of devices g.kind.recalls why) tt (follows true none))
      by_outcome (inl any) k is none (HasText octets) once =
          cc (vain_some devices current w.tries k any is)
      by_outcome (inr may) k is none (HasText octets) once =
          misread a octets grown.0 may tt (follows true none) grown.1

      by_none : (b : Bool) → IsNone b → Goes_to a new
      by_none true none =
          let (why, (k, is, zeros)) =
          trusts_none devices g.kind.recalls (its a).vain joining.text od none in
          by_outcome why k is none new (none_ends sure od k repeat joins zeros)
      by_none false none = answer_segment a tt tt (retained none) (follows false none)

  -- every message of the request
  request_message : (cutter : Cutting Request) (p : RequestProgress) (repeat : Bool)
      (abort : Option Cause)
      (a : For NextMessage (at cutter p repeat abort))
      → Goes_to a (replied_at p repeat t.limit od (cursor cutter p false abort))
  request_message cutter (Cut flow piece) repeat abort a = segment a
  request_message cutter Doubting repeat abort a = question_read a
  request_message cutter (Asking counted) repeat abort a = start_read a
  request_message cutter (Receiving joining last) repeat abort a = count_read a
  request_message cutter Refused repeat abort a =
      cc (a.stands.request.out.goes_on refl)

  -- an ABORT read: the request is cut off, answered or not
  abort_message : (current : Current) (a : For Abort (Some current)) (abort : Option Cause)
      → current.abort ≡ abort → IsTrue (is_some abort)
      → IfSome abort (λ cause. report ≡ SaidCut cause) → Comes a None
  abort_message current a None is some says = cc
  abort_message current a (Some cause) is some says =
      let reads = keeps a refl refl in
      record {
        reads = reads;
        kind = WasAborted cause;
        says = says;
        by_reading = λ events k. cc;
        brings = refl;
        busy = g.request.busy;
        session = aborted_session (m a) (fields_in c g) hidden far'.carried current.cutter.source
            cause refl (rw is at a.stands.request.busy.1);
        frozen = ((tt, (tt, tt)), reads.same refl);
        images = ((tt, ((refl, refl, sized a), tt)), refl);
        base = far'.carried;
        level = reached a None (inr (refl, resting_idle devices true));
        answer = refl;
        busy_is = tt;
        sure = tt;
        known = λ k. cc;
      }
    where
      open (its a) use {c, hidden}

  -- a message that says nothing of the request
  other : {e : Purpose} {current : Option Current} (a : For e current) (reads : Reads a)
      → move_for e current ≡ Other → idle_after e t.idle ≡ t.idle → (e ≡ NextMessage → ⊥)
      → list_read e od t.events.reading ≡ None → report ≡ quiet_report (request_under_way current)
      → Comes a current
  other {e} {current} a reads is same unlike none says =
      goes_on a reads current refl
      (λ k. cc) (inl (rw (is, same) refl))
      a.stands.request.busy (unnoted a unlike) none says

  -- an octet of the events; with the last one the list is the frozen one
  events_message : (current : Option Current) (a : For ReadEvent current)
      → MatchOption (list_read ReadEvent od t.events.reading)
      (report ≡ quiet_report (request_under_way current)) (λ l. report ≡ Reported l)
      → Comes a current
  events_message current a says = by_list (list_read ReadEvent od t.events.reading) refl says
    where
      k : Took (reader_step (reader_of t.events.reading) (slice_index od 0)) r.event
          far'.events
      k = took a a.stands.joined.out_for.head (a.stands.request.out.reads refl)

      unreported : reported ≡ false
      unreported = reported_now a ∙ undue R (a.stands.request.out.reads refl)

      by_list : (list : Option (List Event)) → list_read ReadEvent od t.events.reading ≡ list
          → MatchOption list (report ≡ quiet_report (request_under_way current))
          (λ l. report ≡ Reported l)
          → Comes a current
      by_list None is says =
          let same = ap (frozen_of far'.events.frozen) (unreported ∙ sym (k.more is)) in
          other a (record { due = k.due; fit = k.fit; form = k.form; same = λ e. same }) refl refl
          (λ k. cc) is says
      by_list (Some l) is says =
          let whole = k.whole l is in
          record {
            reads = record {
              due = k.due;
              fit = k.fit;
              form = k.form;
              same = λ e. cc;
            };
            kind = WasReported l;
            says = says;
            by_reading = λ events k. refl;
            brings = refl;
            busy = g.request.busy;
            session = ((tt, (tt, tt)), refl);
            frozen = rw (unreported, whole.2, whole.1, whole.0) ((refl, (tt, tt)), refl);
            images = ((tt, ((refl, refl, sized a), tt)), refl);
            base = g.request.base;
            level = before a refl;
            answer = tied a (hands_none devices g.kind.hands_over layouts.run.od Other (inr refl));
            busy_is = a.stands.request.busy;
            sure = unnoted a (λ k. cc);
            known = λ e. e;
          }

  -- every message
  pub message : (e : Purpose) (current : Option Current) (a : For e current)
      → IsExchangeReport e od (core_out layouts w t e current).session report
      → Comes a (current_after e t.limit od current)
  message NextMessage None a says = cc a.valid.out
  message NextMessage (Some c) a says =
      request_message c.cutter c.progress c.repeat c.abort a says
  message Abort None a says = cc a.valid.out
  message Abort (Some c) a says = abort_message c a c.abort refl a.valid.out says
  message Idle None a says = idle None a tt says
  message Idle (Some c) a says = idle (Some c) a a.valid.out says
  message ReadEvent None a says = events_message None a says
  message ReadEvent (Some c) a says = events_message (Some c) a says
  message ConfirmEvents None a says = other a (rests a refl refl) refl refl (λ k. cc) refl says
  message ConfirmEvents (Some c) a says = other a (rests a refl refl) refl refl (λ k. cc) refl says
  message e None a says = other a (keeps a refl refl) refl refl (λ k. cc) refl says
  message e (Some c) a says = other a (keeps a refl refl) refl refl (λ k. cc) refl says
