-- A request is begun, and an abort is let wait, in OPERATE.
-- For the clauses of `Core::abort`, `Core::begin`, `Core::clear_output` and 6 more.
use Rattle.std.proofs.lemmas.Grind.{common_steps}
use Rattle.std.proofs.Common.{arith, ◌≡◌, inl, ℕ, Bool, true, false, List, refl, sym, ap, ◌∙◌}
use Rattle.std.specs.Prelude.{Option, Some, None, IfSome, IsSome, IsTrue, unwrap_or}
use Rattle.std.specs.Option.{option_map}
use Rattle.iol_mseq.specs.declared.master.MasterMsg.{MasterMsg}
use Rattle.iol_page.specs.Page.{knows_isdu}
use Rattle.iol_page.specs.declared.page.Layouts.{Layouts}
use Rattle.iol_isdu.specs.declared.values.Request.{Request}
use Rattle.iol_isdu.specs.declared.values.Cause.{Cause}
use Rattle.iol_isdu.specs.declared.values.Cause.TheVariants.{Cancelled}
use Rattle.iol_far.specs.Isdu.{IsduState}
use Rattle.iol_far.specs.Far.{Far}
use Rattle.iol_mseq.specs.Shape.{Shape}
use Rattle.iol_far.specs.declared.kind.Kind.{Kind}
use Rattle.iol_far.specs.declared.kind.HandsOver.{HandsOver}
use Rattle.iol_far.specs.Level.{FarLink}
use Rattle.iol_link.specs.Attempts.{Sending}
use Rattle.iol_mode.specs.declared.states.Operate.{Operate}
use Rattle.iol_mode.specs.Next.{message_out}
use Rattle.iol_app.specs.Abstract.Session.{MaySession}
use Rattle.iol_app.specs.Abstract.Steps.{ImageOctets, Moment, Deny, repeats_at, doubts_at}
use Rattle.iol_app.specs.Abstract.OfDevice.{Hidden, IsOpen}
use Rattle.iol_app.specs.BothEnds.{ReadingState, AnswerFits}
use Rattle.iol_app.specs.Exchange.{MayAbort}
use Rattle.iol_app.specs.declared.event_work.ReadingProgress as app
use Rattle.iol_app.specs.declared.request.Current.{Current}
use Rattle.iol_app.specs.declared.session.Purpose.{Purpose}
use Rattle.iol_app.specs.declared.session.Purpose.TheVariants.{Request as NextMessage}
use Rattle.iol_app.specs.Due.{may_follow}
use Rattle.iol_mode.specs.declared.configuration.Devices.{Devices}
use Rattle.iol_app.specs.Messages.{head_for, data_for}
use Rattle.iol_app.specs.Requests.{request_under_way, new_current, current_with_abort, waiting_abort, is_over}
use Rattle.iol_app.specs.Moves.{progress_of, move_for}
use Rattle.iol_app.specs.Ends.{BusyFits, AbortAt}
use Rattle.iol_app.specs.State.{SessionState, IsOutBy, OutSuits, od_size}
use Rattle.iol_app.proofs.Moving.{sent_busy}
use Rattle.iol_app.proofs.Shown.{shown_as}
use Rattle.iol_app.specs.Core.{Ghost, session_in}
use Rattle.iol_app.specs.CoreStands.{BothEndsStand, Work, work_of, repeats_in, vain_by, vain_in, RepeatBy, OutBy, LevelOut, OperateRequest, reading_in}
use Rattle.iol_app.specs.CoreCalls.{BeginGives, operate_core, asking_ghost}

-- where one may follow, the progress stays as it is
begun_progress : (devices : Devices) (idle : Bool) (size : ℕ) (request : Request)
    → may_follow devices idle ≡ true → progress_of devices idle (Some (new_current size request))
    ≡ progress_of devices idle None
begun_progress devices idle size request follows = grind (arith, common_steps)

pub waiting_at : (doubts : Bool) (limit busy : ℕ) (asked : Bool) (cause : Cause)
    (abort : Option Cause) → AbortAt doubts limit abort busy asked
    → MayAbort doubts limit busy asked cause
    → AbortAt doubts limit (waiting_abort abort cause) busy asked
waiting_at doubts limit busy asked cause abort h may = grind (arith, common_steps)

pub cancelled_at : (doubts : Bool) (limit busy : ℕ) (asked : Bool) (abort : Option Cause)
    → AbortAt doubts limit abort busy asked
    → AbortAt doubts limit (waiting_abort abort Cancelled) busy true
cancelled_at doubts limit busy asked abort h = grind (arith, common_steps)

-- what a message is for stays, where its request changes in nothing but that
pub record SameFor (devices : Devices) (old new : Option Current) (e : Purpose) : Type 0 where
  pub move : move_for e old ≡ move_for e new
  pub head : (r : app.ReadingProgress) → head_for e r old ≡ head_for e r new
  pub data_out : (size : ℕ) → data_for e size old ≡ data_for e size new
  pub vain : (tries : ℕ) → vain_by devices e old tries ≡ vain_by devices e new tries
  pub repeat : (tries : ℕ) → IfSome old (RepeatBy devices e tries)
      → IfSome new (RepeatBy devices e tries)
  pub goes_on : e ≡ NextMessage → IfSome old (λ c. is_over c.progress ≡ false)
      → IfSome new (λ c. is_over c.progress ≡ false)

begun_same : (devices : Devices) (e : Option Purpose) (current : Current)
    → current.repeat ≡ false → OutSuits e None → IfSome e (SameFor devices None (Some current))
begun_same devices e current once suits = grind (arith, common_steps)

aborted_same : (devices : Devices) (cause : Cause) (current : Current) (e : Option Purpose)
    → IfSome e (SameFor devices (Some current) (Some (current_with_abort cause current)))
aborted_same devices cause current e = grind (arith, common_steps)

-- so that the message out stays the session's, and both ends level
module _ (t : SessionState) (old new : Option Current)
    (progress : progress_of t.configuration.devices t.idle old
    ≡ progress_of t.configuration.devices t.idle new)
    (noted : IfSome old (λ c. c.repeat ≡ false) → IfSome new (λ c. c.repeat ≡ false)) where
  abbrev Same : Purpose → Type 0
  Same e = SameFor t.configuration.devices old new e

  abbrev at : Option Purpose → Option Current → Work
  at e current = work_of (record t { exchange = e; current = current })

  out_same : (layouts : Layouts) (out : Option Sending) (e : Option Purpose) (R : ReadingState)
      (page : List ℕ) (kind : Kind) (link : FarLink) (sent : Option ImageOctets) → IfSome e Same
      → OutBy layouts out e (at e old) R page kind link sent
      → OutBy layouts out e (at e new) R page kind link sent
  out_same layouts None None R page kind link sent same h = noted h
  out_same layouts (Some out) (Some x) R page kind link sent same h =
      let goes = rw (same.move, progress) at h.goes in
      let once = rw (same.move, same.vain out.tries) at h.once in
      let goes_on = λ (k : x ≡ NextMessage). same.goes_on k (h.goes_on k) in
      assumption (goes, once, goes_on, same.repeat out.tries h.repeat)
  out_same layouts out e R page kind link sent same h = absurd h

  vain_same : (e : Option Purpose) (tries : ℕ) → IfSome e Same
      → vain_in (at e old) tries ≡ vain_in (at e new) tries
  vain_same e tries same = grind (arith, common_steps)

  level_same : (g : Ghost) (run : Shape) (link : FarLink) (e : Option Purpose)
      (out : Option Sending) (far : Far) → IfSome e Same
      → LevelOut g run link (at e old) out far → LevelOut g run link (at e new) out far
  level_same g run link e None far same h = rw (← progress) h
  level_same g run link e (Some out) far same h =
      rw (← vain_same e out.tries same, ← progress) h

  joined_same : (e : Option Purpose) (m : Option MasterMsg) → IfSome e Same
      → IsOutBy e (record t { current = old }) m → IsOutBy e (record t { current = new }) m
  joined_same e m same h = grind (arith, common_steps)

  repeats_same : (hands_over : HandsOver) (size : ℕ) (e : Option Purpose) → IfSome e Same
      → repeats_in hands_over size (at e old) ≡ repeats_in hands_over size (at e new)
  repeats_same hands_over size e same = grind (arith, common_steps)

  -- both ends stand with it
  stands_same : (s : Operate) (g : Ghost) (far : Far) (n : ℕ) (hidden : Hidden) (busy : ℕ)
      (asked : Bool) → BothEndsStand (operate_core s t old) g far n
      → IfSome t.exchange Same
      → hidden.late ≡ None → IsOpen far.isdu (request_under_way new) hidden
      → (repeats_in g.kind.hands_over s.layouts.run.od (at t.exchange new) ≡ false
      → AnswerFits g.request.base (request_under_way new) hidden far.carried)
      → BusyFits (doubts_at t.configuration.devices g.kind.recalls) t.limit new busy asked
      → (IsSome (request_under_way new) → IsTrue (knows_isdu g.page))
      → BothEndsStand (operate_core s t new) (record g {
        request = record g.request { hidden = hidden; busy = busy; asked = asked };
      }) far n
  stands_same s g far n hidden busy asked h same late opens answer counts known =
      let after : Ghost = record g {
        request = record g.request { hidden = hidden; busy = busy; asked = asked };
      } in
      let linked = rw progress at h.request.linked in
      let level = level_same g s.layouts.run h.request.link t.exchange s.out far same
      h.request.level in
      let out = out_same s.layouts s.out t.exchange (reading_in t.events g.events) g.page g.kind
      h.request.link g.sent same h.request.out in
      let request : OperateRequest s (at t.exchange new) (reading_in t.events g.events) after far =
      search (late, opens, linked, h.request.in_operate, level, out, answer, counts, known) in
      let out_for = joined_same t.exchange (message_out s.out) same h.joined.out_for in
      let shown = shown_as {next = operate_core s t new} h.shown h.shown.image refl h.shown.present
      h.shown.no_form in
      assumption (request, out_for, shown)

-- Begun

-- where none is under way nothing hands one over
unbegun : (devices : Devices) (hands_over : HandsOver) (size : ℕ) (e : Option Purpose)
    → unwrap_or (option_map (λ x. repeats_at devices hands_over size (move_for x None)) e) false
    ≡ false
unbegun devices hands_over size e = grind (arith, common_steps)

opened : (state : IsduState) (h : Hidden) (r : Request) → IsOpen state None h → h.late ≡ None
    → IsOpen state (Some r) (record { answer = None; late = None })
opened state h r opens late = grind (arith, common_steps)

pub begin_gives : (s : Operate) (t : SessionState) (g : Ghost) (far : Far) (n : ℕ)
    (request : Request)
    → BothEndsStand (operate_core s t None) g far n → OutSuits t.exchange None → t.isdu ≡ Some true
    → may_follow t.configuration.devices t.idle ≡ true
    → BeginGives (operate_core s t None)
    (operate_core s t (Some (new_current (od_size t.layout) request))) g far n request
begin_gives s t g far n request h suits known follows =
    let devices = t.configuration.devices in
    let next : Option Current = Some (new_current (od_size t.layout) request) in
    let stays : progress_of devices t.idle next ≡ progress_of devices t.idle None =
    begun_progress devices t.idle (od_size t.layout) request follows in
    let has : IsTrue (knows_isdu g.page) = sym (rw known at h.shown.isdu) in
    let opens = opened far.isdu g.request.hidden request h.request.opens h.request.late in
    record {
      stands = stands_same t None next (sym stays) (λ k. refl) s g far n
          (record { answer = None; late = None }) 0 false h
          (begun_same devices t.exchange (new_current (od_size t.layout) request) refl suits)
          refl opens
          (λ once. inl (
            refl,
            h.request.answer (unbegun devices g.kind.hands_over s.layouts.run.od t.exchange),
          )) (
            sent_busy (doubts_at devices g.kind.recalls)
                (record { source = request; size = od_size t.layout; issued = 0 }) _ 0 refl,
            tt,
          ) (λ k. has);
      may = λ moment ticket page. (ap knows_isdu page ∙ has, refl, h.request.late, refl);
      is = λ ticket. rw h.request.late refl;
    }

pub denies : (s : Operate) (t : SessionState) (g : Ghost) (far : Far) (n : ℕ) (moment : Moment)
    (ticket : ℕ) → BothEndsStand (operate_core s t None) g far n → t.isdu ≡ Some false
    → moment.terms.page ≡ g.page
    → MaySession moment (Deny ticket) (session_in (operate_core s t None) g far)
denies s t g far n moment ticket h none page =
    (ap knows_isdu page ∙ sym (rw none at h.shown.isdu), refl, h.request.late, refl)

-- An abort waits

pub aborts_by : (cause : Cause) (asks : Bool) (s : Operate) (t : SessionState)
    (current : Current) (g : Ghost) (far : Far) (n : ℕ)
    → BothEndsStand (operate_core s t (Some current)) g far n
    → AbortAt (doubts_at t.configuration.devices g.kind.recalls) t.limit
    (waiting_abort current.abort cause) g.request.busy asks
    → BothEndsStand (operate_core s t (Some (current_with_abort cause current)))
    (asking_ghost asks g) far n
aborts_by cause asks s t current g far n h may =
    let next : Option Current = Some (current_with_abort cause current) in
    let same = aborted_same t.configuration.devices cause current t.exchange in
    stands_same t (Some current) next refl (λ k. k) s g far n g.request.hidden g.request.busy asks
    h same h.request.late h.request.opens
    (λ once. h.request.answer (repeats_same t (Some current) next refl (λ k. k)
    g.kind.hands_over s.layouts.run.od t.exchange same ∙ once)) (h.request.busy.0, may)
    h.request.known
