-- An exchange of a start-up, in both its modes.
-- For the clauses of `laws::rise_gives`.
use Rattle.std.proofs.Common.{◌≡◌, ◌≢◌, inl, ℕ, ◌+◌, min, Bool, true, false, ◌&&◌, List, [], ◌∷◌, ◌++◌, refl, sym, ◌∙◌, ap, arith, ◌≤◌, ◌==◌, length, subst}
use Rattle.std.proofs.lemmas.Grind.{common_steps}
use Rattle.std.specs.Prelude.{Option, Some, None, Ok, IfSome, not, unwrap_or, Result, Err, IfOk, is_some, slice_index, if◌then◌else◌, IsTrue}
use Rattle.iol_octets.specs.declared.control.Channel.TheVariants.{Page}
use Rattle.iol_mseq.specs.Shape.{Shape, startup_shape}
use Rattle.iol_mseq.specs.Master.{HasMasterParts}
use Rattle.iol_mseq.specs.Texts.{master_text}
use Rattle.iol_mseq.specs.declared.reply.Reply.{Reply}
use Rattle.iol_mseq.specs.declared.master.MasterMsg.{MasterMsg}
use Rattle.iol_page.specs.Page.{layouts_of, is_interleaved, knows_isdu, is_old, is_present, IsAskedBy, PagesAskForLayouts}
use Rattle.iol_page.specs.Identity.{identity_of, is_expected}
use Rattle.iol_page.specs.declared.page.Layouts.{Layouts}
use Rattle.iol_page.specs.declared.master_command.MasterCommand.{MasterCommand}
use Rattle.iol_event.specs.Memory.{is_empty}
use Rattle.iol_far.specs.declared.mode.DeviceMode.TheVariants.{Preoperate as FarPreoperate, Operate as FarOperate}
use Rattle.iol_far.specs.Codec.{layout_in}
use Rattle.iol_far.specs.Far.{Far, WaitingCommand, hear, command_in}
use Rattle.iol_far.specs.Linked.{TextsAreHeard}
use Rattle.iol_far.specs.Local.{locals}
use Rattle.iol_far.specs.declared.kind.Recalls.TheVariants.{UntilSent}
use Rattle.iol_far.specs.Level.{Quiet, Other, FarLink, IsIdle, IsLevel, accepting_link}
use Rattle.iol_far.specs.Laws.{confirms as octets_confirm, RepliesAreRead, InputStaysSized, MuchStays, LevelLaws, EventLaws, ModesHaveLayouts}
use Rattle.iol_link.specs.Attempts.{good_reply}
use Rattle.iol_link.specs.Honest.{HonestExchange, far_after}
use Rattle.iol_mode.specs.declared.states.Startup.{Startup}
use Rattle.iol_mode.specs.declared.states.Preoperate.{Preoperate}
use Rattle.iol_mode.specs.declared.states.PageFacts.{PageFacts}
use Rattle.iol_mode.specs.declared.states.State.{State}
use Rattle.iol_mode.specs.declared.states.State.TheVariants.{Startup as AtStartup, Preoperate as AtPreoperate, Operate as AtOperate}
use Rattle.iol_mode.specs.declared.why.Why.{Why}
use Rattle.iol_mode.specs.Next.{IsEntered, read_by}
use Rattle.iol_mode.specs.declared.states.StartupStep.{StartupStep}
use Rattle.iol_mode.specs.Stands.{startup_link, preoperate_link, entering_link, StepLevel, StateStands, StepStands}
use Rattle.iol_mode.specs.States.{NextMode, InDown, NextModeFits, StateFits, next_state, is_behind, is_reset, StepFits, is_starting, startup_at, step_behind, step_after, facts_of, is_left_out, layouts_taken, page_taken, taken_where, mode_after_check, startup_by, startup_turned, preoperate_by, preoperate_after, preoperate_turned}
use Rattle.iol_mode.specs.Turns.{IsRisen}
use Rattle.iol_app.specs.declared.mode.Mode.{Mode}
use Rattle.iol_app.specs.declared.mode.Mode.TheVariants.{Down as ModeDown, Startup as ModeStartup, Operate as ModeOperate}
use Rattle.iol_app.specs.declared.report.Said.TheVariants.{Idle}
use Rattle.iol_app.specs.Abstract.Steps.{PortStep, PageRead, Move as MoveTo, Exchanged, silence_by, output_length, page_refusal, fault_in}
use Rattle.iol_app.specs.Abstract.OfMaster.{resets}
use Rattle.iol_app.specs.Abstract.OfDevice.{Hidden, IsOpen, hidden_through}
use Rattle.iol_app.specs.Abstract.Shown.{MasterFields}
use Rattle.iol_app.specs.Abstract.Session.{MayMove, HoldsNothing}
use Rattle.iol_app.specs.Abstract.Images.{Images}
use Rattle.iol_app.specs.Abstract.Shown.{ShownProcessData, images_of, session_of}
use Rattle.iol_app.specs.BothEnds.{far_mode, output_by, wants_confirm}
use Rattle.iol_app.specs.Exchange.{reading_flagged}
use Rattle.iol_app.proofs.AllLaws.{Laws, page_locals, page_after as page_passed, kind_after, level_locals, all_laws}
use Rattle.iol_app.proofs.OwnSession.{own_open}
use Rattle.iol_app.specs.Ends.{OutputFits, ShownFits}
use Rattle.iol_app.proofs.Outputs.{outputs_locals}
use Rattle.iol_app.proofs.OpenLevel.{tied_locals, hear_carried}
use Rattle.iol_app.proofs.EventReading.{continued_fits, ends_hold}
use Rattle.iol_app.proofs.Effects.{Effect, Ends, Left, unreported_effect, gives as call_gives, falls as call_falls}
use Rattle.iol_app.proofs.Shown.{shown_as}
use Rattle.iol_app.proofs.FirstOctet.{confirms_of}
use Rattle.iol_app.specs.declared.event_work.ReadingProgress.TheVariants.{Resting}
use Rattle.iol_app.specs.State.{SessionState, IsSession, session_with_page, session_with_flag}
use Rattle.iol_app.specs.StationState.{SessionFits, settled_session, mode_in, why_in, HasReadPage, with_page_read}
use Rattle.iol_app.proofs.StartMessages.{step_channel, sends_channel, preoperate_mode, page_confirms}
use Rattle.iol_app.proofs.PageReads.{startup_layout, read_layout, length_acknowledged, page_is_shown, page_stays}
use Rattle.iol_app.specs.Moves.{progress_of}
use Rattle.iol_app.specs.Core.{CoreState, Ghost, fields_in, shown_in}
use Rattle.iol_app.specs.CoreStands.{BothEndsStand, OutputOff, ShownStands}
use Rattle.iol_app.specs.CoreGives.{CallGives, moment_of}
use Rattle.iol_app.specs.CoreTurns.{settled_core, Rises}
use Rattle.iol_app.proofs.FarSide.{Goes, IsGoing, Level, OutputsAt, outputs_sent, outputs_after, opens_after, silent, replied, IsReplied}
use Rattle.std.proofs.lemmas.Bool.Decides.{nat_tests}
use Rattle.iol_mode.specs.declared.configuration.Configuration.{Configuration}
use Rattle.iol_mode.specs.declared.configuration.Devices.{Devices}
use Rattle.iol_mode.specs.declared.configuration.Devices.TheVariants.{Own, Any}
use Rattle.iol_page.specs.declared.fault.PageFault.{PageFault}
use Rattle.iol_page.specs.declared.fault.PageFault.TheVariants.{Revision, BadPdLength, UnsupportedCode}
use Rattle.iol_event.specs.declared.event.Event.{Event}
use Rattle.iol_far.specs.Orderly.{OrderlyLaws}
use Rattle.iol_link.specs.declared.handler.Attempt.TheVariants.{Retry, Lost as WasLost}
use Rattle.iol_mode.specs.declared.states.StartupStep.TheVariants.{Read, Ident, Leave, Cycle, Enter}
use Rattle.iol_mode.specs.declared.why.Why.TheVariants.{WrongDevice}
use Rattle.iol_mode.specs.Why.{why_of}
use Rattle.iol_mode.specs.Exchanges.{text_out, mode_after_reply}
use Rattle.iol_app.proofs.SmallFacts.{third_time}
use Rattle.iol_app.proofs.Stations.{resting_quiet}
use Rattle.iol_app.proofs.Leaving.{leaving_rises}
use Rattle.iol_app.proofs.PastPart.{none_waits}
use Rattle.iol_app.specs.BothEnds as steps
use Rattle.iol_app.specs.Abstract.Turn.{may_bring}

-- a start-up whose device was reset
data Start : Type 0 where
  InStart : (s : Startup) → is_behind s.step ≡ true → Start
  InPre : Preoperate → Start

abbrev state_at : Start → State
state_at (InStart s b) = AtStartup s
state_at (InPre s) = AtPreoperate s

abbrev mode_at : Start → Mode
mode_at start = mode_in (state_at start)

-- nothing is under way in it
abbrev still : SessionState → SessionState
still t = record t {
  current = None;
  exchange = None;
  output = record t.output { acknowledged = false };
  events = record t.events { reading = Resting };
  image = None;
}

is_still : (t : SessionState) → t.current ≡ None → t.exchange ≡ None → t.image ≡ None
    → t.events.reading ≡ Resting → t.output.acknowledged ≡ false → t ≡ still t
is_still t a b c d e = grind (arith, common_steps)

abbrev at_rest : State → SessionState → CoreState
at_rest state session = record { state = state; session = still session }

none_due : (b awake : Bool) → false ≡ (awake && wants_confirm (reading_flagged b))
none_due b awake = grind (arith, common_steps)

waits_idle : (waits : Option WaitingCommand) → IfSome waits (λ command. IsIdle Quiet)
waits_idle waits = grind (arith, common_steps)

no_command : (mode : Mode) (command : Option MasterCommand) → mode ≢ ModeOperate
    → output_by mode command ≡ None
no_command mode command below = grind (arith, common_steps)

reset_at : (start : Start) → is_reset (state_at start) ≡ true
reset_at start = grind (arith, common_steps)

-- both ends are level then
level_behind : (step : StartupStep) (o : List ℕ) (tries : ℕ) (far : Far) → is_behind step ≡ true
    → StepLevel step o tries far
    → IsLevel far.page far.kind startup_shape.od far.carried startup_link Quiet o tries far
level_behind step o tries far e h = grind (arith, common_steps)

below : (start : Start) → mode_at start ≢ ModeOperate
below start e = grind (arith, common_steps)

-- what a reply brings in it

stays_brings : (start : Start) (answered : Bool)
    → IsTrue (may_bring (mode_at start) (Exchanged answered) [])
stays_brings start answered = grind (arith, common_steps)

moves_brings : (start : Start) (mode : Mode) (why : Option Why)
    → IsTrue (may_bring (mode_at start) (Exchanged true) (MoveTo mode why ∷ []))
moves_brings start mode why = grind (arith, common_steps)

page_read_brings : (start : Start) → mode_at start ≡ ModeStartup
    → IsTrue (may_bring (mode_at start) (Exchanged true) (PageRead ∷ []))
page_read_brings start first = subst (λ (mode : Mode).
    IsTrue (may_bring mode (Exchanged true) (PageRead ∷ []))) (sym first) refl

-- an output that isn't valid is as told
invalid : (sent : Option (List ℕ)) (known : Type 0) (far : Far) → OutputOff false far
    → OutputFits sent known false far
invalid sent known far h = ((λ a v. absurd (cc (h.off a))), (λ a none. h.off a), h.waits)

-- Its message, and the level of both ends

record Message (start : Start) (far : Far) : Type 0 where
  shape : Shape
  message : MasterMsg
  tries : ℕ
  link : FarLink
  page : message.mc.channel ≡ Page
  parts : HasMasterParts shape message
  mode : (accepting_link link (master_text shape message)).mode ≡ far_mode (mode_at start)
  layout : layout_in far.page (far_mode (mode_at start)) ≡ shape
  level : IsLevel far.page far.kind shape.od far.carried link Quiet
      (master_text shape message) tries far

abbrev message_of : (start : Start) (n : ℕ) (far : Far) → StateFits (state_at start)
    → StateStands (state_at start) n far → Message start far
message_of (InStart s b) n far fits stands = record {
  shape = startup_shape;
  message = s.sent.message;
  tries = s.sent.tries;
  link = startup_link;
  page = rw fits.message_is (step_channel s.step fits.step);
  parts = fits.parts;
  mode = refl;
  layout = startup_layout far.page;
  level = level_behind s.step _ s.sent.tries far b stands.level;
}
message_of (InPre s) n far fits stands = record {
  shape = s.pre;
  message = s.sent.message;
  tries = s.sent.tries;
  link = preoperate_link s.cycle_written;
  page = sends_channel s.cycle_written s.pre s.sent.message fits.sends;
  parts = fits.parts;
  mode = preoperate_mode s.cycle_written s.pre s.sent.message fits.sends;
  layout = read_layout far.page FarPreoperate s.layouts stands.read_from
      ∙ ap (λ (p : Option Shape). unwrap_or p startup_shape) fits.layouts.pre_is;
  level = stands.level;
}

-- what both modes say of the rest
record Rests (t : SessionState) (g : Ghost) (far : Far) : Type 0 where
  late : g.request.hidden.late ≡ None
  opens : IsOpen far.isdu None g.request.hidden
  idle : t.idle ≡ false
  unreported : g.events.reported ≡ false
  output : OutputOff t.output.acknowledged far

rests_of : (start : Start) (t : SessionState) (g : Ghost) (far : Far) (n : ℕ)
    → BothEndsStand (record { state = state_at start; session = t }) g far n → Rests t g far
rests_of start t g far n h = grind (arith, common_steps)

-- one exchange of it
record Exchange (start : Start) (session : SessionState) (g : Ghost) (far far' : Far)
    (n n' : ℕ) (received : Option (List ℕ)) : Type 0 where
  laws : Laws
  heard : TextsAreHeard
  stands : BothEndsStand (at_rest (state_at start) session) g far n
  k : Message start far
  x : HonestExchange far n (master_text k.shape k.message) received far' n'

-- no list was read before
none_flagged : (flag : Bool) → wants_confirm (reading_flagged flag) ≡ true → ⊥
none_flagged flag k = grind (arith, common_steps)

module _ {start : Start} {session : SessionState} {g : Ghost} {far far' : Far} {n n' : ℕ}
    {received : Option (List ℕ)} (it : Exchange start session g far far' n n' received) where
  open it use {laws, heard, stands, k, x}

  abbrev c : CoreState
  c = at_rest (state_at start) session

  abbrev o : List ℕ
  o = master_text k.shape k.message

  abbrev there : Far
  there = locals far x.steps

  abbrev passed : Far
  passed = far_after x.passage there o

  abbrev h : Hidden
  h = hidden_through None far x.steps g.request.hidden

  rests : Rests (still session) g far
  rests = rests_of start (still session) g far n stands

  -- the far end's part

  at_mode : layout_in far.page (accepting_link k.link o).mode ≡ k.shape
  at_mode = rw k.mode k.layout

  abbrev going : Goes
  going = record {
    page = far.page;
    kind = far.kind;
    run = k.shape;
    base = far.carried;
    link = k.link;
    progress = Quiet;
    message = k.message;
    o = o;
    what = Other;
    trust = UntilSent;
    vain = k.tries;
    mode = mode_at start;
    sent = g.sent;
    acked = false;
  }

  uncommanded : output_by (mode_at start) (command_in k.message) ≡ None
  uncommanded = no_command (mode_at start) (command_in k.message) (below start)

  goes : IsGoing going
  goes = record {
    sent_at = record {
      spells = rw at_mode (heard k.shape k.message k.parts);
      size_of = rw at_mode refl;
      move = rw k.page tt;
      begins = tt;
      idle = waits_idle k.link.waits;
    };
    trusts = tt;
    at_mode = k.mode;
    layout = k.layout;
    carries = λ e. absurd (below start e);
    tells = λ e. absurd (cc uncommanded);
    starting = λ e. refl;
  }

  page_there : there.page ≡ far.page
  page_there = page_locals laws x.steps far

  page_is : passed.page ≡ g.page
  page_is = page_passed laws x.passage there o ∙ page_there ∙ stands.page

  page_new : far'.page ≡ g.page
  page_new = rw x.far_is page_is

  kind_is : passed.kind ≡ g.kind
  kind_is = kind_after laws x.passage there o ∙ laws.much.kind_stays far x.steps ∙ stands.kind

  level : Level laws going goes there
  level = level_locals laws far.page far.kind k.shape.od
      (rw k.layout at (laws.layouts far.page (far_mode (mode_at start))).1) far.carried k.link Quiet
      o k.tries x.steps far k.level

  outputs : OutputsAt laws going goes there
  outputs = outputs_locals g.sent _ false x.steps far (invalid _ _ far rests.output)

  off : OutputOff false passed
  off =
      let h = outputs_after laws going goes x.passage there page_there level outputs in
      record { unacknowledged = refl; off = λ a. h.1 a uncommanded; waits = h.2 }

  tied : (h.late ≡ None) × (there.carried ≡ far.carried)
  tied =
      let own = tied_locals (Unit {0}) far.carried None x.steps far g.request.hidden rests.opens
      (rests.late, λ _. refl) in
      (own.0, own.1 tt)

  opens : IsOpen passed.isdu None h
  opens = (opens_after laws going goes there level None h tt (λ q e. absurd (cc e))
      (own_open None g.request.hidden x.steps far rests.opens) x.passage).1
      (λ e. grind (arith, common_steps)) (hear_carried there o ∙ tied.1)

  unconfirmed : octets_confirm o ≡ false
  unconfirmed = sym (confirms_of (layout_in far.page (accepting_link k.link o).mode) o k.message
      goes.sent_at.spells) ∙ page_confirms k.message k.page

  abbrev effect : Effect c g far passed n n'
  effect = unreported_effect c g far laws refl rests.opens (none_waits far.events x.regular.memory)
      x.steps n n' x.passage o
      x.silence_is unconfirmed opens
      (outputs_sent laws going goes there page_there level outputs) rests.unreported

  -- What an outcome has to bring

  abbrev Brings : Bool → CoreState → List PortStep → Type 0
  Brings answered next ys = Ends c g far passed n n' effect stands (below start)
      (Exchanged answered) ys next h false

  abbrev LeftIn : State → SessionState → Type 0
  LeftIn state u = Left c g far passed n n' effect stands (below start)
      (record { state = state; session = u }) h false

  abbrev Rising : NextMode → Type 0
  Rising outcome = IsRisen true outcome n' far far' → NextModeFits outcome
      → SessionFits (next_state outcome) (settled_session outcome (still session))
      → CallGives c g far n Idle (settled_core outcome (still session)) far' n'

  no_book : (is : Bool) → [] ≡ resets (is_reset c.state) is ++ []
  no_book is = rw (reset_at start) refl

  by : {outcome : NextMode} {u : SessionState} {ys : List PortStep} (answered : Bool)
      → n' ≡ silence_by (Exchanged answered) n → settled_session outcome (still session) ≡ u
      → Brings answered (record { state = next_state outcome; session = u }) ys → Rising outcome
  by answered silence same b risen fits joined = rw (same, x.far_is)
      (call_gives c g far passed n n' effect stands (below start) (Exchanged answered) _ _ h false
      b (grind (arith, common_steps)) silence fits (rw x.far_is at risen.both.stands)
      (rw same at joined))

  -- The outcomes

  unchanged : (next : Start) → LeftIn (state_at next) (still session)
  unchanged (InStart s b) = record {
    request = (λ _. tied.0, opens, rests.idle, λ k. absurd (cc (b, k)));
    events = (refl, refl);
    output = (refl, λ _. off);
    quiet = tt;
  }
  unchanged (InPre s) = assumption (tied, opens, rests.idle, refl, off)

  shown' : (state : State) (event : Bool)
      → ShownStands (record {
        state = state;
        session = session_with_flag event (still session);
      }) g.page
  shown' state event = shown_as stands.shown (λ e. refl) refl stands.shown.present refl

  -- a start-up goes on in its mode
  stays : (answered : Bool) (next : Start)
      → fields_in (at_rest (state_at next) session) g ≡ fields_in c g
      → Brings answered (at_rest (state_at next) session) []
  stays answered next same =
      let shows = ap (λ (e : MasterFields). session_of e h passed.carried) (sym same) in
      assumption (
        refl,
        stays_brings start answered,
        shows,
        no_book (is_reset (state_at next)),
        unchanged next,
        stands.sent,
        shown' (state_at next) session.events.flag,
      )

  -- its mode alone moves; what is told of events may change
  moves : (event : Bool) (state : State) → MayMove (moment_of c g n (Exchanged true))
      (mode_at start) (mode_in state) (why_in state) × HoldsNothing (mode_in state) h.late
      → LeftIn state (session_with_flag event (still session))
      → Brings true (record { state = state; session = session_with_flag event (still session) })
      (MoveTo (mode_in state) (why_in state) ∷ [])
  moves event state may left =
      assumption (
        refl,
        moves_brings start (mode_in state) (why_in state),
        may,
        no_book
            (is_reset state),
        left,
        stands.sent,
        shown' state event,
      )

  -- it goes down, for a cause
  down : {why : Why} (answered : Bool) → n' ≡ silence_by (Exchanged answered) n
      → IsTrue (may_bring (mode_at start) (Exchanged answered) (MoveTo ModeDown (Some why) ∷ []))
      → MayMove (moment_of c g n (Exchanged answered)) (mode_at start) ModeDown (Some why)
      → Rising (InDown (record { why = Some why }))
  down {why} answered silence brings may = by answered silence refl
      (call_falls c g far passed n n' effect stands (below start) (Exchanged answered) why refl
      brings
      may)

  -- the page is whole, that of the device that is expected, and is told
  tells : (s : Startup) (behind : is_behind s.step ≡ true) (read : PageFacts)
      → mode_at start ≡ ModeStartup
      → fields_in (at_rest (AtStartup s) session) g ≡ fields_in c g
      → layouts_of g.page ≡ Ok read.layouts → read.layouts.isdu ≡ knows_isdu g.page
      → read.page ≡ g.page → is_expected session.configuration.expected g.page ≡ true
      → IsSession (still session)
      → Brings true (record {
        state = AtStartup s;
        session = session_with_page read (still session);
      })
      (PageRead ∷ [])
  tells s behind read first same asked isdu page right valid =
      let q = unchanged (InStart s behind) in
      let shown : ShownProcessData = shown_in (still session) g.sent in
      let size : output_length g.page ≡ read.layouts.run.pd_out =
      ap (λ (l : Shape). l.pd_out) (read_layout g.page FarOperate read.layouts asked) in
      let fits : ShownFits (still session) shown = assumption (stands.sent, refl) in
      let w = page_is_shown (still session) shown read g.page (knows_isdu g.page)
      (output_length g.page) valid fits stands.shown.wanted stands.shown.lengths size (sym isdu)
      (sym page) in
      record {
        limit = refl;
        configuration = refl;
        brings = page_read_brings start first;
        session = ((tt, tt), ap (λ (e : MasterFields). session_of e h passed.carried) (sym same));
        frozen = ((tt, tt), refl);
        images = (
          ((first, right), tt),
          λ i.
              let y : Images = images_of (record shown {
                wanted = w.wanted i;
                known_length = w.known_length i;
                isdu = w.isdu i;
                page = w.page i;
              }) passed in y,
        );
        reports = refl;
        book = no_book _;
        left = record {
          request = q.request;
          events = q.events;
          output = rw (length_acknowledged read.layouts.run.pd_out (still session).output)
              (refl, λ _. off);
          quiet = tt;
        };
        sent = w.sent;
        image = refl;
        shown = record {
          image = λ e. refl;
          wanted = rw w.wanted at stands.shown.wanted;
          lengths = sym size;
          isdu = isdu;
          present = page;
          no_form = refl;
        };
      }

  -- What came back

  abbrev Good : Reply → Type 0
  Good r = IsReplied laws going goes far far' n n' received x k.level refl r

  missed : good_reply k.shape k.message received ≡ None → n' ≡ min 3 (n + 1)
  missed = silent laws going goes far far' n n' received x k.level refl

  takes_reply : (r : Reply) → good_reply k.shape k.message received ≡ Some r → Good r
  takes_reply = replied laws going goes far far' n n' received x k.level refl

  -- it comes to OPERATE, with the Event flag of the reply: the hold has ended, and the flag is the
  -- memory's
  enters : {layouts : Layouts} {r : Reply} → Good r
      → MayMove (moment_of c g n (Exchanged true)) (mode_at start) ModeOperate None
      → IsEntered (record { out = None; layouts = layouts }) n' far' r
      → Brings true (record {
        state = AtOperate (record { out = None; layouts = layouts });
        session = session_with_flag r.event (still session);
      }) (MoveTo ModeOperate None ∷ [])
  enters {layouts} {r} good may entered_is =
      let none : progress_of session.configuration.devices session.idle None ≡ Quiet =
      resting_quiet session.configuration.devices session.idle rests.idle in
      let same : (hear there o).far ≡ passed = sym good.far_is ∙ x.far_is in
      let held : passed.events.held ≡ false =
      rw same at (ends_hold there o good.octets unconfirmed good.replies) in
      let event : r.event ≡ not (is_empty passed.events.frozen) =
      ap (λ (q : Reply). q.event) good.reply_is
      ∙ ap (λ (f : Far). not (is_empty f.events.frozen)) same in
      let at = rw x.far_is at entered_is in
      moves r.event (AtOperate (record { out = None; layouts = layouts })) (may, tied.0)
      (record {
        request = record {
          late = tied.0;
          opens = opens;
          link = entering_link layouts;
          linked = inl (refl, none);
          in_operate = λ k. absurd (none_flagged r.event k);
          level = rw (none, ← kind_is, ← page_is) (at.before layouts.run.od);
          out = tt;
          answer = λ still. refl;
          busy = tt;
          known = λ e. absurd (cc e);
        };
        events = (
          (λ awake. continued_fits steps.Resting r.event passed.events event held tt),
          none_due r.event passed.awake,
        );
        output = invalid _ _ passed off;
        quiet = at.silent;
      })

-- what is known of every start-up
record Known : Type 0 where
  laws : Laws
  leaves : OrderlyLaws
  heard : TextsAreHeard
  asks : PagesAskForLayouts

-- of two pages that ask for interleaved process data both are left out, or none
left_at : (devices : Devices) (read page : List ℕ) → is_left_out devices read ≡ true
    → is_interleaved page ≡ true → is_left_out devices page ≡ true
left_at Own read page out asked = absurd (cc)
left_at Any read page out asked = asked

module _ (known : Known) (session : SessionState) (valid : IsSession (still session))
    (g : Ghost) (far far' : Far) (n n' : ℕ) (received : Option (List ℕ)) where
  open known use {laws, heard, asks}

  asked_by : (layouts : Layouts) → layouts_of g.page ≡ Ok layouts → IsAskedBy g.page layouts
  asked_by layouts e = subst (λ (q : Result Layouts PageFault). IfOk q (IsAskedBy g.page)) e
      (asks g.page)

  abbrev Exchanging : Start → Type 0
  Exchanging start = Exchange start session g far far' n n' received

  abbrev exchange_of : (start : Start)
      → (stands : BothEndsStand (at_rest (state_at start) session) g far n)
      → let k = message_of start n far stands.fits stands.link in
      HonestExchange far n (master_text k.shape k.message) received far' n' → Exchanging start
  exchange_of start stands x = record {
    laws = laws;
    heard = heard;
    stands = stands;
    k = message_of start n far stands.fits stands.link;
    x = x;
  }

  -- PREOPERATE
  module _ (s : Preoperate) (stands : BothEndsStand (at_rest (AtPreoperate s) session) g far n)
      (x : HonestExchange far n (text_out (AtPreoperate s)) received far' n') where
    abbrev pre : Exchanging (InPre s)
    pre = exchange_of (InPre s) stands x

    pre_tries : (b : Bool) → (s.sent.tries == 2) ≡ b → n' ≡ min 3 (n + 1)
        → Rising pre (preoperate_by
        (record { message = s.sent.message; tries = if b then 0 else s.sent.tries + 1 })
        s.cycle_written s.pre s.layouts (if b then WasLost else Retry))
    pre_tries true two silence = down pre false silence refl
        (third_time s.sent.tries n (grind (arith, nat_tests)) stands.link.tries)
    pre_tries false two silence = by pre false silence refl (stays pre false (InPre _) refl)

    pre_written : (written : Bool) (r : Reply) → Good pre r
        → Rising pre (preoperate_after written s.pre s.layouts r)
    pre_written true r good risen =
        by pre true good.silence_is refl (enters pre good tt risen.entered) risen
    pre_written false r good risen =
        by pre true good.silence_is refl (stays pre true (InPre _) refl) risen

    pre_rises : (q : Option Reply) → good_reply s.pre s.sent.message received ≡ q
        → Rising pre (preoperate_turned s q)
    pre_rises None e = pre_tries (s.sent.tries == 2) refl (missed pre e)
    pre_rises (Some r) e = pre_written s.cycle_written r (takes_reply pre r e)

  -- STARTUP
  module _ (s : Startup) (b : is_behind s.step ≡ true)
      (stands : BothEndsStand (at_rest (AtStartup s) session) g far n)
      (x : HonestExchange far n (text_out (AtStartup s)) received far' n') where
    abbrev start : Exchanging (InStart s b)
    start = exchange_of (InStart s b) stands x

    abbrev asks_now : Configuration
    asks_now = session.configuration

    start_tries : (b : Bool) → (s.sent.tries == 2) ≡ b → n' ≡ min 3 (n + 1)
        → Rising start (startup_by asks_now
        (record { message = s.sent.message; tries = if b then 0 else s.sent.tries + 1 })
        s.step (if b then WasLost else Retry))
    start_tries true two silence = down start false silence refl
        (third_time s.sent.tries n (grind (arith, nat_tests)) stands.link.tries)
    start_tries false two silence = by start false silence
        (page_stays (read_by s.step) (still session) valid stands.joined.1)
        (stays start false (InStart _ b) refl)

    module _ (r : Reply) (good : Good start r) where
      goes_on : (step : StartupStep) → is_behind step ≡ true
          → with_page_read (read_by step) (still session) ≡ still session
          → Rising start (startup_at step)
      goes_on step behind same =
          by start true good.silence_is same (stays start true (InStart _ behind) refl)

      may_fault : (fault : PageFault) → page_refusal g.page ≡ Some (why_of fault)
          → MayMove (moment_of (at_rest (AtStartup s) session) g n (Exchanged true)) ModeStartup
          ModeDown (Some (why_of fault))
      may_fault (Revision octet) e = e
      may_fault BadPdLength e = e
      may_fault UnsupportedCode e = e

      behind_session : (page : PageFacts) (p : Option Shape)
          → with_page_read (read_by (step_behind page p)) (still session)
          ≡ session_with_page page (still session)
      behind_session page p = grind (arith, common_steps)

      behind_page : (page : PageFacts) (p : Option Shape) → is_behind (step_behind page p) ≡ true
      behind_page page p = grind (arith, common_steps)

      behind_is_read : (page : PageFacts) (p : Option Shape) → StepStands (step_behind page p) far'
          → (layouts_of far'.page ≡ Ok page.layouts) × (page.page ≡ far'.page)
      behind_is_read page p q = grind (arith, common_steps)

      by_layouts : (b : Bool) (layouts : Layouts) (octets : List ℕ)
          → is_left_out asks_now.devices octets ≡ b
          → is_expected asks_now.expected octets ≡ true
          → Rising start (layouts_taken b asks_now layouts octets)
      -- the device would use other layouts
      by_layouts true layouts octets out known risen =
          let asked : is_interleaved g.page ≡ true =
          rw (page_new start) at (risen.interleaved refl) in
          down start true good.silence_is refl
          (left_at asks_now.devices octets g.page out asked) risen
      by_layouts false layouts octets out known risen =
          let read : PageFacts = facts_of asks_now layouts octets in
          let behind = rw (page_new start) at
          (behind_is_read read layouts.pre risen.both.stands.step) in
          let right : is_expected asks_now.expected g.page ≡ true =
          rw behind.1 at known in
          by start true good.silence_is (behind_session read layouts.pre)
          (tells start _ (behind_page read layouts.pre) read refl refl behind.0
          (asked_by layouts behind.0).isdu behind.1 right valid) risen

      by_taken : (asked : Result Layouts PageFault) (octets : List ℕ)
          → is_expected asks_now.expected octets ≡ true
          → Rising start (page_taken asks_now asked octets)
      by_taken (Err fault) octets known risen =
          let asked : layouts_of g.page ≡ Err fault =
          rw (page_new start) at (risen.fault fault refl) in
          down start true good.silence_is refl (may_fault fault (ap fault_in asked)) risen
      by_taken (Ok layouts) octets known risen =
          by_layouts (is_left_out asks_now.devices octets) layouts octets refl known risen

      -- another device is there than the one that is expected
      by_wrong : (octets : List ℕ) → is_expected asks_now.expected octets ≡ false
          → Rising start (InDown (record { why = Some (WrongDevice (identity_of octets)) }))
      by_wrong octets unknown risen =
          let found : identity_of g.page ≡ identity_of octets =
          rw (page_new start) at (risen.device (identity_of octets) refl) in
          let wrong : is_expected asks_now.expected g.page ≡ false =
          grind (arith, common_steps, found, unknown) in
          down start true good.silence_is refl (found, wrong) risen

      by_known : (b : Bool) (octets : List ℕ) → is_expected asks_now.expected octets ≡ b
          → Rising start (taken_where b asks_now (layouts_of octets) octets)
      by_known true octets known = by_taken (layouts_of octets) octets known
      by_known false octets known = by_wrong octets known

      by_octets : (b : Bool) (octets : List ℕ)
          → Rising start (if b then mode_after_check asks_now (layouts_of octets) octets else
          startup_at
          (Read (record { items = octets })))
      by_octets true octets = by_known (is_expected asks_now.expected octets) octets refl
      by_octets false octets = goes_on (Read (record { items = octets })) refl refl

      by_step : (step : StartupStep) → is_behind step ≡ true → StepFits step → StepStands step far
          → HasReadPage (read_by step) (still session) → Rising start (step_after asks_now step r)
      by_step (Read read) behind proper at before risen =
          by_octets (length (read.items ++ slice_index r.od.items 0 ∷ []) == 10)
          (read.items ++ slice_index r.od.items 0 ∷ []) risen
      by_step (Ident page pre) behind proper at before risen =
          goes_on (Leave page pre) refl (page_stays (Some page) (still session) valid before) risen
      by_step (Cycle page) behind proper at before risen =
          goes_on (Enter page) refl (page_stays (Some page) (still session) valid before) risen
      by_step (Leave page pre) behind proper up before risen =
          let q = asked_by page.layouts (rw stands.page at up.0) in
          let present : is_present g.page ≡ true = q.present ∙ sym q.old
          ∙ ap (λ (p : Option Shape). is_some p) proper.pre_is in
          by start true good.silence_is refl (moves start session.events.flag (AtPreoperate _)
          (present, (tied start).0) (unchanged start (InPre _))) risen
      by_step (Enter page) behind proper up before risen =
          let q = asked_by page.layouts (rw stands.page at up.0) in
          let none : not (is_old g.page) ≡ false = sym q.old
          ∙ ap (λ (p : Option Shape). is_some p) proper.old in
          let old : is_old g.page ≡ true = grind (arith, common_steps, none) in
          by start true good.silence_is refl (enters start good old risen.entered) risen
      by_step other behind proper at before risen = absurd (cc)

    start_rises : (q : Option Reply) → good_reply startup_shape s.sent.message received ≡ q
        → Rising start (startup_turned asks_now s q)
    start_rises None e = start_tries (s.sent.tries == 2) refl (missed start e)
    start_rises (Some r) e =
        by_step r (takes_reply start r e) s.step b stands.fits.step stands.link.step stands.joined.1

-- in both
module _ (known : Known) (t : SessionState) (valid : IsSession t) (g : Ghost) (far far' : Far)
    (n n' : ℕ) (received : Option (List ℕ)) where
  abbrev RisesBy : State → Type 0
  RisesBy state = let o : NextMode = mode_after_reply t.configuration state received in
      BothEndsStand (record { state = state; session = t }) g far n
      → HonestExchange far n (text_out state) received far' n'
      → IsRisen (is_reset state) o n' far far' → NextModeFits o
      → SessionFits (next_state o) (settled_session o t)
      → CallGives (record { state = state; session = t }) g far n Idle (settled_core o t) far' n'

  by_startup : (s : Startup) (behind : Bool) → is_behind s.step ≡ behind
      → RisesBy (AtStartup s)
  by_startup s false b stands x risen fits joined =
      leaving_rises known.laws known.leaves known.heard s t g far far' n n' received b stands x
      risen fits
  by_startup s true b stands x risen fits joined =
      let e : t ≡ still t = is_still t stands.joined.0.0 stands.joined.0.1
      (stands.shown.image (λ k. absurd (cc k))) stands.events.0 stands.output.0 in
      rw e (start_rises known t (rw e at valid) g far far' n n' received s b (rw e at stands) x
      _ refl
      (rw b at risen) fits (rw e at joined))

  rises_at : (state : State) → is_starting state ≡ true → RisesBy state
  rises_at (AtStartup s) up stands x risen fits joined =
      by_startup s (is_behind s.step) refl stands x risen fits joined
  rises_at (AtPreoperate s) up stands x risen fits joined =
      let e : t ≡ still t = is_still t stands.joined.0.0 stands.joined.0.1
      (stands.shown.image (λ k. absurd (cc k))) stands.events.0 stands.output.unacknowledged in
      rw e (pre_rises known t (rw e at valid) g far far' n n' received s (rw e at stands) x _ refl
      risen fits (rw e at joined))
  rises_at state up stands x risen fits joined = absurd (cc up)

pub rises : ((size : ℕ) → 1 ≤ size → LevelLaws size) → MuchStays → RepliesAreRead
    → InputStaysSized → ((first : Event) (rest : List Event) → EventLaws first rest)
    → ModesHaveLayouts → OrderlyLaws → TextsAreHeard → PagesAskForLayouts → Rises
rises levels much reads sized events layouts leaves heard asks = record {
  gives = λ c g far far' n n' received up stands valid x.
      rises_at (record {
        laws = all_laws levels much reads sized events layouts;
        leaves = leaves;
        heard = heard;
        asks = asks;
      }) c.session valid g far far' n n' received c.state up stands x;
}
