-- What comes back in OPERATE: from the wire's own words.
-- For the clauses of `laws::receive_gives`.
use Rattle.std.proofs.Common.{◌≡◌, ◌≢◌, ◌⊎◌, inl, inr, ℕ, suc, ◌+◌, ◌≤◌, ◌<◌, min, Bool, true, false, ◌==◌, List, refl, sym, subst, ◌∙◌, arith}
use Rattle.std.proofs.lemmas.Bool.Decides.{nat_tests}
use Rattle.std.proofs.lemmas.Grind.{common_steps}
use Rattle.std.specs.Prelude.{Option, Some, None, IsSome, if◌then◌else◌}
use Rattle.iol_isdu.specs.declared.values.Request.{Request}
use Rattle.iol_far.specs.declared.kind.HandsOver.{HandsOver}
use Rattle.iol_far.specs.declared.mode.DeviceMode.TheVariants.{Operate as FarOperate}
use Rattle.iol_far.specs.Codec.{layout_in}
use Rattle.iol_far.specs.Isdu.{IsduState}
use Rattle.iol_mseq.specs.Texts.{master_text}
use Rattle.iol_mseq.specs.declared.reply.Reply.{Reply}
use Rattle.iol_page.specs.declared.page.Layouts.{Layouts}
use Rattle.iol_event.specs.declared.event.Event.{Event}
use Rattle.iol_event.specs.Laws.{MemoryStaysValid, WaitsForAll, GivesFrozen}
use Rattle.iol_far.specs.Far.{Far, command_in}
use Rattle.iol_far.specs.Local.{locals}
use Rattle.iol_far.specs.Linked.{TextsAreHeard}
use Rattle.iol_far.specs.Level.{FarLink, Move, Begin, IsOutOnce, IsLevel}
use Rattle.iol_mode.specs.declared.configuration.Devices.{Devices}
use Rattle.iol_mode.specs.declared.configuration.Devices.TheVariants.{Any}
use Rattle.iol_mode.specs.Kinds.{trusted_recalls}
use Rattle.iol_mode.specs.Exchanges.{StandsOn}
use Rattle.iol_far.specs.Laws.{RepliesAreRead, InputStaysSized, MuchStays, LevelLaws, EventLaws, ModesHaveLayouts}
use Rattle.iol_link.specs.Attempts.{Sending, good_reply, attempt_of}
use Rattle.iol_link.specs.Honest.{Passage, Clean, HonestExchange}
use Rattle.iol_link.specs.declared.handler.Attempt.TheVariants.{Retry, Lost as WasLost}
use Rattle.iol_mode.specs.Stands.{IsOperating, IsAccepted}
use Rattle.iol_mode.specs.States.{NextMode, StateFits, next_state, operate_by, sending_after_try}
use Rattle.iol_mode.specs.Turns.{IsMet}
use Rattle.iol_app.specs.declared.mode.Mode.TheVariants.{Operate as ModeOperate}
use Rattle.iol_app.specs.declared.report.Said.{Said}
use Rattle.iol_app.specs.Abstract.Steps.{repeats_at, Exchanged}
use Rattle.iol_app.specs.Abstract.OfMaster.{ExchangeResult, Missed, Unconfirmed}
use Rattle.iol_app.specs.Abstract.OfDevice.{Hidden, IsOpen}
use Rattle.iol_app.specs.BothEnds.{AnswerFits, output_by}
use Rattle.iol_app.specs.Exchange.{TextNamesAnswer}
use Rattle.iol_app.proofs.AllLaws.{Laws, all_laws, page_locals}
use Rattle.iol_app.proofs.EventReading.{ReaderLaws}
use Rattle.iol_app.proofs.OwnSession.{MayRedeliver, own_open}
use Rattle.iol_app.proofs.Moves.{whole_begins}
use Rattle.iol_app.proofs.OpenLevel.{open_redelivered}
use Rattle.iol_app.specs.Ends.{OutputFits, output_for}
use Rattle.iol_app.proofs.Outputs.{outputs_locals}
use Rattle.iol_app.specs.declared.session.Purpose.{Purpose}
use Rattle.iol_app.specs.Moves.{AnswersAreTakenUp}
use Rattle.iol_app.specs.State.{SessionState, IsSession, checks_by}
use Rattle.iol_app.specs.StationState.{SessionFits, IsSettledReport}
use Rattle.iol_app.proofs.OperateMessages.{exchange_command}
use Rattle.iol_app.proofs.Turns.{good_parts}
use Rattle.iol_app.specs.Core.{CoreState, Ghost, OfRequest, OfEvents}
use Rattle.iol_app.specs.CoreStands.{BothEndsStand}
use Rattle.iol_app.specs.CoreGives.{CallGives}
use Rattle.iol_app.specs.CoreTurns.{Receives, core_out, after_missed, after_exchange}
use Rattle.iol_app.proofs.SmallFacts.{operating, third_time, begins_request}
use Rattle.iol_app.proofs.Stations.{trusts}
use Rattle.iol_app.proofs.FarSide.{Goes, IsGoing, silent, replied, says_of, outputs_sent, outputs_after, opens_after, replied_acknowledged, replied_out}
use Rattle.iol_app.proofs.Exchanging.{Turn, Passes, Ends, words, request_words, gives, repeat, unheard, away, unreported, missed_is, checked_is, misses, unconfirms, loses, at, level_here, tied'}
use Rattle.iol_app.proofs.GoodReplies.{Good, Replied, progress_fits, takes_reply}
use Rattle.iol_app.proofs.Cases.{message}
use Rattle.iol_app.proofs.PastPart.{none_waits}

unrepeated : (devices : Devices) (hands_over : HandsOver) (size : ℕ) (what : Move) (times : ℕ)
    → (devices ≡ Any → IsOutOnce hands_over size what times)
    → repeats_at devices hands_over size what ≡ false → IsOutOnce hands_over size what times
unrepeated devices hands_over size what times once still = grind (arith, common_steps)

-- where the answer is taken back, the request may be carried out again
may_redeliver : (repeats : Request → Bool) (state : IsduState) (request : Option Request)
    (h : Hidden)
    → IsOpen state request h ⊎ ((q : Request) → request ≡ Some q → repeats q ≡ true)
    → MayRedeliver repeats request state h
may_redeliver repeats state request h may = grind (arith, common_steps)

module _ (names : TextNamesAnswer) (taken : AnswersAreTakenUp) (laws : Laws)
    (heard : TextsAreHeard) (readers : ReaderLaws) (layouts : Layouts) (w : Sending)
    (t : SessionState) (e : Purpose) (g : Ghost) (far far' : Far) (n n' : ℕ)
    (received : Option (List ℕ)) (report : Said) where
  abbrev c : CoreState
  c = core_out layouts w t e t.current

  abbrev after_by : Option Reply → NextMode
  after_by reply = operate_by (sending_after_try w reply) layouts (attempt_of w.tries reply)

  -- the link's own part of what is left, and the session's
  record Left (outcome : NextMode) : Type 0 where
    pub on : StandsOn (next_state outcome) (after_exchange outcome c.session).state
    pub fits : StateFits (after_exchange outcome c.session).state
    pub joined : SessionFits (after_exchange outcome c.session).state
        (after_exchange outcome c.session).session

  module _ (stands : BothEndsStand c g far n) (valid : IsSession c.session)
      (x : HonestExchange far n (master_text layouts.run w.message) received far' n')
      (few : w.tries < 3)
      (accepts : (link : FarLink) → IsOperating layouts link
      → IsAccepted layouts far.page link w.message) where
    abbrev turn : Turn
    turn = record {
      laws = laws;
      layouts = layouts;
      w = w;
      t = t;
      g = g;
      far = far;
      n = n;
      steps = x.steps;
    }

    open (words turn Clean) use {o, passed as heard_far, devices}
    open (request_words turn Clean e t.current) use {what, repeats, progress, vain}

    abbrev there : Far
    there = locals far x.steps

    commands : output_by ModeOperate (command_in w.message) ≡ output_for e
    commands = exchange_command e t.events.reading t.current layouts.run.od w.message
        stands.joined.out_for.head (rw stands.joined.has_layouts.0 at stands.joined.out_for.octets)

    abbrev going : Goes
    going = record {
      page = g.page;
      kind = g.kind;
      run = layouts.run;
      base = g.request.base;
      link = stands.request.link;
      progress = progress;
      message = w.message;
      o = o;
      what = what;
      trust = trusted_recalls devices g.kind.recalls;
      vain = vain;
      mode = ModeOperate;
      sent = g.sent;
      acked = t.output.acknowledged;
    }

    same_layout : layout_in g.page FarOperate ≡ layouts.run
    same_layout = at turn Clean e t.current stands

    goes : IsGoing going
    goes =
        let tells : output_by ModeOperate (command_in w.message) ≡ Some true → IsSome g.sent =
        λ k. stands.request.out.tells (sym commands ∙ k) in
        let starting : ModeOperate ≢ ModeOperate
        → t.output.acknowledged ≡ false = λ k. absurd (k refl) in
        assumption (stands.request.out, trusts devices g.kind.recalls, same_layout, tells, starting)

    same_page : there.page ≡ g.page
    same_page = page_locals laws x.steps far ∙ stands.page

    level : IsLevel g.page g.kind layouts.run.od g.request.base stands.request.link progress o vain
        there
    level = level_here turn Clean e t.current stands

    outputs : OutputFits g.sent (output_by ModeOperate (command_in w.message) ≡ None)
        t.output.acknowledged there
    outputs = outputs_locals g.sent (output_by ModeOperate (command_in w.message) ≡ None)
        t.output.acknowledged x.steps far (rw commands stands.output)

    -- where the device is handed no request with each hearing, none was handed a second time
    once : repeats ≡ false → IsOutOnce g.kind.hands_over layouts.run.od what (suc vain)
    once still = unrepeated devices g.kind.hands_over layouts.run.od what (suc vain)
        stands.request.out.once still

    module _ (passage : Passage) where
      open (words turn passage) use {passed}
      open (request_words turn passage e t.current) use {request, own as h, hidden}

      opens : IsOpen passed.isdu request hidden
          × (IsOutOnce g.kind.hands_over layouts.run.od what (suc vain)
          → AnswerFits g.request.base request h heard_far.carried → IsOpen passed.isdu request h)
      opens = opens_after laws going goes there level request h
          (progress_fits devices t.idle t.current) (begins_request e t.current)
          (own_open request g.request.hidden x.steps far stands.request.opens) passage

      opened : repeats ≡ false → IsOpen passed.isdu request h
      opened still = opens.1 (once still) (tied' turn Clean e t.current stands still)

      by_repeats : (b : Bool) → repeats ≡ b
          → IsOpen passed.isdu request h ⊎ ((q : Request) → request ≡ Some q → repeats_at devices
          g.kind.hands_over (layout_in g.page FarOperate).od (Begin q) ≡ true)
      by_repeats false still = inl (opened still)
      by_repeats true whole = inr (λ q same.
          let (r, is) = whole_begins devices g.kind.hands_over layouts.run.od what whole in
          let named = begins_request e t.current r is in
          let k : r ≡ q = cc in
          rw same_layout (rw k at (rw is at whole)))

      passes : Passes turn passage e t.current
      passes = record {
        opens = opens.0;
        unchanged = λ still. (open_redelivered passed.isdu request h (opened still)).1;
        repeat = may_redeliver _ passed.isdu request h (by_repeats repeats refl);
        outputs = rw (← commands) (outputs_after laws going goes passage there same_page level
            outputs);
        sends = outputs_sent laws going goes there same_page level outputs;
        none = none_waits far.events x.regular.memory;
      }

    by_tries : (b : Bool) → (w.tries == 2) ≡ b → n' ≡ min 3 (n + 1)
        → let outcome : NextMode = operate_by
        (record { message = w.message; tries = if b then 0 else w.tries + 1 }) layouts
        (if b then WasLost else Retry) in
        IsMet outcome n' far' → Left outcome → IsSettledReport outcome c.session report
        → CallGives c g far n report (after_exchange outcome c.session) far' n'
    by_tries true two silence met left says =
        gives turn x.passage e t.current stands (passes x.passage) x.far_is
        (loses turn x.passage e t.current stands (passes x.passage) says
        (third_time w.tries n (grind (arith, nat_tests)) stands.link.tries)) (λ k. cc) tt silence
        (left.on far' n' met.stands) left.fits left.joined tt
    by_tries false two silence met left says =
        by_checks (checks_by devices (Some e)) refl
      where
        p : Passes turn x.passage e t.current
        p = passes x.passage

        next : CoreState
        next = after_missed (core_out layouts (repeat turn x.passage e t.current stands p) t e
            t.current)

        missed_gives : {of_request : OfRequest} {of_events : OfEvents} {kind : ExchangeResult}
            → Ends turn x.passage e t.current stands report (Exchanged false) next of_request
            of_events kind → CallGives c g far n report next far' n'
        missed_gives ends = gives turn x.passage e t.current stands p x.far_is ends
            (λ k. cc) tt silence (left.on far' n' met.stands) left.fits left.joined tt

        by_checks : (b : Bool) → checks_by devices (Some e) ≡ b
            → CallGives c g far n report next far' n'
        by_checks true is = missed_gives
            (subst (λ (core : CoreState). Ends turn x.passage e t.current stands report
            (Exchanged false) core (unheard turn x.passage e t.current stands p)
            (unreported turn x.passage e t.current stands p) Unconfirmed)
            (checked_is turn x.passage e t.current stands p is)
            (unconfirms turn x.passage e t.current stands p heard valid is says))
        by_checks false other = missed_gives
            (subst (λ (core : CoreState). Ends turn x.passage e t.current stands report
            (Exchanged false) core (unheard turn x.passage e t.current stands p)
            (away turn x.passage e t.current stands p) Missed)
            (missed_is turn x.passage e t.current stands p other)
            (misses turn x.passage e t.current stands p heard valid other says))

    by_reply : (reply : Option Reply) → good_reply layouts.run w.message received ≡ reply
        → IsMet (after_by reply) n' far' → Left (after_by reply)
        → IsSettledReport (after_by reply) c.session report
        → CallGives c g far n report (after_exchange (after_by reply) c.session) far' n'
    by_reply None good met left says =
        by_tries (w.tries == 2) refl
        (silent laws going goes far far' n n' received x stands.request.level stands.page good) met
        left says
    by_reply (Some r) good met left says =
        let is = replied laws going goes far far' n n' received x stands.request.level stands.page r
        good in
        let good_turn : Good = record {
          turn = turn;
          readers = readers;
          far' = far';
          n' = n';
          regular = x.regular;
          r = r;
          report = report;
        } in
        let acknowledged_as = rw commands at
        (replied_acknowledged laws going goes there same_page level outputs
        is.octets is.replies) in
        let out_is = replied_out laws going goes there same_page level refl is.octets is.replies in
        let accepted = rw stands.page at (accepts stands.request.link
        (operating layouts progress stands.request.link stands.request.linked)) in
        let heard_says = says_of laws going goes there level is.octets is.replies in
        let parts = good_parts layouts.run w.message received r good in
        let passes_clean = passes Clean in
        let a : Replied good_turn e t.current =
        search (
          is,
          passes_clean,
          once,
          heard_says,
          acknowledged_as,
          out_is,
          accepted,
          valid,
          parts,
        ) in
        takes_reply a (message names taken good_turn e t.current a says)
        (left.on far' n' met.stands)
        left.fits left.joined

pub receives : ((size : ℕ) → 1 ≤ size → LevelLaws size) → MuchStays → RepliesAreRead
    → InputStaysSized → ((first : Event) (rest : List Event) → EventLaws first rest)
    → ModesHaveLayouts → TextsAreHeard → MemoryStaysValid → WaitsForAll → GivesFrozen
    → TextNamesAnswer → AnswersAreTakenUp → Receives
receives level much reads sized events layouts heard memory waits gives names taken = record {
  gives = λ run w t e g far far_new n n_new received report stands valid x few met accepts on
      fits joined
      says.
      by_reply names taken (all_laws level much reads sized events layouts) heard
      (record { memory = memory; waits = waits; gives = gives }) run w t e g far far_new n n_new
      received report stands valid x few accepts (good_reply run.run w.message received) refl met
      (record { on = on; fits = fits; joined = joined }) says;
}
