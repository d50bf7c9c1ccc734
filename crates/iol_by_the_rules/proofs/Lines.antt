-- A run of a port, and its watch: for `ports_are_by_the_rules`. Begin at the end, with
-- `ports_are_fair`.
-- For the clauses of `laws::ports_are_by_the_rules`.
use Rattle.std.proofs.Common.{◌≡◌, cond, ℕ, ◌≤◌, ◌<◌, Bool, true, false, ◌==◌, ◌+◌, if◌then◌else◌, List, [], ◌∷◌, length, refl, ap, sym, subst, ◌∙◌, inl, inr, arith}
use Rattle.std.proofs.lemmas.Bool.Decides.{nat_tests}
use Rattle.std.proofs.lemmas.Grind.{common_steps}
use Rattle.std.specs.Prelude.{Option, Some, None, Ok}
use Rattle.iol_mseq.specs.Shape.{startup_shape}
use Rattle.iol_mseq.specs.Texts.{master_text}
use Rattle.iol_mseq.specs.declared.reply.Reply.{Reply}
use Rattle.iol_page.specs.Page.{PagesAskForLayouts}
use Rattle.iol_page.specs.declared.page.Layouts.{Layouts}
use Rattle.iol_segment.specs.TextLaws.{TextLaws}
use Rattle.iol_far.specs.Linked.{TextsAreHeard}
use Rattle.iol_link.specs.Attempts.{Sending, attempt_of, good_reply}
use Rattle.iol_link.specs.declared.handler.Attempt.TheVariants.{Retry, Lost}
use Rattle.iol_mode.specs.Exchanges.{text_out}
use Rattle.iol_mode.specs.Next.{step_layouts}
use Rattle.iol_mode.specs.declared.configuration.Devices.{Devices}
use Rattle.iol_mode.specs.declared.configuration.Devices.TheVariants.{Own, Any}
use Rattle.iol_mode.specs.declared.states.State.{State}
use Rattle.iol_mode.specs.declared.states.State.TheVariants.{Down as AtDown, Startup as AtStartup, Preoperate as AtPreoperate, Operate as AtOperate}
use Rattle.iol_mode.specs.States.{IsDown, NextMode, next_state, mode_after_wake, operate_by, preoperate_turned, sending_after_try, startup_turned}
use Rattle.iol_judge.specs.declared.verdict.Wake.{Wake}
use Rattle.iol_judge.specs.declared.verdict.Wake.TheVariants.{Answered as WakeAnswered}
use Rattle.iol_judge.specs.declared.master.MasterState.{MasterState}
use Rattle.iol_judge.specs.declared.master_output.CarriedOutput.{CarriedOutput}
use Rattle.iol_judge.specs.declared.master_output.Output.{Output}
use Rattle.iol_judge.specs.declared.master_verdict.MasterVerdict.{MasterVerdict}
use Rattle.iol_judge.specs.declared.master_verdict.MasterVerdict.TheVariants.{ByTheRules}
use Rattle.iol_judge.specs.MasterOutputs.{aged_output, allows_octets, woken_output}
use Rattle.iol_judge.specs.MasterPhases.{phase_layout}
use Rattle.iol_judge.specs.Watched.{WatchState, watch_after_exchange, watch_after_wake, master_after_sending, master_after_answer, master_after_reply, master_after_wake, master_without_reply, heard_reply}
use Rattle.iol_app.specs.declared.output.OutputState.{OutputState}
use Rattle.iol_app.specs.declared.session.Purpose.{Purpose}
use Rattle.iol_app.specs.Core.{CoreState}
use Rattle.iol_app.specs.CoreTurns.{after_exchange, after_wake, received_mode}
use Rattle.iol_app.specs.State.{SessionState, checking_in, checks, missed_by, missed_in, new_session, session_after_exchange, session_after_reply, session_after_reply_to, session_at_startup}
use Rattle.iol_app.specs.StationState.{missed_session, missed_state, settled_session}
use Rattle.iol_port.specs.declared.awaited.AwaitedAnswer.TheVariants as awaits
use Rattle.iol_port.specs.Asks.{event_room}
use Rattle.iol_port.specs.CorePort.{PortReceiveGives, WakeGives, awaited_answer, awaited_in}
use Rattle.iol_port.specs.EveryWire.{core_begun}
use Rattle.iol_port.specs.View.{PortParts}
use Rattle.iol_by_the_rules.specs.Line.{Deed, Sends, Receives, Wakes, Calls, DeedGives, watch_after_deed, wake_observed, blames, IsWatchedRun, PortsAreByTheRules}
use Rattle.iol_by_the_rules.proofs.Calls.{CallLeaves, call_leaves, down_of}
use Rattle.iol_by_the_rules.proofs.Accepted.{reply_accepted}
use Rattle.iol_by_the_rules.proofs.StartUps.{startup_answer, preoperate_answer, step_received, pre_received, woken_fair}
use Rattle.iol_by_the_rules.proofs.Ties.{OperateOut, OperateRests, valid_out}
use Rattle.iol_by_the_rules.proofs.Made.{send_in, sent_state}
use Rattle.iol_by_the_rules.proofs.Heard.{reply_rests}
use Rattle.iol_by_the_rules.proofs.Missed.{may_carry, missed_fair}
use Rattle.iol_by_the_rules.proofs.Standing.{DownFair, Judges, OperateFair, StandsIn, StartSession, call_stands, left_down}
use Rattle.iol_by_the_rules.proofs.Rising.{heard_output, preoperate_rises, risen, startup_rises}

record LineFair (p : PortParts) (w : WatchState) : Type 0 where
  places : length w.preset ≡ 10
  unblamed : blames w.verdict ≡ false
  judges : Judges p.core.state w.verdict
  stands : StandsIn p.sent p.core.state p.core.session w.master

-- the watch that is told an exchange in which it has nothing against the message
module _ (w : WatchState) (text : List ℕ) (received : Option (List ℕ)) (next : MasterState)
    (judged : w.verdict ≡ ByTheRules) (sent : master_after_sending w.master text ≡ Ok next)
  where
    accepted_verdict : (watch_after_exchange w text received).verdict ≡ ByTheRules
    accepted_verdict = grind (arith, judged, sent)

    accepted_master : (watch_after_exchange w text received).master
        ≡ master_after_answer next text received
    accepted_master = grind (arith, judged, sent)

    accepted_places : (watch_after_exchange w text received).preset ≡ w.preset
    accepted_places = grind (arith, judged, sent)

-- a wake-up request is never blamed
woken_watch : (verdict : MasterVerdict) (w : WatchState) (wake : Wake) → w.verdict ≡ verdict
    → blames w.verdict ≡ false
    → watch_after_wake w wake
    ≡ record w { master = master_after_wake w.master w.preset wake; verdict = ByTheRules }
woken_watch verdict w wake is unblamed = grind arith

judges_any : (state : State) (verdict : MasterVerdict) → verdict ≡ ByTheRules
    → Judges state verdict
judges_any (AtDown d) verdict judged = tt
judges_any (AtStartup d) verdict judged = judged
judges_any (AtPreoperate d) verdict judged = judged
judges_any (AtOperate d) verdict judged = judged

judges_down : (state : State) (verdict : MasterVerdict) → IsDown state → Judges state verdict
judges_down (AtDown d) verdict down = tt
judges_down (AtStartup d) verdict down = absurd down
judges_down (AtPreoperate d) verdict down = absurd down
judges_down (AtOperate d) verdict down = absurd down

stands_down : (sent : Bool) (state : State) (s : SessionState) (m : MasterState) → IsDown state
    → DownFair s m → StandsIn sent state s m
stands_down sent (AtDown d) s m down fair = fair
stands_down sent (AtStartup d) s m down fair = absurd down
stands_down sent (AtPreoperate d) s m down fair = absurd down
stands_down sent (AtOperate d) s m down fair = absurd down

-- What waits for an answer

sent_reply : (sent : Bool) (state : State)
    → cond sent (awaited_in state) awaits.Nothing ≡ awaits.Reply
    → (sent ≡ true) × (awaited_in state ≡ awaits.Reply)
sent_reply true state waits = (refl, waits)
sent_reply false state waits = grind (arith, waits)

up_judges : (state : State) (verdict : MasterVerdict) → awaited_in state ≡ awaits.Reply
    → Judges state verdict → verdict ≡ ByTheRules
up_judges (AtDown d) verdict waits judges = grind (arith, waits)
up_judges (AtStartup d) verdict waits judges = judges
up_judges (AtPreoperate d) verdict waits judges = judges
up_judges (AtOperate d) verdict waits judges = judges

wake_down : (sent : Bool) (state : State) (s : SessionState) (m : MasterState)
    → cond sent (awaited_in state) awaits.Nothing ≡ awaits.Wake → StandsIn sent state s m
    → DownFair s m
wake_down sent (AtDown d) s m waits fair = fair
wake_down sent (AtStartup d) s m waits fair = grind (arith, waits)
wake_down sent (AtPreoperate d) s m waits fair = grind (arith, waits)
wake_down sent (AtOperate d) s m waits fair = grind (arith, waits)

-- What came to a message of OPERATE

operate_after : (layouts : Layouts) (s : SessionState) (reply : Reply) (m : MasterState)
    (exchange : Purpose) → s.exchange ≡ Some exchange
    → OperateRests layouts (session_after_exchange exchange reply s) m
    → OperateRests layouts (session_after_reply reply s) m
operate_after layouts s reply m exchange busy rests =
    subst (λ (e : Option Purpose). OperateRests layouts (session_after_reply_to e reply s) m)
    (sym busy) rests

-- what goes out again carries the same output
carried_missed : (s : SessionState) → (missed_in s).output ≡ s.output
carried_missed s = by (checks s)
  where
    by : (checking : Bool) → (if checking then checking_in s else record s {
      current = missed_by s.configuration.devices s.exchange s.current;
    }).output ≡ s.output
    by true = refl
    by false = refl

module _ (heard : TextsAreHeard) (layouts : Layouts) (sent : Sending) (exchange : Purpose)
    (s : SessionState) (m : MasterState) (out : OperateOut layouts sent exchange s m)
  where
    abbrev text : List ℕ
    text = master_text layouts.run sent.message

    -- by how often it was sent in vain before
    lost_by : (lost : Bool) → (sent.tries == 2) ≡ lost
        → let outcome : NextMode = operate_by
        (record { message = sent.message; tries = if lost then 0 else sent.tries + 1 }) layouts
        (if lost then Lost else Retry) in
        StandsIn false (missed_state (next_state outcome) (settled_session outcome s))
        (missed_session (next_state outcome) (settled_session outcome s))
        (master_without_reply m text)
    lost_by true is = record {
      current = refl;
      exchange = refl;
      carry = ap (λ (o : Output). allows_octets (aged_output o.carried) s.output.carried.items)
          (heard_output m text sent.message None)
          ∙ may_carry (valid_out exchange s.output.acknowledged) m.output s.output out.output;
    }
    lost_by false is =
        let few : sent.tries < 2 = grind (arith, nat_tests, is, out.few) in
        let missed = missed_fair layouts sent exchange s m out few heard in record {
          exchange = missed.0;
          next = missed.1;
          accepted = missed.2;
          stands = missed.3;
          carry = λ idle. ap (λ (t : OutputState). allows_octets
              (aged_output (master_without_reply m text).output.carried) t.carried.items)
              (carried_missed s)
              ∙ ap (λ (o : Output). allows_octets (aged_output o.carried) s.output.carried.items)
              (heard_output m text sent.message None)
              ∙ may_carry (valid_out exchange s.output.acknowledged) m.output s.output out.output;
        }

    operate_received : (r : Option Reply)
        → let outcome : NextMode = operate_by (sending_after_try sent r) layouts
        (attempt_of sent.tries r) in
        StandsIn false (missed_state (next_state outcome) (settled_session outcome s))
        (missed_session (next_state outcome) (settled_session outcome s))
        (heard_reply m text sent.message r)
    operate_received (Some reply) = (
      refl,
      operate_after layouts s reply
          (master_after_reply m sent.message reply) exchange out.busy
          (reply_rests layouts sent exchange s m reply out),
    )
    operate_received None = lost_by (sent.tries == 2) refl

module _ (heard : TextsAreHeard) (asks : PagesAskForLayouts) where
  -- what stands once the message that is out was told with what came
  abbrev StandsAfter : CoreState → MasterState → Option (List ℕ) → Type 0
  StandsAfter c m received = (next : MasterState)
      × (master_after_sending m (text_out c.state) ≡ Ok next)
      × StandsIn false (after_exchange (received_mode c received) c.session).state
      (after_exchange (received_mode c received) c.session).session
      (master_after_answer next (text_out c.state) received)

  received_operate : (out : Option Sending) (layouts : Layouts) (s : SessionState) (m : MasterState)
      (received : Option (List ℕ)) → OperateFair true out layouts s m
      → StandsAfter (record {
        state = AtOperate (record { out = out; layouts = layouts });
        session = s;
      }) m received
  received_operate None layouts s m received fair = grind (arith, fair.0)
  received_operate (Some out) layouts s m received fair = (
    fair.next,
    fair.accepted,
    subst (StandsIn false (after_exchange outcome s).state (after_exchange outcome s).session)
        (sym (reply_accepted heard layouts.run fair.next (ap phase_layout fair.stands.phase)
        out.message fair.stands.parts received))
        (operate_received heard layouts out fair.exchange s fair.next fair.stands
        (good_reply layouts.run out.message received)),
  )
    where
      outcome : NextMode
      outcome = operate_by (sending_after_try out (good_reply layouts.run out.message received))
          layouts (attempt_of out.tries (good_reply layouts.run out.message received))

  received_in : (state : State) (s : SessionState) (m : MasterState) (received : Option (List ℕ))
      → awaited_in state ≡ awaits.Reply → StandsIn true state s m
      → StandsAfter (record { state = state; session = s }) m received
  received_in (AtDown d) s m received waits fair = grind (arith, waits)
  received_in (AtStartup d) s m received waits fair =
      let o : Output = fair.0 in
      let accepted = fair.1.2 in
      let r : Option Reply = good_reply startup_shape d.sent.message received in
      let text : List ℕ = master_text startup_shape d.sent.message in
      let after : MasterState = heard_reply fair.1.0 text d.sent.message r in
      let outcome : NextMode = startup_turned s.configuration d r in (
        fair.1.0,
        fair.1.1,
        subst (StandsIn false (after_exchange outcome s).state (after_exchange outcome s).session)
            (sym (startup_answer heard asks o s.configuration d fair.1.0 received accepted))
            (risen o (step_layouts d.step) s m after fair.2
            (heard_output fair.1.0 text d.sent.message r ∙ accepted.still.0) outcome
            (startup_rises s.configuration d fair.1.0 text r)
            (step_received heard asks o s.configuration r d fair.1.0 accepted)),
      )
  received_in (AtPreoperate d) s m received waits fair =
      let o : Output = fair.0 in
      let accepted = fair.1.2 in
      let r : Option Reply = good_reply d.pre d.sent.message received in
      let text : List ℕ = master_text d.pre d.sent.message in
      let after : MasterState = heard_reply fair.1.0 text d.sent.message r in
      let outcome : NextMode = preoperate_turned d r in (
        fair.1.0,
        fair.1.1,
        subst (StandsIn false (after_exchange outcome s).state (after_exchange outcome s).session)
            (sym (preoperate_answer heard asks o s.configuration d fair.1.0 received accepted))
            (risen o (Some d.layouts) s m after fair.2
            (heard_output fair.1.0 text d.sent.message r ∙ accepted.still.0) outcome
            (preoperate_rises d fair.1.0 text r)
            (pre_received heard asks o s.configuration r d fair.1.0 accepted)),
      )
  received_in (AtOperate d) s m received waits fair =
      received_operate d.out d.layouts s m received fair

  receive_fair : (p next : PortParts) (w : WatchState) (received : Option (List ℕ))
      → awaited_answer p ≡ awaits.Reply → PortReceiveGives p received next → LineFair p w
      → LineFair next (watch_after_exchange w (text_out p.core.state) received)
  receive_fair p next w received waits gives fair =
      let text : List ℕ = text_out p.core.state in
      let v : WatchState = watch_after_exchange w text received in
      let sent = sent_reply p.sent p.core.state waits in
      let judged : w.verdict ≡ ByTheRules = up_judges p.core.state w.verdict sent.1 fair.judges in
      let after : StandsAfter p.core w.master received =
      received_in p.core.state p.core.session w.master received sent.1
      (subst (λ b. StandsIn b p.core.state p.core.session w.master) sent.0 fair.stands) in
      let verdict : v.verdict ≡ ByTheRules =
      accepted_verdict w text received after.0 judged after.1 in
      record {
        places = ap length (accepted_places w text received after.0 judged after.1) ∙ fair.places;
        unblamed = ap blames verdict;
        judges = judges_any next.core.state v.verdict verdict;
        stands = subst (λ b. StandsIn b next.core.state next.core.session v.master)
            (sym gives.sent)
            (subst (λ (c : CoreState). StandsIn false c.state c.session v.master)
            (sym gives.core)
            (subst (StandsIn false (after_exchange (received_mode p.core received)
            p.core.session).state
            (after_exchange (received_mode p.core received) p.core.session).session)
            (sym (accepted_master w text received after.0 judged after.1)) after.2));
      }

  -- A wake-up request

  aged_twice : (o : Output) → aged_output (aged_output o.carried) ≡ aged_output o.carried
  aged_twice o = grind arith

  woken_session : (s : SessionState) (m : MasterState) (observed : List (Option ℕ)) → DownFair s m
      → StartSession (woken_output m.output) None (session_at_startup s)
      (master_after_wake m observed WakeAnswered)
  woken_session s m observed fair = record {
    current = fair.current;
    exchange = fair.exchange;
    unacknowledged = refl;
    reading = refl;
    page = tt;
    aged = aged_twice m.output;
    invalid = refl;
    carry = fair.carry;
    watched = refl;
  }

  woken_by : (devices : Devices) (s : SessionState) (m : MasterState) (observed : List (Option ℕ))
      → length observed ≡ 10 → DownFair s m
      → StandsIn false (next_state (mode_after_wake devices true))
      (settled_session (mode_after_wake devices true) (session_at_startup s))
      (master_after_wake m observed WakeAnswered)
  woken_by Own s m observed places fair = (
    woken_output m.output,
    woken_fair heard asks (woken_output m.output) s.configuration Own m observed places refl,
    woken_session s m observed fair,
  )
  woken_by Any s m observed places fair = (
    woken_output m.output,
    woken_fair heard asks (woken_output m.output) s.configuration Any m observed places refl,
    woken_session s m observed fair,
  )

  woken_stands : (answered : Bool) (s : SessionState) (m : MasterState) (observed : List (Option ℕ))
      → length observed ≡ 10 → DownFair s m
      → StandsIn false (after_wake answered s).state (after_wake answered s).session
      (master_after_wake m observed (wake_observed answered))
  woken_stands false s m observed places fair = record {
    current = refl;
    exchange = refl;
    carry = ap (λ (c : CarriedOutput). allows_octets c s.output.carried.items)
        (aged_twice m.output) ∙ fair.carry;
  }
  woken_stands true s m observed places fair =
      woken_by s.configuration.devices s m observed places fair

  woken : (p next : PortParts) (w : WatchState) (answered : Bool)
      → awaited_answer p ≡ awaits.Wake → WakeGives p answered next → LineFair p w
      → LineFair next (watch_after_wake w (wake_observed answered))
  woken p next w answered waits gives fair =
      let v : WatchState = record w {
        master = master_after_wake w.master w.preset (wake_observed answered);
        verdict = ByTheRules;
      } in
      let down : DownFair p.core.session w.master =
      wake_down p.sent p.core.state p.core.session w.master waits fair.stands in
      subst (LineFair next)
      (sym (woken_watch w.verdict w (wake_observed answered) refl fair.unblamed)) (record {
        places = fair.places;
        unblamed = refl;
        judges = judges_any next.core.state ByTheRules refl;
        stands = subst (λ b. StandsIn b next.core.state next.core.session v.master)
            (sym gives.sent)
            (subst (λ (c : CoreState). StandsIn false c.state c.session v.master)
            (sym gives.core)
            (woken_stands answered p.core.session w.master w.preset fair.places down));
      })

  -- A call

  called : (p next : PortParts) (w : WatchState) → CallLeaves p next → LineFair p w
      → LineFair next w
  called p next w (inl up) fair = record {
    places = fair.places;
    unblamed = fair.unblamed;
    judges = subst (λ (x : State). Judges x w.verdict) (sym up.state) fair.judges;
    stands = subst (λ b. StandsIn b next.core.state next.core.session w.master) (sym up.sent)
        (subst (λ (x : State). StandsIn p.sent x next.core.session w.master) (sym up.state)
        (call_stands p.sent p.core.state p.core.session next.core.session w.master up.session
        fair.stands));
  }
  called p next w (inr down) fair = record {
    places = fair.places;
    unblamed = fair.unblamed;
    judges = judges_down next.core.state w.verdict down.down;
    stands = stands_down next.sent next.core.state next.core.session w.master down.down
        (subst (λ (s : SessionState). DownFair s w.master) (sym down.session)
        (left_down p.sent p.core.state p.core.session w.master down.idle fair.stands));
  }

  -- Each deed, and all of them

  module _ (laws : (size : ℕ) → 1 ≤ size → TextLaws size) where
    send_fair : (sent : Bool) (p next : PortParts) (w : WatchState) → p.sent ≡ sent
        → DeedGives p Sends next → LineFair p w → LineFair next w
    send_fair true p next w is sends fair =
        subst (λ (q : PortParts). LineFair q w) (sym (sends.0 is)) fair
    send_fair false p next w is sends fair = record {
      places = fair.places;
      unblamed = fair.unblamed;
      judges = sent_state p.core.state (event_room p.queued) (core_begun p) next.core refl
          (sends.1.core is) w.verdict fair.judges;
      stands = subst (λ b. StandsIn b next.core.state next.core.session w.master)
          (sym sends.1.sent)
          (send_in heard laws p.core.state p next.core w.master refl is (sends.2 is)
          (sends.1.core is)
          (subst (λ b. StandsIn b p.core.state p.core.session w.master) is fair.stands));
    }

    deed_fair : (it : Deed) (p next : PortParts) (w : WatchState) → DeedGives p it next
        → LineFair p w → LineFair next (watch_after_deed w p it)
    deed_fair Sends p next w gives fair = send_fair p.sent p next w refl gives fair
    deed_fair (Receives received) p next w gives fair =
        receive_fair p next w received gives.0 gives.1 fair
    deed_fair (Wakes answered) p next w gives fair =
        woken p next w answered gives.0 gives.1 fair
    deed_fair (Calls call reply) p next w gives fair =
        called p next w (call_leaves p next call reply gives.0 gives.1) fair

    all_fair : (all : List Deed) (p q : PortParts) (w v : WatchState)
        → IsWatchedRun p w all q v → LineFair p w → blames v.verdict ≡ false
    all_fair [] p q w v run fair =
        subst (λ (x : WatchState). blames x.verdict ≡ false) (sym run.1) fair.unblamed
    all_fair (it ∷ more) p q w v run fair =
        all_fair more run.0 q (watch_after_deed w p it) v run.2
        (deed_fair it p run.0 w run.1 fair)

    -- a port as it is opened
    new_carries : (o : Output) → allows_octets (aged_output o.carried) [] ≡ true
    new_carries o = grind (arith, common_steps)

    new_down : (devices : Devices) (busy : ℕ) (m : MasterState)
        → DownFair (new_session devices busy) m
    new_down devices busy m =
        record { current = refl; exchange = refl; carry = new_carries m.output }

    pub ports_are_fair : PortsAreByTheRules
    ports_are_fair devices limits p q w v all new places unblamed run =
        let down : IsDown p.core.state = down_of p.core.state new.mode in
        all_fair all p q w v run (record {
          places = places;
          unblamed = unblamed;
          judges = judges_down p.core.state w.verdict down;
          stands = stands_down p.sent p.core.state p.core.session w.master down
              (subst (λ (s : SessionState). DownFair s w.master) (sym new.session_is)
              (new_down devices limits.busy w.master));
        })
