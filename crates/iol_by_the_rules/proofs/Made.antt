-- What a sending leaves of a port and its watch.
-- For the clauses of `laws::ports_are_by_the_rules`.
use Rattle.std.proofs.Common.{◌≡◌, ℕ, ◌≤◌, Bool, true, false, ◌&&◌, refl, ap, sym, subst, ◌∙◌, arith}
use Rattle.std.proofs.lemmas.Grind.{common_steps}
use Rattle.std.specs.Prelude.{Option, Some, None, IfSome, IsTrue, unwrap_or}
use Rattle.arrayvec.specs.ArrayVec.{ArrayVec}
use Rattle.iol_octets.specs.declared.flow_control.Flow.{Flow}
use Rattle.iol_page.specs.declared.page.Layouts.{Layouts}
use Rattle.iol_isdu.specs.declared.values.Request.{Request}
use Rattle.iol_isdu.specs.Texts.{IsRequest}
use Rattle.iol_segment.specs.TextLaws.{TextLaws}
use Rattle.iol_far.specs.Linked.{TextsAreHeard}
use Rattle.iol_link.specs.Attempts.{Sending}
use Rattle.iol_mode.specs.declared.states.State.{State}
use Rattle.iol_mode.specs.declared.states.State.TheVariants.{Down as AtDown, Startup as AtStartup, Preoperate as AtPreoperate, Operate as AtOperate}
use Rattle.iol_judge.specs.declared.master.MasterState.{MasterState}
use Rattle.iol_judge.specs.declared.master_transfer.MasterTransfer.{MasterTransfer}
use Rattle.iol_judge.specs.declared.master_verdict.MasterVerdict.{MasterVerdict}
use Rattle.iol_app.specs.declared.event_work.EventRoom.{EventRoom}
use Rattle.iol_app.specs.declared.request.Current.{Current}
use Rattle.iol_app.specs.declared.request.RequestProgress.{RequestProgress}
use Rattle.iol_app.specs.declared.session.Purpose.{Purpose}
use Rattle.iol_app.specs.declared.session.Purpose.TheVariants as for
use Rattle.iol_app.specs.Asking.{begin_where, beginning_in, takes_requests}
use Rattle.iol_app.specs.Core.{CoreState}
use Rattle.iol_app.specs.Due.{due_of, is_idle, is_ready}
use Rattle.iol_app.specs.Pieces.{NewOut, OutAfter, SentBy}
use Rattle.iol_app.specs.Requests.{is_doubting, new_current, segment_progress}
use Rattle.iol_app.specs.State.{SessionState, od_size, session_after_begin}
use Rattle.iol_app.specs.StationState.{operates}
use Rattle.iol_port.specs.Asks.{begun_next, event_room}
use Rattle.iol_port.specs.EveryWire.{core_begun, takes_next}
use Rattle.iol_port.specs.View.{PortParts}
use Rattle.iol_by_the_rules.proofs.StartUps.{od_some}
use Rattle.iol_by_the_rules.proofs.Segments.{is_free}
use Rattle.iol_by_the_rules.proofs.Requests.{IsDueNext, ProgressGoes, RequestStands, begun_goes}
use Rattle.iol_by_the_rules.proofs.Ties.{OperateRests, OutputStands, PageStands, watched_reading}
use Rattle.iol_by_the_rules.proofs.Outgoing.{NewFair, TransferDue, due_transfer, new_fair}
use Rattle.iol_by_the_rules.proofs.Standing.{Judges, OperateFair, OutFair, StandsIn}

-- A message is made

begin_none : (next : Option Request) (s : SessionState) → begin_where false next s ≡ s
begin_none None s = refl
begin_none (Some request) s = refl

-- the request that is begun is due, where nothing was
begun_due : (s : SessionState) (room : EventRoom) (request : Request)
    → is_idle (due_of s room) ≡ true → due_of (session_after_begin request s) room ≡ for.Request
begun_due s room request idle = grind (arith, common_steps)

idle_due : (exchange : Purpose) → is_idle exchange ≡ true → exchange ≡ for.Idle
idle_due exchange idle = grind arith

due_next : (piece : Option (Flow × ArrayVec ℕ)) → IsDueNext (segment_progress piece)
due_next None = tt
due_next (Some piece) = tt

not_doubted : (piece : Option (Flow × ArrayVec ℕ))
    → is_doubting (segment_progress piece) ≡ false
not_doubted None = refl
not_doubted (Some piece) = refl

not_doubting : (current : Option Current) (transfer : MasterTransfer)
    → RequestStands current transfer → IfSome current (λ c. is_doubting c.progress ≡ false)
not_doubting None transfer stands = tt
not_doubting (Some current) transfer stands = by current.progress stands.0.at
  where
    by : (progress : RequestProgress)
        → ProgressGoes current.cutter current.abort progress transfer
        → is_doubting progress ≡ false
    by progress at = grind (arith, common_steps, at)

module _ (heard : TextsAreHeard) (laws : (size : ℕ) → 1 ≤ size → TextLaws size) where
  module _ (layouts : Layouts) (s : SessionState) (room : EventRoom) (m : MasterState)
      (rests : OperateRests layouts s m)
    where
      -- what stands of a session in which a request may be begun
      abbrev IsBeginning : SessionState → Type 0
      IsBeginning t = PageStands layouts t × OutputStands t.output.acknowledged m.output t.output
          × (m.events.flag ≡ t.events.flag) × (m.events.reading ≡ watched_reading t.events.reading)
          × TransferDue (due_of t room) t.current m.transfer
          × IfSome t.current (λ c. is_doubting c.progress ≡ false)

      as_it_is : IsBeginning s
      as_it_is = (
        rests.page,
        rests.output,
        rests.flag,
        rests.reading,
        due_transfer s room m.transfer rests.request,
        not_doubting s.current m.transfer rests.request,
      )

      size_some : 1 ≤ od_size s.layout
      size_some = rw rests.page.layout (od_some layouts.run rests.page.are.run)

      begun : (request : Request) → IsRequest request → is_ready s room ≡ true
          → takes_requests s ≡ true → IsBeginning (session_after_begin request s)
      begun request fits ready takes =
          let idle : is_idle (due_of s room) ≡ true = grind (arith, common_steps, ready) in
          let none : (is_free m.transfer ≡ true) × (s.current ≡ None) =
          subst (λ (x : Purpose). TransferDue x s.current m.transfer)
          (idle_due (due_of s room) idle) (due_transfer s room m.transfer rests.request) in
          let knows : layouts.isdu ≡ true =
          ap (λ (i : Option Bool). unwrap_or i true) (sym rests.page.isdu) ∙ takes in (
            record {
              are = rests.page.are;
              layout = rests.page.layout;
              isdu = rests.page.isdu;
              knows = knows;
            },
            rests.output,
            rests.flag,
            rests.reading,
            subst (λ (x : Purpose). TransferDue x
                (Some (new_current (od_size s.layout) request)) m.transfer)
                (sym (begun_due s room request idle)) (
                  begun_goes (od_size s.layout) request size_some fits
                      (laws (od_size s.layout) size_some) m.transfer none.0,
                  due_next _,
                ),
            not_doubted _,
          )

      beginning : (next : Option Request) (ready takes : Bool) → is_ready s room ≡ ready
          → takes_requests s ≡ takes → (IsTrue ready → IfSome next IsRequest)
          → IsBeginning (begin_where (ready && takes) next s)
      beginning None ready takes is has fits = as_it_is
      beginning (Some request) true true is has fits = begun request (fits refl) is has
      beginning (Some request) true false is has fits = as_it_is
      beginning (Some request) false takes is has fits = as_it_is

      -- a new message
      new_out : (t : SessionState) (new : CoreState) → IsBeginning t → NewOut layouts t room new
          → StandsIn true new.state new.session m
      new_out t new begins out =
          let fair : NewFair heard laws layouts t room m out.message =
          new_fair heard laws layouts t room m out.message begins.0 rests.phase rests.out
          begins.1 begins.2 begins.3 begins.4 begins.5 out.due out.parts
          out.carries in
          subst (λ (c : CoreState). StandsIn true c.state c.session m) (sym out.is) (record {
            exchange = due_of t room;
            next = fair.0;
            accepted = fair.1;
            stands = fair.2;
            carry = λ sent. grind (arith, sent);
          })

      send_rests : (p : PortParts) (new : CoreState) → p.sent ≡ false
          → p.core.state ≡ AtOperate (record { out = None; layouts = layouts })
          → p.core.session ≡ s → event_room p.queued ≡ room
          → (IsTrue (takes_next p) → IfSome (begun_next p) IsRequest)
          → NewOut layouts (core_begun p).session room new → StandsIn true new.state new.session m
      send_rests p new idle state session queued begins out =
          let same : (core_begun p).session
          ≡ begin_where (is_ready s room && takes_requests s) (begun_next p) s =
          ap (λ (r : EventRoom). beginning_in (begun_next p) p.core.state p.core.session r) queued
          ∙ ap (λ (x : State). beginning_in (begun_next p) x p.core.session room) state
          ∙ ap (λ (x : SessionState). begin_where (is_ready x room && takes_requests x)
          (begun_next p) x) session in
          let taken : IsTrue (is_ready s room) → IsTrue (takes_next p) = λ ready.
          ap (λ (r : EventRoom). operates p.core.state && is_ready p.core.session r) queued
          ∙ ap (λ (x : State). operates x && is_ready p.core.session room) state
          ∙ ap (λ (x : SessionState). is_ready x room) session ∙ ready in
          new_out (core_begun p).session new
          (subst IsBeginning (sym same) (beginning (begun_next p) (is_ready s room)
          (takes_requests s) refl refl (λ ready. begins (taken ready))))
          out

  -- The message that is out goes out again

  out_session : (s : SessionState) (exchange : Purpose) (next : Option Request)
      (room : EventRoom) → s.exchange ≡ Some exchange
      → begin_where (true && is_ready s room && takes_requests s) next s ≡ s
  out_session s exchange next room busy =
      let ready : is_ready s room ≡ false = grind (arith, common_steps, busy) in
      ap (λ b. begin_where (b && takes_requests s) next s) ready ∙ begin_none next s

  -- by what was out before

  send_operate : (out : Option Sending) (layouts : Layouts) (p : PortParts) (new : CoreState)
      (m : MasterState) → p.sent ≡ false
      → p.core.state ≡ AtOperate (record { out = out; layouts = layouts })
      → (IsTrue (takes_next p) → IfSome (begun_next p) IsRequest)
      → OutAfter out layouts (core_begun p).session (event_room p.queued) (core_begun p) new
      → OperateFair false out layouts p.core.session m → StandsIn true new.state new.session m
  send_operate None layouts p new m idle state begins sends fair =
      send_rests layouts p.core.session (event_room p.queued) m fair.1 p new idle state refl refl
      begins sends
  send_operate (Some out) layouts p new m idle state begins sends fair =
      let same : (core_begun p).session ≡ p.core.session =
      ap (λ (x : State). beginning_in (begun_next p) x p.core.session (event_room p.queued)) state
      ∙ out_session p.core.session fair.exchange (begun_next p) (event_room p.queued)
      fair.stands.busy in
      let after : OutFair true layouts out p.core.session m = record {
        exchange = fair.exchange;
        next = fair.next;
        accepted = fair.accepted;
        stands = fair.stands;
        carry = λ sent. grind (arith, sent);
      } in
      subst (λ (c : CoreState). StandsIn true c.state c.session m) (sym sends)
      (subst (λ (x : SessionState). StandsIn true p.core.state x m) (sym same)
      (subst (λ (x : State). StandsIn true x p.core.session m) (sym state) after))

  send_low : (p : PortParts) (new : CoreState) (m : MasterState) → new ≡ core_begun p
      → operates p.core.state ≡ false → StandsIn true p.core.state p.core.session m
      → StandsIn true new.state new.session m
  send_low p new m sends low fair =
      let same : (core_begun p).session ≡ p.core.session =
      ap (λ b. begin_where (b && is_ready p.core.session (event_room p.queued)
      && takes_requests p.core.session) (begun_next p) p.core.session) low
      ∙ begin_none (begun_next p) p.core.session in
      subst (λ (c : CoreState). StandsIn true c.state c.session m) (sym sends)
      (subst (λ (x : SessionState). StandsIn true p.core.state x m) (sym same) fair)

  pub send_in : (state : State) (p : PortParts) (new : CoreState) (m : MasterState)
      → p.core.state ≡ state → p.sent ≡ false
      → (IsTrue (takes_next p) → IfSome (begun_next p) IsRequest)
      → SentBy state (event_room p.queued) (core_begun p) new
      → StandsIn false state p.core.session m → StandsIn true new.state new.session m
  send_in (AtDown d) p new m is idle begins sends fair = send_low p new m sends
      (ap operates is) (subst (λ (x : State). StandsIn true x p.core.session m) (sym is) fair)
  send_in (AtStartup d) p new m is idle begins sends fair = send_low p new m sends
      (ap operates is) (subst (λ (x : State). StandsIn true x p.core.session m) (sym is) fair)
  send_in (AtPreoperate d) p new m is idle begins sends fair = send_low p new m sends
      (ap operates is) (subst (λ (x : State). StandsIn true x p.core.session m) (sym is) fair)
  send_in (AtOperate d) p new m is idle begins sends fair =
      send_operate d.out d.layouts p new m idle is begins sends fair

-- the mode stays what it was
pub sent_state : (state : State) (room : EventRoom) (old new : CoreState) → old.state ≡ state
    → SentBy state room old new → (verdict : MasterVerdict) → Judges state verdict
    → Judges new.state verdict
sent_state (AtDown d) room old new is sends verdict judges =
    subst (λ (c : CoreState). Judges c.state verdict) (sym sends)
    (subst (λ (x : State). Judges x verdict) (sym is) judges)
sent_state (AtStartup d) room old new is sends verdict judges =
    subst (λ (c : CoreState). Judges c.state verdict) (sym sends)
    (subst (λ (x : State). Judges x verdict) (sym is) judges)
sent_state (AtPreoperate d) room old new is sends verdict judges =
    subst (λ (c : CoreState). Judges c.state verdict) (sym sends)
    (subst (λ (x : State). Judges x verdict) (sym is) judges)
sent_state (AtOperate d) room old new is sends verdict judges = by d.out sends
  where
    by : (out : Option Sending) → OutAfter out d.layouts old.session room old new
        → Judges new.state verdict
    by None after = subst (λ (c : CoreState). Judges c.state verdict) (sym after.is) judges
    by (Some out) after = subst (λ (c : CoreState). Judges c.state verdict) (sym after)
        (subst (λ (x : State). Judges x verdict) (sym is) judges)
