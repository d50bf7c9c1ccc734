-- A session that has nothing to do but its request, and one turn of it over a clean wire.
-- For the clauses of `Port::run` and `PortCore::turn`.
use Rattle.std.proofs.Common.{append-nil, ◌≡◌, inl, inr, ℕ, Bool, true, false, ◌&&◌, List, [], ◌∷◌, ◌++◌, refl, sym, ap, subst, ◌∙◌, Option, Some, None, arith}
use Rattle.std.proofs.lemmas.Grind.{common_steps}
use Rattle.std.specs.Prelude.{IsTrue, if◌then◌else◌, MatchBool}
use Rattle.iol_octets.specs.declared.control.Channel.{Channel}
use Rattle.iol_octets.specs.declared.control.Channel.TheVariants.{Isdu}
use Rattle.iol_mseq.specs.Master.{HasMasterParts}
use Rattle.iol_mseq.specs.Texts.{master_text}
use Rattle.iol_mseq.specs.declared.master.MasterMsg.{MasterMsg}
use Rattle.iol_mseq.specs.declared.reply.Reply.{Reply}
use Rattle.iol_page.specs.declared.page.Layouts.{Layouts}
use Rattle.iol_isdu.specs.declared.values.Request.{Request}
use Rattle.iol_isdu.specs.declared.values.Answer.{Answer}
use Rattle.iol_far.specs.declared.carried.Carried.{Carried}
use Rattle.iol_far.specs.Octets.{octets_in}
use Rattle.iol_far.specs.declared.kind.Kind.{Kind}
use Rattle.iol_far.specs.Isdu.{IsduState, Handed, Answered, handed_request, fits}
use Rattle.iol_far.specs.Far.{Far}
use Rattle.iol_far.specs.Local.{Carry, local, locals, carried_by, has_room, IsWorkedOff}
use Rattle.iol_far.specs.Level.{FarLink, Quiet, Stands, IsLevelBefore, link_of}
use Rattle.iol_far.specs.Laws.{IsSized, MuchStays}
use Rattle.iol_mode.specs.Stands.{operate_link, IsOperating, IsAccepted}
use Rattle.iol_mode.specs.Kinds.{SeesPulses}
use Rattle.iol_mode.specs.declared.configuration.Devices.{Devices}
use Rattle.iol_app.specs.declared.report.Said.{Said}
use Rattle.iol_app.specs.declared.event_work.EventRoom.{EventRoom}
use Rattle.iol_app.specs.declared.event_work.EventRoom.TheVariants.{Left}
use Rattle.iol_app.specs.declared.request.Current.{Current}
use Rattle.iol_app.specs.declared.request.RequestProgress.{RequestProgress}
use Rattle.iol_app.specs.declared.session.Purpose.{Purpose}
use Rattle.iol_app.specs.declared.session.Purpose.TheVariants.{Request as NextMessage, Idle}
use Rattle.iol_app.specs.Requests.{current_after, IsReport}
use Rattle.iol_app.specs.Due.{due_of, is_ready, may_follow}
use Rattle.iol_app.specs.Messages.{Head, head_of, progress_head, head_for, progress_data, request_head, request_data}
use Rattle.iol_app.specs.State.{SessionState, session_sending, session_after_exchange, IsMessageFor, IsExchangeReport}
use Rattle.iol_app.specs.Core.{CoreState}
use Rattle.iol_app.specs.CoreTurns.{core_out}
use Rattle.iol_app.specs.Pieces.{NewOut, IsPassed, IsWholeTurn}
use Rattle.iol_app.specs.CallSteps.{LinkStands}
use Rattle.iol_app.specs.declared.wire_result.WireResult.{WireResult}
use Rattle.iol_mode.specs.Stands.{StateStands}
use Rattle.iol_mode.specs.States.{IsDown}
use Rattle.iol_mode.specs.declared.states.State.{State}
use Rattle.iol_mode.specs.Messages.{new_sending}
use Rattle.iol_link.specs.Honest.{Passage, far_after, HonestExchange}
use Rattle.iol_link.specs.WireFacts.{WireFacts, Passes}
use Rattle.iol_link.specs.Attempts.{good_reply}
use Rattle.arrayvec.specs.ArrayVec.{ArrayVec}
use Rattle.iol_port.specs.Clean.{CleanLaws, ExchangesCleanly, IsCalm, Stood, resting_in}
use Rattle.iol_port.proofs.CleanHearing.{HeardWell, heard_well}

-- What is due

request_due : (s : SessionState) (room : EventRoom) (c : Current) → IsCalm s → s.current ≡ Some c
    → c.abort ≡ None → due_of s room ≡ NextMessage
request_due s room c calm is abort = grind (arith, common_steps)

pub idle_due : (s : SessionState) (room : EventRoom) → IsCalm s → s.current ≡ None
    → due_of s room ≡ Idle
idle_due s room calm free = grind (arith, common_steps)

-- a session that would send IDLE 1 is calm, without a request
pub ready_calm : (s : SessionState) → is_ready s Left ≡ true → IsCalm s
ready_calm s e = grind (arith, common_steps)

-- whether there is room for events or not
pub ready_any : (s : SessionState) (room : EventRoom) → is_ready s Left ≡ true
    → is_ready s room ≡ true
ready_any s room e = grind (arith, common_steps)

-- and a calm session without a request would send it
pub calm_ready : (s : SessionState) (room : EventRoom) → IsCalm s → s.current ≡ None
    → may_follow s.configuration.devices s.idle ≡ true → is_ready s room ≡ true
calm_ready s room calm free follows = grind (arith, common_steps)

-- and with a request begun it is calm too
pub begun_calm : (s : SessionState) (current : Option Current) → IsCalm s
    → IsCalm (record s { current = current })
begun_calm s current h = grind (arith, common_steps)

-- what a new message is of
abbrev pub channel_for : Purpose → SessionState → Channel
channel_for exchange s = (head_for exchange s.events.reading s.current).channel

-- after the good reply to a message of the ISDU channel, without the Event flag
absorbed_calm : (exchange : Purpose) (s : SessionState) (reply : Reply) → IsCalm s
    → channel_for exchange s ≡ Isdu → reply.event ≡ false
    → IsCalm (session_after_exchange exchange reply (session_sending exchange s))
absorbed_calm exchange s reply h channel e = grind (arith, common_steps)

-- The request's messages are of the ISDU channel

progress_channel : (p : RequestProgress) → (progress_head p).channel ≡ Isdu
progress_channel p = grind (arith, common_steps)

-- What carrying out leaves as it was

pub record SameBut (far ready : Far) : Type 0 where
  pub awake : ready.awake ≡ far.awake
  pub events : ready.events ≡ far.events
  pub page : ready.page ≡ far.page
  pub kind : ready.kind ≡ far.kind
  pub link_is : link_of ready ≡ link_of far
  pub room : ready.room ≡ far.room
  pub sized : IsSized far → IsSized ready
  pub grows : (more : List Carried) × (ready.carried ≡ far.carried ++ more)

-- another ISDU state, and a record that grows by this
same_grown : (far : Far) (state : IsduState) (carried more : List Carried)
    → carried ≡ far.carried ++ more
    → SameBut far (record far { isdu = state; carried = carried })
same_grown far state carried more is = grind (arith, common_steps)

same_far : (far : Far) → SameBut far far
same_far far = same_grown far far.isdu far.carried [] (sym (append-nil far.carried))

pub same_carried : (far : Far) (answer : Answer) (state : IsduState)
    → SameBut far (carried_by state far answer)
same_carried far answer (Handed request) = by (has_room far && fits request answer)
  where
    by : (b : Bool) → SameBut far (if b
        then record far {
          isdu = Answered request answer None;
          carried = far.carried ++ record { request = request; answer = answer } ∷ [];
        } else far)
    by true = same_grown far _ _ (record { request = request; answer = answer } ∷ []) refl
    by false = same_far far
same_carried far answer _ = same_far far

pub work_same : (far ready : Far) (request : Option Request) → IsWorkedOff request far ready
    → SameBut far ready
work_same far ready None e = rw e (same_far far)
work_same far ready (Some request) h = by_room (has_room far) h
  where
    by_room : (b : Bool) → MatchBool b
        ((answer : Answer) × IsTrue (fits request answer) × (ready ≡ local far (Carry answer)))
        (ready ≡ far) → SameBut far ready
    by_room true h = rw h.2 (same_carried far h.0 far.isdu)
    by_room false h = rw h (same_far far)

-- An exchange leaves whether the far end misses pulses

after_misses : MuchStays → (passage : Passage) (far : Far) (sent : List ℕ)
    → (far_after passage far sent).misses_pulses ≡ far.misses_pulses
after_misses much passage far sent = grind (arith, common_steps, much.misses_heard far sent)

exchange_misses : MuchStays → (far next : Far) (n m : ℕ) (sent : List ℕ) (answer : Option (List ℕ))
    → HonestExchange far n sent answer next m → next.misses_pulses ≡ far.misses_pulses
exchange_misses much far next n m sent answer x =
    ap (λ (f : Far). f.misses_pulses) x.far_is
    ∙ after_misses much x.passage (locals far x.steps) sent ∙ much.misses_stay far x.steps

sees_on : (devices : Devices) (far next : Far) → next.misses_pulses ≡ far.misses_pulses
    → SeesPulses devices far → SeesPulses devices next
sees_on devices far next same sees = grind (arith, common_steps)

-- One turn

-- from this core over this wire, which it stood to before, to those
abbrev pub IsTurn : {W : Type 0} → WireFacts W → EventRoom → CoreState → W → Said → CoreState → W
    → Type 0
IsTurn facts room old wire report new wire' = (wire_result : WireResult)
    × IsWholeTurn facts room wire wire' old report wire_result new × LinkStands facts wire old

module _ {W : Type 0} (facts : WireFacts W) where
  open facts use {far, silence}

  -- between requests both ends are level
  pub level_between : {kind : Kind} {layouts : Layouts} {core : CoreState} {wire : W}
      → Stood facts kind layouts operate_link core wire
      → Stands kind.hands_over layouts.run.od (far wire).carried Quiet (far wire).isdu
      (far wire).counted (far wire).carried
      → IsLevelBefore (far wire).page kind layouts.run.od (far wire).carried operate_link Quiet
      (far wire)
  level_between stood stands = grind (arith, common_steps)

  -- What a turn gives that sends a message of the ISDU channel
  pub record Exchanged (kind : Kind) (layouts : Layouts) (exchange : Purpose)
      (old : CoreState) (wire : W) (report : Said) (new : CoreState) (wire' : W) : Type 0 where
    pub stood : Stood facts kind layouts operate_link new wire'
    pub message : MasterMsg
    pub for : IsMessageFor exchange (session_sending exchange old.session) message
    pub parts : HasMasterParts layouts.run message
    pub ready : Far
    pub work : IsWorkedOff (handed_request (far wire).isdu) (far wire) ready
    pub answer : Option (List ℕ)
    pub reply : Reply
    pub heard_as : HeardWell kind layouts message ready (far wire') answer reply
    pub session : new.session ≡ session_after_exchange exchange reply
        (session_sending exchange old.session)
    pub report_is : IsExchangeReport exchange reply.od.items
        (session_sending exchange old.session) report

  -- and one of the request
  pub record Turned (kind : Kind) (layouts : Layouts) (old : CoreState) (wire : W)
      (c : Current) (report : Said) (new : CoreState) (wire' : W) : Type 0 where
    pub turn : Exchanged kind layouts NextMessage old wire report new wire'
    pub head : head_of turn.message.mc ≡ progress_head c.progress
    pub octets : turn.message.od.items ≡ progress_data c.progress
    pub current : new.session.current
        ≡ current_after NextMessage old.session.limit turn.reply.od.items (Some c)
    pub limit : new.session.limit ≡ old.session.limit
    pub idle : new.session.idle ≡ false
    pub report_is : IsReport NextMessage old.session.limit turn.reply.od.items (Some c) report

  -- a new message of a session went out, and what came back was taken up
  record Goes (layouts : Layouts) (exchange : Purpose) (s : SessionState) (wire wire' : W)
      (report : Said) (new : CoreState) : Type 0 where
    message : MasterMsg
    for : IsMessageFor exchange (session_sending exchange s) message
    parts : HasMasterParts layouts.run message
    received : Option (ArrayVec ℕ)
    called : facts.exchange_gives wire (master_text layouts.run message) received wire'
    passes : Passes facts wire (master_text layouts.run message) received wire'
    honesty : facts.honest wire' ≡ facts.honest wire
    accepted : (link : FarLink) → IsOperating layouts link
        → IsAccepted layouts (far wire).page link message
    settled : (reply : Reply) → good_reply layouts.run message (octets_in received) ≡ Some reply
        → (new.state ≡ resting_in layouts)
        × (new.session ≡ session_after_exchange exchange reply (session_sending exchange s))
        × IsExchangeReport exchange reply.od.items (session_sending exchange s) report

  module _ (layouts : Layouts) (exchange : Purpose) (s : SessionState) (wire wire' : W)
      (report : Said) (wire_result : WireResult) (new : CoreState)
      (up : IsTrue (facts.honest wire)) where
    abbrev free : CoreState
    free = record { state = resting_in layouts; session = s }

    passed_goes : (m : MasterMsg) → IsMessageFor exchange (session_sending exchange s) m
        → HasMasterParts layouts.run m
        → let mid : CoreState =
        core_out layouts (new_sending m) (session_sending exchange s) exchange s.current in
        StateStands mid.state (silence wire) (far wire)
        → IsPassed facts wire wire' mid report wire_result new
        → Goes layouts exchange s wire wire' report new
    passed_goes m for parts stands p = record {
      message = m;
      for = for;
      parts = parts;
      received = p.received;
      called = p.called;
      passes = p.passes;
      honesty = p.honesty;
      accepted = (p.taken.settled.gives (far wire) (far wire') (silence wire) (silence wire')
          stands (p.passes up)).1;
      settled = λ reply good.
          let is = rw good at p.taken.is in (
            ap (λ (c : CoreState). c.state) is,
            ap (λ (c : CoreState). c.session) is,
            rw good at p.taken.settled.report_is,
          );
    }

    goes : (room : EventRoom) → due_of s room ≡ exchange
        → IsWholeTurn facts room wire wire' free report wire_result new
        → StateStands free.state (silence wire) (far wire)
        → Goes layouts exchange s wire wire' report new
    goes room due t stands =
        let n : NewOut layouts s room t.mid = t.puts.sent in
        let mid : CoreState =
        core_out layouts (new_sending n.message) (session_sending exchange s) exchange s.current in
        let mid_is : t.mid ≡ mid = rw due at n.is in
        passed_goes n.message (rw due at n.due) n.parts
        (subst (λ (k : CoreState). StateStands k.state (silence wire) (far wire)) mid_is
        (t.puts.on (far wire) (silence wire) stands))
        (elim t.made [
          | inl (out, p) ↦ rw mid_is at p
          | inr (down, w) ↦
              absurd (subst (λ (k : CoreState). IsDown k.state) mid_is down.0)
        ])

  module _ (cleanly : ExchangesCleanly facts) (laws : CleanLaws) {kind : Kind} {layouts : Layouts}
      {link : FarLink} {old : CoreState} {wire wire' : W} {report : Said} {new : CoreState}
      (room : EventRoom) (stood : Stood facts kind layouts link old wire)
      (turn : IsTurn facts room old wire report new wire') where
    exchanged_by : (exchange : Purpose) → channel_for exchange old.session ≡ Isdu
        → Goes layouts exchange old.session wire wire' report new
        → Exchanged kind layouts exchange old wire report new wire'
    exchanged_by exchange channel_is t =
        let s : SessionState = old.session in
        let m : MasterMsg = t.message in
        let channel : m.mc.channel ≡ Isdu =
        ap (λ (h : Head). h.channel) t.for.head ∙ channel_is in
        let (x, clean) =
        cleanly wire (master_text layouts.run m) t.received wire' stood.is_clean t.called in
        let same = work_same (far wire) x.ready (handed_request (far wire).isdu) x.work in
        let accepted : IsAccepted layouts x.ready.page link m =
        rw same.page (t.accepted link stood.operating) in
        let sized = laws.sized.hears x.ready (master_text layouts.run m)
        (same.sized (t.passes stood.is_honest.0).regular.sized) in
        let (reply, well) = heard_well laws.read_back kind layouts m link x.ready x.far_is
        x.answer_is accepted channel (same.awake ∙ stood.awake) (same.kind ∙ stood.kind_is)
        (rw same.page stood.isdu) (same.link_is ∙ stood.at) (rw same.events stood.quiet)
        (rw x.far_is sized) in
        let (state_is, session_is, heard_is) = t.settled reply well.good in
        record {
          stood = record {
            state_is = state_is;
            is_honest = (
              rw t.honesty stood.is_honest.0,
              rw session_is (sees_on s.configuration.devices (far wire) (far wire')
                  (exchange_misses laws.much _ _ _ _ _ _ (t.passes stood.is_honest.0))
                  stood.is_honest.1),
            );
            is_clean = clean;
            calm = rw session_is (absorbed_calm exchange s reply stood.calm channel_is well.event);
            isdu_is = rw session_is stood.isdu_is;
            operating = inr refl;
            awake = well.awake;
            kind_is = well.kind_is;
            at = well.link_is;
            isdu = rw (well.page, same.page) stood.isdu;
            quiet = well.quiet;
          };
          message = m;
          for = t.for;
          parts = t.parts;
          ready = x.ready;
          work = x.work;
          answer = octets_in t.received;
          reply = reply;
          heard_as = well;
          session = session_is;
          report_is = heard_is;
        }

    pub exchanged : (exchange : Purpose) → due_of old.session room ≡ exchange
        → channel_for exchange old.session ≡ Isdu
        → Exchanged kind layouts exchange old wire report new wire'
    exchanged exchange due channel_is =
        let s : SessionState = old.session in
        let (wire_result, t, stands) =
        subst (λ (x : State). IsTurn facts room (record { state = x; session = s }) wire report new
        wire') stood.state_is turn in
        exchanged_by exchange channel_is
        (goes layouts exchange s wire wire' report wire_result new stood.is_honest.0 room due t
        (stands stood.is_honest))

    pub turned : {c : Current} → old.session.current ≡ Some c → c.abort ≡ None
        → Turned kind layouts old wire c report new wire'
    turned {c = c} is abort =
        let x = exchanged NextMessage (request_due old.session room c stood.calm is abort)
        (rw is (progress_channel c.progress)) in
        record {
          turn = x;
          head = x.for.head ∙ ap request_head is;
          octets = x.for.octets ∙ ap request_data is;
          current = ap (λ (z : SessionState). z.current) x.session
              ∙ ap (current_after NextMessage old.session.limit x.reply.od.items) is;
          limit = ap (λ (z : SessionState). z.limit) x.session;
          idle = ap (λ (z : SessionState). z.idle) x.session;
          report_is = subst (λ (q : Option Current). IsReport NextMessage old.session.limit
              x.reply.od.items q report) is x.report_is;
        }
