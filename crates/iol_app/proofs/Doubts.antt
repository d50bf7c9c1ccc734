-- What is left of an attempt without a good reply in the session, where what is out goes out again.
-- For the clauses of `Core::miss`, `Core::put_due`, `Core::receive_wake` and 5 more.
use Rattle.std.proofs.lemmas.Grind.{common_steps}
use Rattle.std.proofs.Common.{◌≡◌, refl, sym, subst, arith, ℕ, Bool, true, false, List, Option, Some}
use Rattle.std.specs.Prelude.{is_some, IsTrue, if◌then◌else◌}
use Rattle.iol_mseq.specs.declared.master.MasterMsg.{MasterMsg}
use Rattle.iol_mode.specs.declared.states.Operate.{Operate}
use Rattle.iol_mode.specs.Next.{message_out}
use Rattle.iol_mode.specs.Exchanges.{putting_instead}
use Rattle.iol_app.specs.Messages.{question, check}
use Rattle.iol_app.specs.Outputs.{IsOutput}
use Rattle.iol_octets.specs.Control.{control_of}
use Rattle.iol_page.specs.declared.page.Layouts.{Layouts}
use Rattle.iol_link.specs.declared.handler.Attempt.{Attempt}
use Rattle.iol_mode.specs.Messages.{stays}
use Rattle.iol_app.proofs.Sessions.{question_head, question_parts, check_head, check_parts}
use Rattle.iol_link.specs.Attempts.{Sending}
use Rattle.iol_mode.specs.declared.configuration.Devices.{Devices}
use Rattle.iol_mode.specs.declared.states.State.{State}
use Rattle.iol_mode.specs.declared.states.State.TheVariants.{Operate as AtOperate}
use Rattle.iol_mode.specs.States.{NextMode, OperateFits, NextModeFits, StateFits, operate_by, next_state}
use Rattle.iol_app.specs.declared.request.Current.{Current}
use Rattle.iol_app.specs.declared.session.Purpose.{Purpose}
use Rattle.iol_app.specs.Reports.{has_begun_reading}
use Rattle.iol_app.specs.Requests.{request_under_way}
use Rattle.iol_app.specs.State.{SessionState, IsSession, known_output_length, doubts, checks, message_repeated, question_instead, missed_by, missed_in, IsOutBy}
use Rattle.iol_app.specs.StationState.{HasLayouts, SessionFits, missed_state, missed_session, missed_out, settled_session}
use Rattle.iol_app.specs.Core.{CoreState}
use Rattle.iol_app.specs.CoreTurns.{after_missed, after_exchange}

pub missed_request_by : (devices : Devices) (exchange : Option Purpose) (current : Option Current)
    → request_under_way (missed_by devices exchange current) ≡ request_under_way current
missed_request_by devices exchange current = grind (arith, common_steps)

pub missed_request : (state : State) (s : SessionState)
    → request_under_way (missed_session state s).current ≡ request_under_way s.current
missed_request state s = grind (arith, common_steps, missed_request_by)

-- no reading is begun with it
pub missed_reading : (state : State) (s : SessionState)
    → has_begun_reading (missed_session state s) ≡ true → has_begun_reading s ≡ true
missed_reading state s e = grind (arith, common_steps)

-- A question in place of a message that is out, or a check, which is one of the session

-- what the session says of the message stays, where it goes out again as it was
missed_out_by : (t : SessionState) (exchange : Option Purpose) (out : Option Sending)
    → let s : SessionState = record t { exchange = exchange } in
    IsOutBy exchange s (message_out out)
    → IsOutBy (missed_in s).exchange (missed_in s) (message_out (missed_out s out))
missed_out_by t exchange out h = grind (
  arith,
  common_steps,
  question_head t.output.carried.items,
  check_head t.output.carried.items,
)

missed_layouts : (layouts : Layouts) (s : SessionState) → HasLayouts layouts s
    → HasLayouts layouts (missed_in s)
missed_layouts layouts s h = grind (arith, common_steps)

-- so the session fits the mode as before
missed_joined : (state : Operate) (s : SessionState) → SessionFits (AtOperate state) s
    → SessionFits (missed_state (AtOperate state) s) (missed_in s)
missed_joined state s h =
    record {
      has_layouts = missed_layouts state.layouts s h.has_layouts;
      out_for = missed_out_by s s.exchange state.out h.out_for;
    }

question_stays : (out : List ℕ) → IsTrue (stays (question out))
unfolding control_of
question_stays out = refl

check_stays : (out : List ℕ) → IsTrue (stays (check out))
unfolding control_of
check_stays out = refl

-- and the mode is one still
missed_fits : (layouts : Layouts) (sent : Sending) (s : SessionState)
    → IsOutput (known_output_length s.layout) s.output → s.layout ≡ Some layouts.run
    → OperateFits (record { out = Some sent; layouts = layouts })
    → let message : MasterMsg = message_repeated s sent.message in
    OperateFits (record { out = Some (record sent { message = message }); layouts = layouts })
missed_fits layouts sent s output has_layouts h = by_message (checks s) (doubts s)
  where
    out : List ℕ
    out = s.output.carried.items

    by_message : (checked doubted : Bool)
        → let message : MasterMsg = if checked then check out else
        if doubted then question out else sent.message in
        OperateFits (record { out = Some (record sent { message = message }); layouts = layouts })
    by_message true doubted =
        let parts = check_parts s.layout s.output output in
        let stays = check_stays out in
        grind (arith, common_steps)
    by_message false true =
        let parts = question_parts s.layout s.output output in
        let stays = question_stays out in
        grind (arith, common_steps)
    by_message false false = h

-- what is left of an attempt fits, as what it settled does
pub after_fits : (sent : Sending) (layouts : Layouts) (attempt : Attempt) (s : SessionState)
    → let outcome : NextMode = operate_by sent layouts attempt in
    IsSession s → s.layout ≡ Some layouts.run → NextModeFits outcome
    → SessionFits (next_state outcome) (settled_session outcome s)
    → StateFits (after_exchange outcome s).state
    × SessionFits (after_exchange outcome s).state (after_exchange outcome s).session
after_fits sent layouts attempt s valid has_layouts fits joined =
    let fitting = missed_fits layouts sent s valid.output has_layouts in
    let linked = missed_joined (record { out = Some sent; layouts = layouts }) s in
    grind (arith, common_steps)

abbrev pub core_of : State → SessionState → CoreState
core_of state s = record { state = state; session = s }

-- what the code makes of it: the session asks for this message
asked_core : (o : Operate) (s : SessionState) (m : MasterMsg) → is_some o.out ≡ true
    → Some m ≡ question_instead s
    → (putting_instead m (AtOperate o) ≡ missed_state (AtOperate o) s)
    × (missed_in s ≡ missed_session (AtOperate o) s)
asked_core o s m out asked = grind (arith, common_steps)

-- the code's own words
module _ (state new : State) (s after : SessionState) (o : Operate) (m : MasterMsg)
    (is : state ≡ AtOperate o) (out : is_some o.out ≡ true) (joined : SessionFits state s)
    (after_is : after ≡ missed_in s) (asked : Some m ≡ question_instead s)
    (new_is : new ≡ putting_instead m state) where
  pub asked_joined : SessionFits new after
  asked_joined = rw (new_is, after_is, is)
      (subst (λ (x : State). SessionFits x (missed_in s)) (sym (asked_core o s m out asked).0)
      (missed_joined o s (rw is at joined)))

  pub asked_after : core_of new after ≡ after_missed (core_of state s)
  asked_after =
      let e = asked_core o s m out asked in
      rw (new_is, after_is, is) (λ i. record { state = e.0 i; session = e.1 i })
