-- How a port and its watch stand between two deeds, in each mode; a call leaves that so.
-- For the clauses of `laws::ports_are_by_the_rules`.
use Rattle.std.proofs.Common.{◌≡◌, ℕ, Bool, true, false, List, refl, sym, ap, subst, ◌∙◌, inl, inr, arith}
use Rattle.std.specs.Prelude.{Option, Some, None, IfSome, Ok}
use Rattle.std.specs.Option.{option_map}
use Rattle.iol_mseq.specs.Texts.{master_text}
use Rattle.iol_page.specs.declared.page.Layouts.{Layouts}
use Rattle.iol_isdu.specs.declared.values.Cause.{Cause}
use Rattle.iol_link.specs.Attempts.{Sending}
use Rattle.iol_mode.specs.declared.configuration.Configuration.{Configuration}
use Rattle.iol_mode.specs.declared.states.State.{State}
use Rattle.iol_mode.specs.declared.states.State.TheVariants.{Down as AtDown, Startup as AtStartup, Preoperate as AtPreoperate, Operate as AtOperate}
use Rattle.iol_mode.specs.Next.{step_layouts}
use Rattle.iol_judge.specs.declared.master.MasterState.{MasterState}
use Rattle.iol_judge.specs.declared.master_output.Output.{Output}
use Rattle.iol_judge.specs.declared.master_transfer.MasterTransfer.{MasterTransfer}
use Rattle.iol_judge.specs.declared.master_verdict.MasterVerdict.{MasterVerdict}
use Rattle.iol_judge.specs.declared.master_verdict.MasterVerdict.TheVariants.{ByTheRules}
use Rattle.iol_judge.specs.MasterOutputs.{allows_octets, aged_output}
use Rattle.iol_judge.specs.Watched.{master_after_sending}
use Rattle.iol_app.specs.declared.event_work.ReadingProgress.TheVariants.{Resting}
use Rattle.iol_app.specs.declared.event_work.ReadingProgress.{ReadingProgress}
use Rattle.iol_app.specs.declared.request.Current.{Current}
use Rattle.iol_app.specs.declared.session.Purpose.{Purpose}
use Rattle.iol_app.specs.declared.session.Purpose.TheVariants as for
use Rattle.iol_app.specs.Messages.{head_for}
use Rattle.iol_app.specs.Requests.{current_with_abort, is_doubting}
use Rattle.iol_app.specs.State.{SessionState, session_after_leaving}
use Rattle.iol_by_the_rules.proofs.StartUps.{ModeFair}
use Rattle.iol_by_the_rules.proofs.Requests.{RequestStands, cancel_stands, cancel_out}
use Rattle.iol_by_the_rules.proofs.Ties.{OperateOut, OperateRests, OutputStands, MayCarry, PageStands, TransferOut}
use Rattle.iol_by_the_rules.proofs.Missed.{may_carry}
use Rattle.iol_by_the_rules.proofs.Sessions.{AbortMayWait, SessionStays}

-- In each mode

pub record DownFair (s : SessionState) (m : MasterState) : Type 0 where
  pub current : s.current ≡ None
  pub exchange : s.exchange ≡ None
  pub carry : MayCarry m.output s.output

-- once a page was read whole it is told
pub record StartSession (o : Output) (known : Option Layouts) (s : SessionState) (m : MasterState) :
    Type 0 where
  pub current : s.current ≡ None
  pub exchange : s.exchange ≡ None
  pub unacknowledged : s.output.acknowledged ≡ false
  pub reading : s.events.reading ≡ Resting
  pub page : IfSome known (λ layouts. (s.layout ≡ Some layouts.run)
      × (s.isdu ≡ Some layouts.isdu))
  pub aged : aged_output o.carried ≡ o.carried
  pub invalid : o.valid ≡ false
  pub carry : allows_octets o.carried s.output.carried.items ≡ true
  pub watched : m.output ≡ o

-- the watch has nothing against the message that is out
pub record OutFair (sent : Bool) (layouts : Layouts) (out : Sending) (s : SessionState)
    (m : MasterState) : Type 0 where
  pub exchange : Purpose
  pub next : MasterState
  pub accepted : master_after_sending m (master_text layouts.run out.message) ≡ Ok next
  pub stands : OperateOut layouts out exchange s next
  pub carry : sent ≡ false → MayCarry m.output s.output

abbrev pub OperateFair : Bool → Option Sending → Layouts → SessionState → MasterState → Type 0
OperateFair sent None layouts s m = (sent ≡ false) × OperateRests layouts s m
OperateFair sent (Some out) layouts s m = OutFair sent layouts out s m

abbrev pub StandsIn : Bool → State → SessionState → MasterState → Type 0
StandsIn sent (AtDown state) s m = DownFair s m
StandsIn sent (AtStartup state) s m = (o : Output) × ModeFair o (AtStartup state) m
    × StartSession o (step_layouts state.step) s m
StandsIn sent (AtPreoperate state) s m = (o : Output) × ModeFair o (AtPreoperate state) m
    × StartSession o (Some state.layouts) s m
StandsIn sent (AtOperate state) s m = OperateFair sent state.out state.layouts s m

-- it judges, but where the link is down
abbrev pub Judges : State → MasterVerdict → Type 0
Judges (AtDown state) verdict = Unit {0}
Judges state verdict = verdict ≡ ByTheRules

-- What may be carried behind a wake-up request

aged_allows : (o : Output) (octets : List ℕ) → aged_output o.carried ≡ o.carried
    → allows_octets o.carried octets ≡ true → allows_octets (aged_output o.carried) octets ≡ true
aged_allows o octets aged allows = rw aged allows

pub start_carries : (o : Output) (known : Option Layouts) (s : SessionState) (m : MasterState)
    → StartSession o known s m → MayCarry m.output s.output
start_carries o known s m fair =
    rw fair.watched (aged_allows o s.output.carried.items fair.aged fair.carry)

operate_carries : (out : Option Sending) (layouts : Layouts) (s : SessionState) (m : MasterState)
    → OperateFair false out layouts s m → MayCarry m.output s.output
operate_carries None layouts s m fair =
    may_carry s.output.acknowledged m.output s.output fair.1.output
operate_carries (Some out) layouts s m fair = fair.carry refl

carries_idle : (state : State) (s : SessionState) (m : MasterState) → StandsIn false state s m
    → MayCarry m.output s.output
carries_idle (AtDown state) s m fair = fair.carry
carries_idle (AtStartup state) s m fair =
    start_carries fair.0 (step_layouts state.step) s m fair.2
carries_idle (AtPreoperate state) s m fair =
    start_carries fair.0 (Some state.layouts) s m fair.2
carries_idle (AtOperate state) s m fair = operate_carries state.out state.layouts s m fair

pub left_down : (sent : Bool) (state : State) (s : SessionState) (m : MasterState)
    → sent ≡ false → StandsIn sent state s m → DownFair (session_after_leaving s) m
left_down sent state s m idle fair = record {
  current = refl;
  exchange = refl;
  carry = carries_idle state s m (subst (λ (b : Bool). StandsIn b state s m) idle fair);
}

-- A call

abort_none : (old new : Option Current) → AbortMayWait old new → old ≡ None → new ≡ None
abort_none old new (inl same) none = same ∙ none
abort_none old new (inr waits) none =
    waits.1 ∙ ap (option_map (current_with_abort waits.0)) none

-- what doesn't ask whether an abort waits
module _ (Holds : Option Current → Type 0)
    (aborts : (cause : Cause) (current : Current) → Holds (Some current)
    → Holds (Some (current_with_abort cause current)))
  where
    abort_holds : (old new : Option Current) → AbortMayWait old new → Holds old → Holds new
    abort_holds old new (inl same) holds = subst Holds (sym same) holds
    abort_holds None new (inr waits) holds = subst Holds (sym waits.1) holds
    abort_holds (Some current) new (inr waits) holds =
        subst Holds (sym waits.1) (aborts waits.0 current holds)

abort_out : (exchange : Purpose) (transfer : MasterTransfer) (cause : Cause) (current : Current)
    → TransferOut exchange (Some current) transfer
    → TransferOut exchange (Some (current_with_abort cause current)) transfer
abort_out for.EnableOutput transfer cause current out = cancel_stands cause current transfer out
abort_out for.DropOutput transfer cause current out = cancel_stands cause current transfer out
abort_out for.Abort transfer cause current out = out
abort_out for.ReadEvent transfer cause current out = cancel_stands cause current transfer out
abort_out for.ConfirmEvents transfer cause current out = cancel_stands cause current transfer out
abort_out for.CheckEvents transfer cause current out = cancel_stands cause current transfer out
abort_out for.Request transfer cause current out = cancel_out cause current transfer out
abort_out for.Idle transfer cause current out = grind (arith, out.1)

abort_head : (exchange : Purpose) (so_far : ReadingProgress) (old new : Option Current)
    → AbortMayWait old new → head_for exchange so_far new ≡ head_for exchange so_far old
abort_head exchange so_far old new (inl same) = ap (head_for exchange so_far) same
abort_head exchange so_far None new (inr waits) = ap (head_for exchange so_far) waits.1
abort_head exchange so_far (Some current) new (inr waits) =
    ap (head_for exchange so_far) waits.1 ∙ same exchange
  where
    same : (exchange : Purpose)
        → head_for exchange so_far (Some (current_with_abort waits.0 current))
        ≡ head_for exchange so_far (Some current)
    same for.Request = refl
    same exchange = grind arith

module _ (s : SessionState) (configuration : Configuration) (wanted : Option (List ℕ))
    (current : Option Current) (devices : configuration.devices ≡ s.configuration.devices)
    (waits : AbortMayWait s.current current)
  where
    abbrev called : SessionState
    called = record s {
      configuration = configuration;
      current = current;
      output = record s.output { wanted = wanted };
    }

    called_page : (layouts : Layouts) → PageStands layouts s → PageStands layouts called
    called_page layouts page = record {
      are = page.are;
      layout = page.layout;
      isdu = page.isdu;
      knows = abort_holds (λ (c : Option Current). IfSome c (λ x. layouts.isdu ≡ true))
          (λ cause c h. h) s.current current waits page.knows;
    }

    called_output : (valid : Bool) (o : Output) → OutputStands valid o s.output
        → OutputStands valid o called.output
    called_output valid o stands =
        record { allowed = stands.allowed; valid_is = stands.valid_is }

    called_down : (m : MasterState) → DownFair s m → DownFair called m
    called_down m fair = record {
      current = abort_none s.current current waits fair.current;
      exchange = fair.exchange;
      carry = fair.carry;
    }

    called_start : (o : Output) (known : Option Layouts) (m : MasterState)
        → StartSession o known s m → StartSession o known called m
    called_start o known m fair = record {
      current = abort_none s.current current waits fair.current;
      exchange = fair.exchange;
      unacknowledged = fair.unacknowledged;
      reading = fair.reading;
      page = fair.page;
      aged = fair.aged;
      invalid = fair.invalid;
      carry = fair.carry;
      watched = fair.watched;
    }

    called_rests : (layouts : Layouts) (m : MasterState) → OperateRests layouts s m
        → OperateRests layouts called m
    called_rests layouts m fair = record {
      page = called_page layouts fair.page;
      phase = fair.phase;
      out = fair.out;
      free = fair.free;
      output = called_output s.output.acknowledged m.output fair.output;
      flag = fair.flag;
      reading = fair.reading;
      request = abort_holds (λ (c : Option Current). RequestStands c m.transfer)
          (λ cause c h. cancel_stands cause c m.transfer h) s.current current waits fair.request;
    }

    called_out : (layouts : Layouts) (out : Sending) (exchange : Purpose) (m : MasterState)
        → OperateOut layouts out exchange s m → OperateOut layouts out exchange called m
    called_out layouts out exchange m fair = record {
      page = called_page layouts fair.page;
      phase = fair.phase;
      few = fair.few;
      out = fair.out;
      busy = fair.busy;
      parts = fair.parts;
      head = fair.head ∙ sym (abort_head exchange s.events.reading s.current current waits);
      carries = fair.carries;
      output = called_output _ m.output fair.output;
      reading = fair.reading;
      reads = fair.reads;
      request = abort_holds (λ (c : Option Current). TransferOut exchange c m.transfer)
          (abort_out exchange m.transfer) s.current current waits fair.request;
      sure = λ own. abort_holds
          (λ (c : Option Current). IfSome c (λ x. is_doubting x.progress ≡ false))
          (λ cause c h. h) s.current current waits (fair.sure (sym devices ∙ own));
    }

    called_operate : (sent : Bool) (out : Option Sending) (layouts : Layouts) (m : MasterState)
        → OperateFair sent out layouts s m → OperateFair sent out layouts called m
    called_operate sent None layouts m fair = (fair.0, called_rests layouts m fair.1)
    called_operate sent (Some out) layouts m fair = record {
      exchange = fair.exchange;
      next = fair.next;
      accepted = fair.accepted;
      stands = called_out layouts out fair.exchange fair.next fair.stands;
      carry = fair.carry;
    }

    called_stands : (sent : Bool) (state : State) (m : MasterState) → StandsIn sent state s m
        → StandsIn sent state called m
    called_stands sent (AtDown state) m fair = called_down m fair
    called_stands sent (AtStartup state) m fair =
        (fair.0, fair.1, called_start fair.0 (step_layouts state.step) m fair.2)
    called_stands sent (AtPreoperate state) m fair =
        (fair.0, fair.1, called_start fair.0 (Some state.layouts) m fair.2)
    called_stands sent (AtOperate state) m fair =
        called_operate sent state.out state.layouts m fair

pub call_stands : (sent : Bool) (state : State) (old new : SessionState) (m : MasterState)
    → SessionStays old new → StandsIn sent state old m → StandsIn sent state new m
call_stands sent state old new m stays fair =
    subst (λ (s : SessionState). StandsIn sent state s m) (sym stays.is)
    (called_stands old stays.configuration stays.wanted stays.current stays.devices stays.request
    sent state m fair)
