-- What a start-up comes to: with the watch, and with what the session was told of the page.
-- For the clauses of `laws::ports_are_by_the_rules`.
use Rattle.std.proofs.Common.{◌≡◌, ℕ, Bool, true, false, ◌+◌, ◌==◌, if◌then◌else◌, List, [], ◌∷◌, ◌++◌, length, replicate, refl, sym, ap, subst, ◌∙◌, arith}
use Rattle.std.proofs.lemmas.Grind.{common_steps}
use Rattle.std.specs.Prelude.{Option, Some, None, IfSome, slice_index, Result, Ok, Err, ⊤}
use Rattle.std.specs.Option.{option_map}
use Rattle.iol_mseq.specs.Shape.{Shape}
use Rattle.iol_mseq.specs.declared.master.MasterMsg.{MasterMsg}
use Rattle.iol_mseq.specs.declared.reply.Reply.{Reply}
use Rattle.iol_page.specs.Identity.{is_expected}
use Rattle.iol_page.specs.Page.{layouts_of}
use Rattle.iol_page.specs.declared.fault.PageFault.{PageFault}
use Rattle.iol_page.specs.declared.page.Layouts.{Layouts}
use Rattle.iol_link.specs.Attempts.{Sending}
use Rattle.iol_link.specs.declared.handler.Attempt.TheVariants.{Retry, Lost}
use Rattle.iol_mode.specs.declared.configuration.Configuration.{Configuration}
use Rattle.iol_mode.specs.declared.states.PageFacts.{PageFacts}
use Rattle.iol_mode.specs.declared.states.Preoperate.{Preoperate as PreoperateState}
use Rattle.iol_mode.specs.declared.states.Startup.{Startup as StartupState}
use Rattle.iol_mode.specs.declared.states.StartupStep.{StartupStep}
use Rattle.iol_mode.specs.declared.states.StartupStep.TheVariants.{Reset, First, Read, Ident, Leave, Cycle, Enter}
use Rattle.iol_mode.specs.declared.states.State.TheVariants.{Operate as AtOperate}
use Rattle.iol_mode.specs.Next.{read_by, step_layouts}
use Rattle.iol_mode.specs.States.{NextMode, InDown, InStartup, InPreoperate, InOperate, next_state, startup_at, step_after, page_after, mode_after_check, taken_where, page_taken, layouts_taken, is_left_out, startup_turned, startup_by, preoperate_turned, preoperate_by, preoperate_after}
use Rattle.iol_judge.specs.declared.master.MasterState.{MasterState}
use Rattle.iol_judge.specs.declared.master_output.Output.{Output}
use Rattle.iol_judge.specs.MasterOutputs.{allows_octets, aged_output}
use Rattle.iol_judge.specs.Watched.{heard_reply, master_after_reply, master_without_reply}
use Rattle.iol_app.specs.declared.output.OutputState.{OutputState}
use Rattle.iol_app.specs.declared.request.Current.{Current}
use Rattle.iol_app.specs.declared.session.Purpose.{Purpose}
use Rattle.iol_app.specs.Outputs.{output_resized}
use Rattle.iol_app.specs.State.{SessionState, session_after_reply, session_after_reply_to}
use Rattle.iol_app.specs.StationState.{missed_out, missed_session, missed_state, missed_with, settled_session, with_page_read}
use Rattle.iol_by_the_rules.proofs.StartUps.{ModeFair}
use Rattle.iol_by_the_rules.proofs.Segments.{is_free, zeros_are}
use Rattle.iol_by_the_rules.proofs.Requests.{RequestStands}
use Rattle.iol_by_the_rules.proofs.Ties.{OperateRests, watched_reading}
use Rattle.iol_by_the_rules.proofs.Standing.{OperateFair, StartSession, StandsIn, start_carries}

-- What no reply changes, and what each does

reply_output : (m : MasterState) (message : MasterMsg) (reply : Reply)
    → (master_after_reply m message reply).output ≡ m.output
reply_output m message reply = grind arith

reply_flag : (m : MasterState) (message : MasterMsg) (reply : Reply)
    → (master_after_reply m message reply).events.flag ≡ reply.event
reply_flag m message reply = grind arith

missed_output : (m : MasterState) (octets : List ℕ)
    → (master_without_reply m octets).output ≡ m.output
missed_output m octets = grind arith

pub heard_output : (m : MasterState) (octets : List ℕ) (message : MasterMsg) (r : Option Reply)
    → (heard_reply m octets message r).output ≡ m.output
heard_output m octets message None = missed_output m octets
heard_output m octets message (Some reply) = reply_output m message reply

-- Which modes follow

abbrev Rises : Option Layouts → NextMode → MasterState → Type 0
Rises known (InDown s) m = ⊤
Rises known (InStartup s) m = ⊤
Rises known (InPreoperate s) m = known ≡ Some s.layouts
Rises known (InOperate s None) m = ⊥
Rises known (InOperate s (Some reply)) m = (known ≡ Some s.layouts) × (s.out ≡ None)
    × (m.events.flag ≡ reply.event)

abbrev StaysLow : NextMode → Type 0
StaysLow (InDown s) = ⊤
StaysLow (InStartup s) = ⊤
StaysLow other = ⊥

low_rises : (known : Option Layouts) (outcome : NextMode) (m : MasterState) → StaysLow outcome
    → Rises known outcome m
low_rises known (InDown s) m low = tt
low_rises known (InStartup s) m low = tt
low_rises known (InPreoperate s) m low = absurd low
low_rises known (InOperate s reply) m low = absurd low

left_low : (left : Bool) (c : Configuration) (layouts : Layouts) (page : List ℕ)
    → StaysLow (layouts_taken left c layouts page)
left_low true c layouts page = tt
left_low false c layouts page = tt

taken_low : (c : Configuration) (asked : Result Layouts PageFault) (page : List ℕ)
    → StaysLow (page_taken c asked page)
taken_low c (Err fault) page = tt
taken_low c (Ok layouts) page = left_low (is_left_out c.devices page) c layouts page

checked_low : (right : Bool) (c : Configuration) (asked : Result Layouts PageFault)
    (page : List ℕ) → StaysLow (taken_where right c asked page)
checked_low true c asked page = taken_low c asked page
checked_low false c asked page = tt

page_low : (whole : Bool) (c : Configuration) (page : List ℕ)
    → StaysLow (if whole then mode_after_check c (layouts_of page) page
    else startup_at (Read (record { items = page })))
page_low true c page = checked_low (is_expected c.expected page) c (layouts_of page) page
page_low false c page = tt

step_rises : (c : Configuration) (step : StartupStep) (reply : Reply) (m : MasterState)
    → m.events.flag ≡ reply.event → Rises (step_layouts step) (step_after c step reply) m
step_rises c Reset reply m flag = tt
step_rises c First reply m flag = tt
step_rises c (Read octets) reply m flag =
    let page : List ℕ = octets.items ++ slice_index reply.od.items 0 ∷ [] in
    low_rises None (page_after c page) m (page_low (length page == 10) c page)
step_rises c (Ident facts pre) reply m flag = tt
step_rises c (Leave facts pre) reply m flag = refl
step_rises c (Cycle facts) reply m flag = tt
step_rises c (Enter facts) reply m flag = (refl, refl, flag)

lost_rises : (lost : Bool) (c : Configuration) (s : StartupState) (m : MasterState)
    → Rises (step_layouts s.step) (startup_by c
    (record { message = s.sent.message; tries = if lost then 0 else s.sent.tries + 1 }) s.step
    (if lost then Lost else Retry)) m
lost_rises true c s m = tt
lost_rises false c s m = tt

pub startup_rises : (c : Configuration) (s : StartupState) (m : MasterState) (octets : List ℕ)
    (r : Option Reply)
    → Rises (step_layouts s.step) (startup_turned c s r) (heard_reply m octets s.sent.message r)
startup_rises c s m octets None = lost_rises (s.sent.tries == 2) c s _
startup_rises c s m octets (Some reply) =
    step_rises c s.step reply _ (reply_flag m s.sent.message reply)

pre_rises : (written : Bool) (pre : Shape) (layouts : Layouts) (reply : Reply) (m : MasterState)
    → m.events.flag ≡ reply.event
    → Rises (Some layouts) (preoperate_after written pre layouts reply) m
pre_rises true pre layouts reply m flag = (refl, refl, flag)
pre_rises false pre layouts reply m flag = refl

pre_lost_rises : (lost : Bool) (s : PreoperateState) (m : MasterState)
    → Rises (Some s.layouts) (preoperate_by
    (record { message = s.sent.message; tries = if lost then 0 else s.sent.tries + 1 })
    s.cycle_written s.pre s.layouts (if lost then Lost else Retry)) m
pre_lost_rises true s m = tt
pre_lost_rises false s m = refl

pub preoperate_rises : (s : PreoperateState) (m : MasterState) (octets : List ℕ)
    (r : Option Reply)
    → Rises (Some s.layouts) (preoperate_turned s r) (heard_reply m octets s.sent.message r)
preoperate_rises s m octets None = pre_lost_rises (s.sent.tries == 2) s _
preoperate_rises s m octets (Some reply) =
    pre_rises s.cycle_written s.pre s.layouts reply _ (reply_flag m s.sent.message reply)

-- The session

zeros_may : (o : Output) (n : ℕ) → aged_output o.carried ≡ o.carried
    → allows_octets o.carried (replicate n 0) ≡ true
zeros_may o n aged = grind (arith, common_steps, aged, zeros_are n)

length_allowed : (o : Output) (s : OutputState) (size : ℕ) → aged_output o.carried ≡ o.carried
    → allows_octets o.carried s.carried.items ≡ true
    → allows_octets o.carried (output_resized size s).carried.items ≡ true
length_allowed o s size aged carry = by (length s.carried.items == size)
  where
    by : (same : Bool) → allows_octets o.carried (if same then s else record s {
      wanted = None;
      carried = record { items = replicate size 0 };
    }).carried.items ≡ true
    by true = carry
    by false = zeros_may o size aged

still_unacknowledged : (size : ℕ) (s : OutputState) → s.acknowledged ≡ false
    → (output_resized size s).acknowledged ≡ false
still_unacknowledged size s unacknowledged = grind (arith, unacknowledged)

read_session : (o : Output) (known : Option Layouts) (step : StartupStep) (s : SessionState)
    (m after : MasterState) → after.output ≡ o → StartSession o known s m
    → StartSession o (step_layouts step) (with_page_read (read_by step) s) after
read_session o known step s m after output start =
    by (read_by step) (step_layouts step) (known_is step)
  where
    known_is : (step : StartupStep)
        → step_layouts step ≡ option_map (λ (t : PageFacts). t.layouts) (read_by step)
    known_is step = grind arith

    by : (read : Option PageFacts) (layouts : Option Layouts)
        → layouts ≡ option_map (λ (t : PageFacts). t.layouts) read
        → StartSession o layouts (with_page_read read s) after
    by None layouts is = record {
      current = start.current;
      exchange = start.exchange;
      unacknowledged = start.unacknowledged;
      reading = start.reading;
      page = rw is tt;
      aged = start.aged;
      invalid = start.invalid;
      carry = start.carry;
      watched = output;
    }
    by (Some facts) layouts is = record {
      current = start.current;
      exchange = start.exchange;
      unacknowledged = still_unacknowledged facts.layouts.run.pd_out s.output start.unacknowledged;
      reading = start.reading;
      page = rw is (refl, refl);
      aged = start.aged;
      invalid = start.invalid;
      carry = length_allowed o s.output facts.layouts.run.pd_out start.aged start.carry;
      watched = output;
    }

-- Both, behind what came to a message of a start-up

module _ (o : Output) (known : Option Layouts) (s : SessionState) (m after : MasterState)
    (start : StartSession o known s m) (output : after.output ≡ o)
  where
    entered : (layouts : Layouts) (reply : Reply) → known ≡ Some layouts
        → after.events.flag ≡ reply.event → ModeFair o (AtOperate (record {
          out = None;
          layouts = layouts;
        })) after → OperateRests layouts (session_after_reply_to None reply s) after
    entered layouts reply is flag fair =
        let page : (s.layout ≡ Some layouts.run) × (s.isdu ≡ Some layouts.isdu) =
        subst (λ (k : Option Layouts). IfSome k (λ l. (s.layout ≡ Some l.run)
        × (s.isdu ≡ Some l.isdu))) is start.page in
        record {
          page = record {
            are = fair.2;
            layout = page.0;
            isdu = page.1;
            knows = subst (λ (c : Option Current). IfSome c (λ x. layouts.isdu ≡ true))
                (sym start.current) tt;
          };
          phase = fair.0;
          out = fair.1;
          free = start.exchange;
          output = record {
            allowed = ap (λ (x : Output). allows_octets x.carried s.output.carried.items) output
                ∙ start.carry;
            valid_is = ap (λ (x : Output). x.valid) output ∙ start.invalid
                ∙ sym start.unacknowledged;
          };
          flag = flag;
          reading = fair.3.1 ∙ sym (ap watched_reading start.reading);
          request = subst (λ (c : Option Current). RequestStands c after.transfer)
              (sym start.current) (ap is_free fair.3.2);
        }

    pub risen : (outcome : NextMode) → Rises known outcome after
        → ModeFair o (next_state outcome) after
        → StandsIn false (missed_state (next_state outcome) (settled_session outcome s))
        (missed_session (next_state outcome) (settled_session outcome s)) after
    risen (InDown d) rises fair = record {
      current = refl;
      exchange = refl;
      carry = ap (λ (x : Output). allows_octets (aged_output x.carried) s.output.carried.items)
          (output ∙ sym start.watched) ∙ start_carries o known s m start;
    }
    risen (InStartup t) rises fair =
        (o, fair, read_session o known t.step s m after output start)
    risen (InPreoperate t) rises fair = (
      o,
      fair,
      record {
        current = start.current;
        exchange = start.exchange;
        unacknowledged = start.unacknowledged;
        reading = start.reading;
        page = subst (λ (k : Option Layouts). IfSome k (λ l. (s.layout ≡ Some l.run)
            × (s.isdu ≡ Some l.isdu))) rises start.page;
        aged = start.aged;
        invalid = start.invalid;
        carry = start.carry;
        watched = output;
      },
    )
    risen (InOperate t None) rises fair = absurd rises
    risen (InOperate t (Some reply)) rises fair = operate t.out rises.1
      where
        rests : OperateRests t.layouts (session_after_reply_to s.exchange reply s) after
        rests = subst (λ (e : Option Purpose). OperateRests t.layouts
            (session_after_reply_to e reply s) after) (sym start.exchange)
            (entered t.layouts reply rises.0 rises.2 fair)

        operate : (out : Option Sending) → out ≡ None
            → OperateFair false (missed_out (session_after_reply reply s) out) t.layouts
            (missed_with out (session_after_reply reply s)) after
        operate None is = (refl, rests)
        operate (Some out) is = grind (arith, is)
