-- What the calls between a sending and a receiving leave of the port's mode and session.
-- For the clauses of `laws::ports_are_by_the_rules`.
use Rattle.std.proofs.Common.{◌≡◌, Bool, true, false, cond, refl, ap, ◌∙◌, ◌⊎◌, inl, inr, arith}
use Rattle.std.specs.Prelude.{Option, Some, None, Result, Ok, Err}
use Rattle.std.specs.Option.{option_map}
use Rattle.iol_isdu.specs.declared.values.Cause.TheVariants.{Cancelled}
use Rattle.iol_book.specs.declared.entries.Ticket.{Ticket}
use Rattle.iol_mode.specs.declared.configuration.Configuration.{Configuration}
use Rattle.iol_mode.specs.declared.states.State.{State}
use Rattle.iol_mode.specs.declared.states.State.TheVariants.{Down as AtDown, Startup as AtStartup, Preoperate as AtPreoperate, Operate as AtOperate}
use Rattle.iol_mode.specs.States.{IsDown}
use Rattle.iol_app.specs.declared.mode.Mode.TheVariants.{Down}
use Rattle.iol_app.specs.Abstract.Steps.{ImageOctets}
use Rattle.iol_app.specs.Requests.{current_with_abort}
use Rattle.iol_app.specs.State.{SessionState, session_after_leaving}
use Rattle.iol_app.specs.StationState.{mode_in}
use Rattle.iol_port.specs.declared.awaited.AwaitedAnswer.TheVariants as awaits
use Rattle.iol_port.specs.declared.call.Call.{Call}
use Rattle.iol_port.specs.declared.call.Call.TheVariants as call
use Rattle.iol_port.specs.declared.call.Answered.{Answered}
use Rattle.iol_port.specs.declared.fault.PortFault.{PortFault}
use Rattle.iol_port.specs.CorePort.{awaited_in, awaited_answer}
use Rattle.iol_port.specs.EveryWire.{CoreCallGives, CancelGives, SetOutputGives, IsBookCall}
use Rattle.iol_port.specs.View.{PortParts}
use Rattle.iol_by_the_rules.proofs.Sessions.{SessionStays}

pub record StaysUp (p next : PortParts) : Type 0 where
  pub state : next.core.state ≡ p.core.state
  pub sent : next.sent ≡ p.sent
  pub session : SessionStays p.core.session next.core.session

-- where nothing was sent
pub record GoesDown (p next : PortParts) : Type 0 where
  pub idle : p.sent ≡ false
  pub down : IsDown next.core.state
  pub session : next.core.session ≡ session_after_leaving p.core.session

abbrev pub CallLeaves : PortParts → PortParts → Type 0
CallLeaves p next = StaysUp p next ⊎ GoesDown p next

stays : (p next same : PortParts) → next ≡ same → same.core.state ≡ p.core.state
    → same.sent ≡ p.sent → SessionStays p.core.session same.core.session → CallLeaves p next
stays p next same e state sent session = inl (record {
  state = ap (λ (q : PortParts). q.core.state) e ∙ state;
  sent = ap (λ (q : PortParts). q.sent) e ∙ sent;
  session = record {
    configuration = session.configuration;
    wanted = session.wanted;
    current = session.current;
    is = ap (λ (q : PortParts). q.core.session) e ∙ session.is;
    devices = session.devices;
    request = session.request;
  };
})

-- the core is what it was
same_core : (p next same : PortParts) → next ≡ same → same.core ≡ p.core → same.sent ≡ p.sent
    → CallLeaves p next
same_core p next same e core sent = inl (record {
  state = ap (λ (q : PortParts). q.core.state) e ∙ ap (λ c. c.state) core;
  sent = ap (λ (q : PortParts). q.sent) e ∙ sent;
  session = record {
    configuration = p.core.session.configuration;
    wanted = p.core.session.output.wanted;
    current = p.core.session.current;
    is = ap (λ (q : PortParts). q.core.session) e ∙ ap (λ c. c.session) core;
    devices = refl;
    request = inl refl;
  };
})

of_book : (p next : PortParts) → IsBookCall p next → CallLeaves p next
of_book p next e = same_core p next (record p { book = next.book }) e refl refl

cancelled : (p next : PortParts) (ticket : Ticket) (result : Result (Unit {0}) PortFault)
    → CancelGives p ticket result next → CallLeaves p next
cancelled p next ticket (Ok done) gives = stays p next _ gives.waits refl refl (record {
  configuration = p.core.session.configuration;
  wanted = p.core.session.output.wanted;
  current = option_map (current_with_abort Cancelled) p.core.session.current;
  is = refl;
  devices = refl;
  request = inr (Cancelled, refl);
})
cancelled p next ticket (Err why) gives = same_core p next p gives.unchanged refl refl

wants : (s : SessionState) (image : Option ImageOctets)
    → SessionStays s (record s { output = record s.output { wanted = image } })
wants s image = record {
  configuration = s.configuration;
  wanted = image;
  current = s.current;
  is = refl;
  devices = refl;
  request = inl refl;
}

wanted : (p next : PortParts) (image : ImageOctets) (result : Result (Unit {0}) PortFault)
    → SetOutputGives p image result next → CallLeaves p next
wanted p next image (Ok done) gives =
    stays p next _ gives.wanted refl refl (wants p.core.session (Some image))
wanted p next image (Err why) gives = same_core p next p gives.unchanged refl refl

asks : (s : SessionState) (configuration : Configuration)
    → configuration.devices ≡ s.configuration.devices
    → SessionStays s (record s { configuration = configuration })
asks s configuration devices = record {
  configuration = configuration;
  wanted = s.output.wanted;
  current = s.current;
  is = refl;
  devices = devices;
  request = inl refl;
}

-- A restart

pub down_of : (state : State) → mode_in state ≡ Down → IsDown state
down_of (AtDown s) e = tt
down_of (AtStartup s) e = grind arith
down_of (AtPreoperate s) e = grind arith
down_of (AtOperate s) e = grind arith

idle_of : (sent : Bool) (state : State)
    → cond sent (awaited_in state) awaits.Nothing ≡ awaits.Nothing → sent ≡ false
idle_of false state e = refl
idle_of true (AtDown s) e = grind arith
idle_of true (AtStartup s) e = grind arith
idle_of true (AtPreoperate s) e = grind arith
idle_of true (AtOperate s) e = grind arith

pub call_leaves : (p next : PortParts) (c : Call) (reply : Answered)
    → (c ≡ call.Restart → awaited_answer p ≡ awaits.Nothing)
    → CoreCallGives p c reply next → CallLeaves p next
call_leaves p next (call.Submit request) reply idle gives = of_book p next gives.2.rest
call_leaves p next (call.SubmitUrgent request) reply idle gives = of_book p next gives.2.rest
call_leaves p next (call.Collect ticket) reply idle gives = of_book p next gives.2.rest
call_leaves p next (call.Withdraw ticket) reply idle gives = of_book p next gives.2.rest
call_leaves p next (call.Abandon ticket) reply idle gives = of_book p next gives.2.rest
call_leaves p next (call.Serve which) reply idle gives = of_book p next gives.1.rest
call_leaves p next (call.Cancel ticket) reply idle gives =
    cancelled p next ticket gives.0 gives.2
call_leaves p next call.Restart reply idle gives = inr (record {
  idle = idle_of p.sent p.core.state (idle refl);
  down = down_of next.core.state gives.1.mode;
  session = gives.1.session_is;
})
call_leaves p next (call.SetOutput image) reply idle gives =
    wanted p next image gives.0 gives.2
call_leaves p next call.ClearOutput reply idle gives =
    stays p next _ gives.1 refl refl (wants p.core.session None)
call_leaves p next call.Look reply idle gives = same_core p next p gives.1 refl refl
call_leaves p next (call.Expect identity) reply idle gives =
    stays p next _ gives.2.expects refl refl (asks p.core.session _ refl)
call_leaves p next (call.Cycle cycle) reply idle gives =
    stays p next _ gives.2.paces refl refl (asks p.core.session _ refl)
call_leaves p next call.Counters reply idle gives = same_core p next p gives.1 refl refl
call_leaves p next call.LastLoss reply idle gives = same_core p next p gives.1 refl refl
call_leaves p next call.Page reply idle gives = same_core p next p gives.1 refl refl
call_leaves p next call.TakeEvent reply idle gives = same_core p next _ gives.2.rest refl refl
call_leaves p next call.Status reply idle gives = same_core p next p gives.1 refl refl
call_leaves p next call.Archive reply idle gives = of_book p next gives.2.rest
call_leaves p next call.Drain reply idle gives = of_book p next gives.2.leaves.rest
call_leaves p next call.Turn reply idle gives = absurd gives
