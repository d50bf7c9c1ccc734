-- What the calls of C on the link, process data and events answer and leave, where
-- the handle is open.
use Rattle.std.specs.Prelude.{◌≡◌, ℕ, List, Result, IfOk, OnErr}
use Rattle.iol_event.specs.declared.event.Event.{Event}
use Rattle.iol_port.specs.declared.call.Call.TheVariants as call
use Rattle.iol_port.specs.declared.call.Answered.TheVariants as answered
use Rattle.iol_port.specs.declared.fault.PortFault.{PortFault}
use Rattle.iol_port.specs.EveryWire.{RestartGives, SetOutputGives, ClearOutputGives, TakeEventGives}
use Rattle.iol_port.specs.Replies.{nothing_reply, event_reply}
use Rattle.iolink_port_c.specs.declared.held.IolPort.{IolPort}
use Rattle.iolink_port_forms.specs.Answers.{answer_number}
use Rattle.iolink_port_forms.specs.Shown.{IsEvent}
use Rattle.iolink_port_forms.specs.declared.state.IolEvent.{IolEvent}
use Rattle.iolink_port_c.specs.Calls.{held_parts, CallDoes}

-- the link is left in down
pub record HandleRestarts (old : IolPort) (number : ℕ) (new : IolPort) : Type 0 where
  pub number_is : number ≡ 0
  pub gives : RestartGives (held_parts old) (held_parts new)
  pub does : CallDoes old call.Restart answered.Nothing new

-- an output is wanted, or refused
pub record HandleSetsOutput (octets : List ℕ) (old : IolPort) (number : ℕ)
    (new : IolPort) : Type 0 where
  pub answer : Result (Unit {0}) PortFault
  pub number_is : number ≡ answer_number answer
  pub gives : SetOutputGives (held_parts old) octets answer (held_parts new)
  pub does : CallDoes old (call.SetOutput octets) (nothing_reply answer) new

-- no output is wanted
pub record HandleClearsOutput (old : IolPort) (number : ℕ) (new : IolPort) : Type 0 where
  pub number_is : number ≡ 0
  pub gives : ClearOutputGives (held_parts old) (held_parts new)
  pub does : CallDoes old call.ClearOutput answered.Nothing new

-- the event that was kept longest is handed out, or none is and nothing is written for C
pub record HandleTakesEvent (old : IolPort) (number : ℕ) (before after : IolEvent)
    (new : IolPort) : Type 0 where
  pub answer : Result Event PortFault
  pub number_is : number ≡ answer_number answer
  pub gives : TakeEventGives (held_parts old) answer (held_parts new)
  pub does : CallDoes old call.TakeEvent (event_reply answer) new
  pub shown : IfOk answer (λ event. IsEvent event after)
  pub unwritten : OnErr answer (after ≡ before)
