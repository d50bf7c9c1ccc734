-- What the calls of C on the line answer and leave, where the handle is open.
use Rattle.std.specs.Prelude.{◌≡◌, ℕ, List, Option, Some, None, IsTrue, is_some}
use Rattle.iol_link.specs.declared.wire.Rate.{Rate}
use Rattle.iol_app.specs.declared.transmission.Transmission.{Transmission}
use Rattle.iol_app.specs.declared.transmission.Transmission.TheVariants.{Wake, Exchange}
use Rattle.iol_app.specs.Pieces.{IsAskedOut}
use Rattle.iol_port.specs.Asks.{asks_of}
use Rattle.iol_port.specs.CorePort.{PortSendGives, SendDoes, PortReceiveGives, ReceiveDoes, WakeGives, WakeDoes}
use Rattle.iol_far.specs.Octets.{octets_in}
use Rattle.iol_print.specs.declared.line_call.LineCall.{LineCall}
use Rattle.iol_print.specs.declared.line_call.LineCall.TheVariants as call
use Rattle.iolink_port_forms.specs.Answers.{IsMessage}
use Rattle.iolink_port_forms.specs.declared.message.IolMessage.{IolMessage}
use Rattle.iolink_port_c.specs.declared.held.IolPort.{IolPort}
use Rattle.iolink_port_c.specs.Calls.{call_taken, held_parts}

-- What the port asks for goes out, and is what it then waits to have answered. Where it was
-- out already it is the same, and nothing changes
pub record HandleSends (old : IolPort) (number : ℕ) (out : IolMessage) (new : IolPort) : Type 0
  where
    pub number_is : number ≡ 0
    pub shown : IsMessage (asks_of (held_parts old)) out
    pub says : IsAskedOut (asks_of (held_parts old)) (held_parts new).core.state
    pub repeat : IsTrue (held_parts old).sent → held_parts new ≡ held_parts old
    pub gives : PortSendGives (held_parts old) (held_parts new)
    pub does : SendDoes (held_parts old) (held_parts new)

-- what was asked for is noted as a message in the layout of the mode, with what came back
abbrev pub NotesExchange : Transmission → Option (List ℕ) → Option LineCall → Type 0
NotesExchange (Exchange sent) received (Some (call.Exchange layout octets answer)) =
    (layout ≡ sent.layout) × (octets.items ≡ sent.octets.items) × (octets_in answer ≡ received)
NotesExchange Wake received noted = noted ≡ None
NotesExchange asked received noted = ⊥

-- what came back to the message that is out is taken
pub record HandleReceives (received : Option (List ℕ)) (old : IolPort) (number : ℕ)
    (new : IolPort) :
    Type 0 where
  pub number_is : number ≡ 0
  pub gives : PortReceiveGives (held_parts old) received (held_parts new)
  pub does : ReceiveDoes (held_parts old) received (held_parts new)
  pub taken : NotesExchange (asks_of (held_parts old)) received (call_taken new)

-- what came of the wake that is out is taken
pub record HandleWakes (rate : Option Rate) (old : IolPort)
    (number : ℕ) (new : IolPort) : Type 0 where
  pub number_is : number ≡ 0
  pub gives : WakeGives (held_parts old) (is_some rate) (held_parts new)
  pub does : WakeDoes (held_parts old) (is_some rate) (held_parts new)
  pub taken : call_taken new ≡ Some (call.Wake rate)
