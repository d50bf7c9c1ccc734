-- The calls of a port, as C sees them: by a handle, and with numbers in place of answers.
use Rattle.std.specs.Prelude.{◌≡◌, ℕ, IsFalse, Option}
use Rattle.iol_port.specs.declared.call.Call.{Call}
use Rattle.iol_port.specs.declared.call.Answered.{Answered}
use Rattle.iol_port.specs.View.{PortParts}
use Rattle.iol_port.specs.CorePort.{CoreDoes}
use Rattle.iol_print.specs.declared.line_call.LineCall.{LineCall}
use Rattle.iolink_port_c.specs.declared.held.IolPort.{IolPort}

-- the parts of the port that a handle holds
abbrev pub held_parts : IolPort → PortParts
held_parts handle = handle.held.value.port

-- the last call of the line, none before the first
abbrev pub call_taken : IolPort → Option LineCall
call_taken handle = handle.held.value.passed

-- a call of a closed handle: refused, with nothing changed
abbrev pub ClosedPortIsRefused : ℕ → IolPort → IolPort → Type 0
ClosedPortIsRefused result old new = (result ≡ 252) × (new ≡ old)

-- a call that writes elsewhere: one of a closed handle is refused, and writes nothing
abbrev pub LeavesClosed : {X : Type 0} → ℕ → IolPort → IolPort → X → X → Type 0
LeavesClosed result old new out after =
    IsFalse old.is_open → ClosedPortIsRefused result old new × (after ≡ out)

-- a call that doesn't fit what waits for its answer: refused, with nothing of the port changed
abbrev pub IsNotAsked : ℕ → IolPort → IolPort → Type 0
IsNotAsked result old new = (result ≡ 255) × (held_parts new ≡ held_parts old)
    × (call_taken new ≡ call_taken old)

-- all stays but the port's parts: the handle is as open as it was, and the archived
-- journal is what it was
abbrev pub Stays : IolPort → IolPort → Type 0
Stays old new =
    (new.is_open ≡ old.is_open)
    × (new.held.value ≡ record old.held.value { port = held_parts new })

-- a closed handle is refused, and an open one stays open, with the archived journal
pub record GuardsPort (result : ℕ) (old new : IolPort) : Type 0 where
  pub closed : IsFalse old.is_open → ClosedPortIsRefused result old new
  pub stays : Stays old new

-- the same of a call that takes what came: the last call of the line may change
pub record GuardsLine (result : ℕ) (old new : IolPort) : Type 0 where
  pub closed : IsFalse old.is_open → ClosedPortIsRefused result old new
  pub is_open : new.is_open ≡ old.is_open
  pub stays : new.held.value
      ≡ record old.held.value { port = held_parts new; passed = call_taken new }

-- and what is written elsewhere stays where it is closed
pub record GuardsOut {X : Type 0} (result : ℕ) (old new : IolPort) (out after : X) : Type 0 where
  pub guards : GuardsPort result old new
  pub unwritten : IsFalse old.is_open → after ≡ out

-- the call of C is this call of the abstract port, with this answer
abbrev pub CallDoes : IolPort → Call → Answered → IolPort → Type 0
CallDoes old call answered new = CoreDoes (held_parts old) call answered (held_parts new)
