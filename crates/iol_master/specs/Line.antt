-- A port under the lock of a line, whose wire a worker owns, and the turn that the worker makes.
use Rattle.std.specs.Prelude.{◌≡◌, ◌<◌, ◌≤◌, ◌+◌, ◌/◌, ◌%◌, ℕ, zero, suc, Bool, true, false, List, length, Option, is_some}
use Rattle.arrayvec.specs.ArrayVec.{ArrayVec}
use Rattle.iol_far.specs.Octets.{octets_in}
use Rattle.iol_link.specs.declared.wire.Rate.{Rate}
use Rattle.iol_link.specs.WireFacts.{WireFacts}
use Rattle.iol_app.specs.declared.transmission.Transmission.{Transmission}
use Rattle.iol_app.specs.declared.transmission.Transmission.TheVariants as asked
use Rattle.iol_port.specs.declared.awaited.AwaitedAnswer.{AwaitedAnswer}
use Rattle.iol_port.specs.declared.awaited.AwaitedAnswer.TheVariants.{Nothing, Wake, Reply}
use Rattle.iol_port.specs.declared.call.Call.{Call}
use Rattle.iol_port.specs.declared.call.Answered.{Answered}
use Rattle.iol_port.specs.Called.{CallAt, CoreCalled, core_call, Restarts}
use Rattle.iol_port.specs.View.{PortParts}
use Rattle.iol_port.specs.WireCalls.{AreCalls}
use Rattle.iol_port.specs.CorePort.{awaited_answer, PortReceiveGives, ReceiveDoes, WakeGives, WakeDoes}
use Rattle.iol_storage.specs.StoredPort.{StoredParts, PortSends, StoredSends, stored_forward}
use Rattle.iol_master.specs.Served.{GateFacts, IsLet}

-- What a line needs of the port under its lock: what it waits for, and what each call gives that
-- the worker makes
pub record LineFacts (P : Type 0) : Type 1 where
  pub awaits : P → AwaitedAnswer
  pub sends : P → Transmission → P → Type 0
  -- what came back to the octets that were sent, or that nothing did
  pub receives : P → Option (List ℕ) → P → Type 0
  -- whether a device answered the wake
  pub wakes : P → Bool → P → Type 0
  pub restarts : P → P → Type 0

-- The calls of a port

pub record CoreReceives (p : PortParts) (received : Option (List ℕ)) (next : PortParts) : Type 0
  where
    pub gives : PortReceiveGives p received next
    pub does : ReceiveDoes p received next

pub record CoreWakes (p : PortParts) (answered : Bool) (next : PortParts) : Type 0 where
  pub gives : WakeGives p answered next
  pub does : WakeDoes p answered next

abbrev pub CoreRestarts : PortParts → PortParts → Type 0
CoreRestarts p next = Restarts (core_call p next)

abbrev pub core_facts : LineFacts PortParts
core_facts = record {
  awaits = awaited_answer;
  sends = PortSends;
  receives = CoreReceives;
  wakes = CoreWakes;
  restarts = CoreRestarts;
}

-- The calls of a port with Data Storage: what comes back, and a restart, go to the port within
-- alone

pub record StoredReceives (p : StoredParts) (received : Option (List ℕ))
    (next : StoredParts) : Type 0
  where
    pub within : CoreReceives p.port received next.port
    pub rest : next ≡ record p { port = next.port }

pub record StoredWakes (p : StoredParts) (answered : Bool) (next : StoredParts) : Type 0 where
  pub within : CoreWakes p.port answered next.port
  pub rest : next ≡ record p { port = next.port }

abbrev pub StoredRestarts : StoredParts → StoredParts → Type 0
StoredRestarts p next = Restarts (stored_forward p next)

abbrev pub stored_facts : LineFacts StoredParts
stored_facts = record {
  awaits = λ p. awaited_answer p.port;
  sends = StoredSends;
  receives = StoredReceives;
  wakes = StoredWakes;
  restarts = StoredRestarts;
}

-- The port under the lock

pub record LineState (P : Type 0) : Type 0 where
  pub port : P
  -- a restart waits until what is out has been answered
  pub restart_waits : Bool
  -- how many turns were made
  pub turns : ℕ

-- The port's own call, through which a restart that waits waits
pub record LineCalled (old new : LineState PortParts) (c : Call) (reply : Answered)
    (effect : Type 0) : Type 0 where
  pub call : CoreCalled old.port new.port c reply effect
  pub rest : new ≡ record old { port = new.port }

abbrev pub core_line_call : LineState PortParts → LineState PortParts → CallAt
core_line_call old new = record { old = old.port; new = new.port; Says = LineCalled old new }

module _ {P : Type 0} (line : LineFacts P) where
  open line use {awaits, sends, receives, wakes, restarts}

  -- a restart is made at once where nothing is out, else it waits
  abbrev pub RestartsIn : AwaitedAnswer → LineState P → LineState P → Type 0
  RestartsIn Nothing p next =
      restarts p.port next.port × (next ≡ record p { port = next.port })
  RestartsIn Wake p next = next ≡ record p { restart_waits = true }
  RestartsIn Reply p next = next ≡ record p { restart_waits = true }

  abbrev pub RestartsOnce : LineState P → LineState P → Type 0
  RestartsOnce p next = RestartsIn (awaits p.port) p next

  -- once what was out has been answered the restart that waited is made, and none waits any more
  abbrev pub RestartsWhere : Bool → P → P → Type 0
  RestartsWhere true p next = restarts p next
  RestartsWhere false p next = next ≡ p

  -- The port's own sending, which the restart that waits waits through
  pub record LineSends (p : LineState P) (asked : Transmission) (next : LineState P) : Type 0 where
    pub port : sends p.port asked next.port
    pub rest : next ≡ record p { port = next.port }

  -- what came back is taken, which makes one turn more
  pub record TakesReply (p : LineState P) (received : Option (List ℕ)) (next : LineState P) :
      Type 0 where
    pub mid : P
    pub takes : receives p.port received mid
    pub restarted : RestartsWhere p.restart_waits mid next.port
    pub waits : next.restart_waits ≡ false
    pub turns : next.turns ≡ p.turns + 1

  -- and so is what came of a wake
  pub record TakesRate (p : LineState P) (answered : Bool) (next : LineState P) : Type 0 where
    pub mid : P
    pub takes : wakes p.port answered mid
    pub restarted : RestartsWhere p.restart_waits mid next.port
    pub waits : next.restart_waits ≡ false
    pub turns : next.turns ≡ p.turns + 1

-- The ledger by which a port and its worker agree on how many turns were made, and on what is out:
-- it has three for each turn, and besides what is out

abbrev pub turns_in : ℕ → ℕ
turns_in total = total / 3

abbrev pub out_in : ℕ → ℕ
out_in total = total % 3

abbrev pub awaited_number : AwaitedAnswer → ℕ
awaited_number Nothing = 0
awaited_number Wake = 1
awaited_number Reply = 2

abbrev pub awaited_of : Transmission → AwaitedAnswer
awaited_of asked.Wake = Wake
awaited_of (asked.Exchange out) = Reply

-- all of the ledger
abbrev pub HasWholeLedger : ℕ → ℕ → Type 0
HasWholeLedger held parts = (0 < held) × (held ≡ parts)

-- A worker: its wire, how many turns it made, and what it knows to be out

pub record WorkerState (W : Type 0) : Type 0 where
  pub wire : W
  pub turns : ℕ
  pub out : ℕ

-- A worker's turns

-- the wire was called as often as turns were made, which are so many at most
abbrev pub IsServed : {W : Type 0} → WireFacts W → ℕ → W → W → Type 0
IsServed facts turns old new = (calls : List Transmission) × AreCalls facts calls old new
    × (length calls ≤ turns)

module _ {W P : Type 0} (facts : WireFacts W) (line : LineFacts P) where
  open facts use {wake_gives, exchange_gives}

  -- the wire is called once, as was asked, and what came of that is taken
  abbrev pub Brings : Transmission → W → W → LineState P → LineState P → Type 0
  Brings asked.Wake old new p next =
      (rate : Option Rate) × wake_gives old rate new × TakesRate line p (is_some rate) next
  Brings (asked.Exchange out) old new p next =
      (received : Option (ArrayVec ℕ)) × exchange_gives old out.octets.items received new
      × TakesReply line p (octets_in received) next

  -- A turn: the line's port, whose lock was held, sent; the wire was called once, as it asked; and
  -- the port, whose lock was held again, awaited that, and took what came. It was the port's next
  -- turn and no other was made, and nothing is out behind it.
  pub record IsLineTurn (old new : WorkerState W) : Type 0 where
    pub asked : Transmission
    pub first : LineState P
    pub after : first.turns ≡ old.turns
    pub sent : LineState P
    pub sends : LineSends line first asked sent
    pub locked : LineState P
    pub awaits : line.awaits locked.port ≡ awaited_of asked
    pub between : locked.turns ≡ old.turns
    pub taken : LineState P
    pub brings : Brings asked old.wire new.wire locked taken
    pub turns : new.turns ≡ taken.turns
    pub nothing_out : new.out ≡ awaited_number Nothing

  -- so many turns, one after another
  abbrev pub AreLineTurns : ℕ → WorkerState W → WorkerState W → Type 0
  AreLineTurns zero old new = new ≡ old
  AreLineTurns (suc before) old new =
      (mid : WorkerState W) × AreLineTurns before old mid × IsLineTurn mid new

  -- A worker's turns, that its gate let pass
  pub record IsLineWorked {G : Type 0} (pass_gives : GateFacts G) (gate : G) (number turns : ℕ)
      (old new : WorkerState W) : Type 0 where
    pub made : ℕ
    pub let_in : IsLet pass_gives gate number turns made
    pub all : AreLineTurns made old new
