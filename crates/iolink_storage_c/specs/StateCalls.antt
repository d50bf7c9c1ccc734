-- What the calls of C on the link, the device, process data and events answer and leave, where the
-- handle is open: as the calls of a port with Data Storage say it.
use Rattle.std.specs.Prelude.{◌≡◌, ℕ, List, Option, None, Result, IfOk, OnErr}
use Rattle.iol_event.specs.declared.event.Event.{Event}
use Rattle.iol_page.specs.declared.cycle.CycleTime.{CycleTime}
use Rattle.iol_page.specs.declared.identity.Identity.{Identity}
use Rattle.iol_port.specs.declared.call.Counting.{Counting}
use Rattle.iol_port.specs.declared.fault.PortFault.{PortFault}
use Rattle.iol_port.specs.Called.{core_call, Restarts, ClearsOutput, TakesEvent, Expects, SetsCycle}
use Rattle.iol_storage.specs.Stored.{storage_behind_event}
use Rattle.iol_storage.specs.StoredPort.{StoredParts, stored_forward, SetsStoredOutput}
use Rattle.iolink_port_forms.specs.Arguments.{IsCycleOf}
use Rattle.iolink_port_forms.specs.Answers.{answer_number, counting_number}
use Rattle.iolink_port_forms.specs.Shown.{IsEvent}
use Rattle.iolink_port_forms.specs.declared.state.IolEvent.{IolEvent}

-- the link is left in down
abbrev pub StoreRestarts : StoredParts → ℕ → StoredParts → Type 0
StoreRestarts old number new =
    (number ≡ 0) × Restarts (stored_forward old new)

-- an output is wanted, or refused
pub record StoreSetsOutput (octets : List ℕ) (old : StoredParts) (number : ℕ) (new : StoredParts) :
    Type 0 where
  pub answer : Result (Unit {0}) PortFault
  pub number_is : number ≡ answer_number answer
  pub sets : SetsStoredOutput octets answer old new

-- no output is wanted
pub record StoreClearsOutput (old : StoredParts) (number : ℕ) (new : StoredParts) : Type 0 where
  pub number_is : number ≡ 0
  pub clears : ClearsOutput (core_call old.port new.port)
  pub rest : new ≡ record old { port = new.port; output = None }

-- the event that was kept longest is handed out, or none is and nothing is written for C
pub record StoreTakesEvent (old : StoredParts) (number : ℕ) (before after : IolEvent)
    (new : StoredParts) : Type 0 where
  pub answer : Result Event PortFault
  pub number_is : number ≡ answer_number answer
  pub takes : TakesEvent (core_call old.port new.port) answer
  pub rest : new ≡ record old {
    port = new.port;
    storage = storage_behind_event old.storage answer;
  }
  pub shown : IfOk answer (λ event. IsEvent event after)
  pub unwritten : OnErr answer (after ≡ before)

-- this device is expected, or any
pub record StoreExpects (identity : Option Identity) (old : StoredParts) (number counts : ℕ)
    (new : StoredParts) : Type 0 where
  pub answer : Counting
  pub number_is : number ≡ 0
  pub counts_is : counts ≡ counting_number answer
  pub expects : Expects (stored_forward old new) identity answer

-- a start-up is to write the cycle time of so many microseconds
pub record StorePaces (micros : ℕ) (old : StoredParts) (number counts : ℕ) (new : StoredParts) :
    Type 0 where
  pub cycle : Option CycleTime
  pub cycle_is : IsCycleOf micros cycle
  pub answer : Counting
  pub number_is : number ≡ 0
  pub counts_is : counts ≡ counting_number answer
  pub paces : SetsCycle (stored_forward old new) cycle answer
