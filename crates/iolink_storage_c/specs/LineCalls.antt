-- What the calls of C on the line answer and leave, where the handle is open.
use Rattle.std.specs.Prelude.{◌≡◌, ℕ, Bool, List, Option}
use Rattle.iol_app.specs.declared.transmission.Transmission.{Transmission}
use Rattle.iol_port.specs.CorePort.{awaited_answer, PortReceiveGives, ReceiveDoes, WakeGives, WakeDoes}
use Rattle.iol_storage.specs.StoredPort.{StoredParts, StoredSends, answer_to}
use Rattle.iolink_port_forms.specs.Answers.{IsMessage}
use Rattle.iolink_port_forms.specs.declared.message.IolMessage.{IolMessage}

-- what the port sends goes out, and is what it then waits to have answered
pub record StoreSends (old : StoredParts) (number : ℕ) (out : IolMessage) (new : StoredParts) :
    Type 0 where
  pub asked : Transmission
  pub number_is : number ≡ 0
  pub shown : IsMessage asked out
  pub sends : StoredSends old asked new
  pub awaits : awaited_answer new.port ≡ answer_to asked

-- what came back to the message that is out is taken
pub record StoreReceives (received : Option (List ℕ)) (old : StoredParts) (number : ℕ)
    (new : StoredParts) : Type 0 where
  pub number_is : number ≡ 0
  pub gives : PortReceiveGives old.port received new.port
  pub does : ReceiveDoes old.port received new.port
  pub rest : new ≡ record old { port = new.port }

-- what came of the wake that is out is taken
pub record StoreWakes (woken : Bool) (old : StoredParts) (number : ℕ) (new : StoredParts) : Type 0
  where
    pub number_is : number ≡ 0
    pub gives : WakeGives old.port woken new.port
    pub does : WakeDoes old.port woken new.port
    pub rest : new ≡ record old { port = new.port }
