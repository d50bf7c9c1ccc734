-- What octets make of a device.
use Rattle.std.specs.Prelude.{◌≡◌, ℕ, Bool, false, List, [], is_some}
use Rattle.arrayvec.specs.ArrayVec.{ArrayVec}
use Rattle.iol_far.specs.Far.{hear, accepted_message}
use Rattle.iol_far.specs.Octets.{octets_in_buffer}
use Rattle.iol_device.specs.Device.{Running}
use Rattle.iol_device.specs.Number.{number_after}
use Rattle.iol_device.specs.Silence.{silent_after}

-- the device once it has heard these octets, whatever they are
abbrev pub device_after_hearing : {P : Type 0} → Running P → List ℕ → Running P
device_after_hearing device octets = record device {
  far = (hear device.far octets).far;
  number = number_after device.number device.far octets;
  silent = silent_after device.silent device.far octets;
}

-- octets came, and this stands in the buffer of the reply: there is one exactly where the device
-- accepts them, and else the buffer is empty and the far end as it was
pub record HearsInto {P : Type 0} (old : Running P) (octets : List ℕ) (answers : Bool)
    (buffer : ArrayVec ℕ) (new : Running P) : Type 0 where
  pub device : new ≡ device_after_hearing old octets
  pub far : new.far ≡ (hear old.far octets).far
  pub reply : octets_in_buffer answers buffer ≡ (hear old.far octets).reply
  pub unanswered : answers ≡ false → buffer.items ≡ []
  pub accepts : answers ≡ is_some (accepted_message old.far octets)
  pub unheard : answers ≡ false → new.far ≡ old.far
