-- An answer for the request that is handed over.
-- For the clauses of `device::answer_handed`.
use Rattle.std.proofs.Common.{◌≡◌, ◌∙◌, ◌&&◌, ℕ, Bool, true, false, Some, Result, Ok, Err, OnOk, refl, sym, ap}
use Rattle.std.specs.Prelude.{◌↔◌, IsOk, IsTrue, OnErr}
use Rattle.iol_isdu.specs.declared.values.Answer.{Answer}
use Rattle.iol_far.specs.Isdu.{IsduState, Empty, Receiving, Whole, Handed, Answered, handed_request}
use Rattle.iol_far.specs.Far.{Far}
use Rattle.iol_far.specs.Local.{local, LocalStep, has_room, is_answer, takes_answer, carried_by}
use Rattle.iol_device.specs.Device.{Running}
use Rattle.iol_device.specs.Number.{handed_number}
use Rattle.iol_device.specs.declared.app.Apart.{Apart}
use Rattle.iol_device.specs.declared.fault.DeviceFault.{DeviceFault}

-- an answer that isn't taken changes nothing
untaken : (far : Far) (answer : Answer) → takes_answer far answer ≡ false
    → local far (LocalStep.Carry answer) ≡ far
untaken far answer e = by far.isdu e
  where
    by : (state : IsduState) → (has_room far && is_answer (handed_request state) answer) ≡ false
        → carried_by state far answer ≡ far
    by Empty k = refl
    by (Receiving octets last) k = refl
    by (Whole request last) k = refl
    by (Handed request) k = rw k refl
    by (Answered request held last) k = refl

abbrev after_answer : Running Apart → Answer → Running Apart
after_answer device answer = record device { far = local device.far (LocalStep.Carry answer) }

pub answered : (old new : Running Apart) (number : ℕ) (answer : Answer)
    (result : Result (Unit {0}) DeviceFault) → handed_number old ≡ Some number
    → OnOk result (new ≡ after_answer old answer)
    → (IsOk result ↔ ((handed_number old ≡ Some number) × IsTrue (takes_answer old.far answer)))
    → OnErr result (new ≡ old) → new ≡ after_answer old answer
answered old new number answer (Ok value) handed taken took same = taken
answered old new number answer (Err why) handed taken took same =
    same ∙ sym (ap (λ far. record old { far = far }) (untaken old.far answer
    (is (takes_answer old.far answer) took.1)))
  where
    is : (takes : Bool) → ((handed_number old ≡ Some number) × IsTrue takes → false ≡ true)
        → takes ≡ false
    is true k = sym (k (handed, refl))
    is false k = refl
