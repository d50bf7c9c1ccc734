-- The calls of a device, as C sees them: by a handle, and with numbers in place of answers.
use Rattle.std.specs.Prelude.{◌≡◌, ℕ, IsTrue, IsFalse, Bool, true, false, List, Option, Some, None, IfErr, IsOk}
use Rattle.iol_page.specs.Fault.{page_fault_number}
use Rattle.iol_page.specs.Page.{layouts_of}
use Rattle.iol_isdu.specs.declared.values.Answer.{Answer}
use Rattle.iol_isdu.specs.declared.values.Answer.TheVariants.{Read}
use Rattle.iol_far.specs.Far.{Far, new_far}
use Rattle.iol_far.specs.Local.{LocalStep, local}
use Rattle.iol_device.specs.Device.{Running}
use Rattle.iol_device.specs.Faults.{device_fault_number}
use Rattle.iol_device.specs.Number.{answer_refusal}
use Rattle.iol_device.specs.declared.app.Apart.{Apart}
use Rattle.iol_device.specs.declared.fault.DeviceFault.{DeviceFault}
use Rattle.iol_print.specs.declared.line_call.LineCall.{LineCall}
use Rattle.iolink_device_c.specs.declared.held.IolDevice.{IolDevice}

-- the device that a handle holds
abbrev pub device_of : IolDevice → Running Apart
device_of handle = handle.held.value.device

-- its end of the line
abbrev pub far_of : IolDevice → Far
far_of handle = (device_of handle).far

-- the number of the request that was handed over last
abbrev pub number_of : IolDevice → ℕ
number_of handle = (device_of handle).number

-- whether the master counts as silent there
abbrev pub silent_of : IolDevice → Bool
silent_of handle = (device_of handle).silent

-- the last call of the line, none before the first
abbrev pub call_heard : IolDevice → Option LineCall
call_heard handle = handle.held.value.passed

-- a call of a closed handle: refused, with nothing changed
abbrev pub IsRefused : ℕ → IolDevice → IolDevice → Type 0
IsRefused result old new = (result ≡ 252) × (new ≡ old)

-- a closed handle is refused, and an open one stays open
pub record Guards (result : ℕ) (old new : IolDevice) : Type 0 where
  pub closed : IsFalse old.is_open → IsRefused result old new
  pub stays : new.is_open ≡ old.is_open

-- and nothing but its end of the line may change
pub record GuardsFar (result : ℕ) (old new : IolDevice) : Type 0 where
  pub guards : Guards result old new
  pub number : number_of new ≡ number_of old
  pub silent : silent_of new ≡ silent_of old
  pub passed : call_heard new ≡ call_heard old

-- What an opening answers and leaves: 253 where the handle is open, the refusal of the page, 24
-- where there is no memory, else 0 and a device that is new but for its number
pub record HandleOpensDevice (page : List ℕ) (given : ℕ) (old : IolDevice) (result : ℕ)
    (new : IolDevice) : Type 0 where
  pub once : IsTrue old.is_open → (result ≡ 253) × (new ≡ old)
  pub refused : IsFalse old.is_open
      → IfErr (layouts_of page) (λ fault. result ≡ page_fault_number fault)
  pub memory : IsFalse old.is_open → IsOk (layouts_of page) → ¬ (result ≡ 0) → result ≡ 24
  pub unchanged : ¬ (result ≡ 0) → new ≡ old
  pub opened : result ≡ 0 → new.is_open ≡ true
  pub passed : result ≡ 0 → call_heard new ≡ None
  pub far : result ≡ 0 → far_of new ≡ new_far page None
  pub number : result ≡ 0 → number_of new ≡ given
  pub silent : result ≡ 0 → silent_of new ≡ false

-- the answer to a read, by its octets
abbrev pub read_of : List ℕ → Answer
read_of octets = Read (record { items = octets })

-- an answer is brought, by what it is refused with: the step that carries the handed
-- request out with it, or the number of the refusal, with nothing changed
abbrev pub AnswersBy : Option DeviceFault → Answer → IolDevice → ℕ → IolDevice → Type 0
AnswersBy None answer old result new = (result ≡ 0)
    × (far_of new ≡ local (far_of old) (LocalStep.Carry answer))
AnswersBy (Some fault) answer old result new = (result ≡ device_fault_number fault)
    × (device_of new ≡ device_of old)

-- an answer is brought for a number
abbrev pub Answers : ℕ → Answer → IolDevice → ℕ → IolDevice → Type 0
Answers number answer old result new =
    AnswersBy (answer_refusal (device_of old) number answer) answer old result new
