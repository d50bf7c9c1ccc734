-- What C opens a port with.
use Rattle.std.specs.Prelude.{◌≡◌, ℕ, true, Option, Some, None, IfSome, IsSome, IsTrue, IsFalse}
use Rattle.iol_book.specs.declared.limits.Limits.{Limits}
use Rattle.iol_mode.specs.declared.configuration.Devices.{Devices}
use Rattle.iol_port.specs.CorePort.{CoreOpensFor}
use Rattle.iol_port.specs.View.{IsNewFor}
use Rattle.iolink_port_forms.specs.Arguments.{AreInRange}
use Rattle.iolink_port_forms.specs.Journal.{KeepsNone}
use Rattle.iolink_port_c.specs.declared.held.IolPort.{IolPort}
use Rattle.iolink_port_c.specs.Calls.{held_parts, call_taken}

-- What an opening answers and leaves: 253 where the handle is open, 254 where no devices have that
-- number or a limit isn't in its range, 24 where there is no memory, else 0
pub record HandleOpens (devices : Option Devices) (limits : Limits) (old : IolPort) (number : ℕ)
    (new : IolPort) : Type 0 where
  pub once : IsTrue old.is_open → (number ≡ 253) × (new ≡ old)
  pub unknown : IsFalse old.is_open → devices ≡ None → (number ≡ 254) × (new ≡ old)
  pub range : IsFalse old.is_open → ¬ AreInRange limits → (number ≡ 254) × (new ≡ old)
  pub lacks : IsFalse old.is_open → IsSome devices → AreInRange limits → ¬ (number ≡ 0)
      → number ≡ 24
  pub refused : ¬ (number ≡ 0) → new ≡ old
  pub opened : number ≡ 0 → new.is_open ≡ true
  pub parts : number ≡ 0 → IfSome devices (λ those. IsNewFor those limits (held_parts new))
  pub opens : number ≡ 0 → IfSome devices (λ those. CoreOpensFor those limits (held_parts new))
  pub journal : number ≡ 0 → KeepsNone new.held.value.journal
  pub passed : number ≡ 0 → call_taken new ≡ None
