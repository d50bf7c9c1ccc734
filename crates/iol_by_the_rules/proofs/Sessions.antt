-- What a call leaves of a session.
-- For the clauses of `laws::ports_are_by_the_rules`.
use Rattle.std.proofs.Common.{◌≡◌, ℕ, List, ◌⊎◌}
use Rattle.std.specs.Prelude.{Option}
use Rattle.std.specs.Option.{option_map}
use Rattle.iol_isdu.specs.declared.values.Cause.{Cause}
use Rattle.iol_mode.specs.declared.configuration.Configuration.{Configuration}
use Rattle.iol_app.specs.declared.request.Current.{Current}
use Rattle.iol_app.specs.Requests.{current_with_abort}
use Rattle.iol_app.specs.State.{SessionState}

-- an abort may wait now
abbrev pub AbortMayWait : Option Current → Option Current → Type 0
AbortMayWait old new = (new ≡ old)
    ⊎ ((cause : Cause) × (new ≡ option_map (current_with_abort cause) old))

-- the output that is wanted, and what start-ups ask, may be others
pub record SessionStays (old new : SessionState) : Type 0 where
  pub configuration : Configuration
  pub wanted : Option (List ℕ)
  pub current : Option Current
  pub is : new ≡ record old {
    configuration = configuration;
    current = current;
    output = record old.output { wanted = wanted };
  }
  pub devices : configuration.devices ≡ old.configuration.devices
  pub request : AbortMayWait old.current current
