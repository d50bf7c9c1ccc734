-- What stands beside a simulated device, and both of them together.
use Rattle.std.proofs.Common.{ap}
use Rattle.std.specs.Prelude.{◌≡◌, ℕ, Bool, true, List, IsTrue}
use Rattle.iol_isdu.specs.declared.values.Place.{Place}
use Rattle.iol_far.specs.declared.mode.DeviceMode.{DeviceMode}
use Rattle.iol_far.specs.Far.{hear}
use Rattle.iol_far.specs.Isdu.{handed_request}
use Rattle.iol_far.specs.Local.{LocalStep, Power, local, far_after_wake, IsWorkedOff}
use Rattle.iol_device.specs.App.{Gives, IsCarriedOut}
use Rattle.iol_device.specs.Device.{Running}
use Rattle.iol_device.specs.Hearing.{device_after_hearing}
use Rattle.iol_sim.specs.declared.beside.Nothing.{Nothing}
use Rattle.iol_sim.specs.OwnSteps.{Own, worked_off, worked_own}

-- a device, and what stands beside it
pub record Stand (P M : Type 0) : Type 0 where
  pub device : Running P
  pub beside : M

abbrev pub stand : {P M : Type 0} → Running P → M → Stand P M
stand device beside = record { device = device; beside = beside }

-- what a work leaves as it was, and what it is at the far end: some steps of its own
pub record IsWork {P M : Type 0} (old new : Stand P M) : Type 0 where
  pub first : new.device.first ≡ old.device.first
  pub own : Own old.device.far new.device.far

pub record BesideFacts (P M : Type 0) : Type 1 where
  -- what its work gives
  pub works : Stand P M → Stand P M → Type 0
  -- what it is behind a wake-up request
  pub ended : M → M
  -- and once the master counts as silent
  pub silenced : M → M
  -- what it is once octets came, by the modes before and behind them
  pub heard : DeviceMode → DeviceMode → M → M
  -- what it is once the power is back
  pub cycled : M → M
  -- what it is behind a change at the device itself
  pub changed : M → Place → List ℕ → M
  -- each work is one of the far end alone
  pub is_work : (old new : Stand P M) → works old new → IsWork old new
  -- whether a work is that of a request that is handed over, and nothing else
  pub is_plain : Bool
  pub works_off : IsTrue is_plain → (old new : Stand P M) → works old new
      → IsWorkedOff (handed_request old.device.far.isdu) old.device.far new.device.far

-- The application carries out a request that was handed over, once, where the record has room;
-- else nothing changes
pub record ApplicationWorks {P M : Type 0} (gives : Gives P) (old new : Stand P M) : Type 0 where
  pub carried : IsCarriedOut gives (handed_request old.device.far.isdu)
      old.device.far old.device.app new.device.far new.device.app
  pub rest : new.device ≡ record old.device { far = new.device.far; app = new.device.app }
  pub beside : new.beside ≡ old.beside

pub works_off_there : {P M : Type 0} (gives : Gives P) (old new : Stand P M)
    → ApplicationWorks gives old new
    → IsWorkedOff (handed_request old.device.far.isdu) old.device.far new.device.far
works_off_there gives old new h =
    worked_off gives (handed_request old.device.far.isdu) old.device.far new.device.far
    old.device.app new.device.app h.carried

-- where nothing stands beside the device
abbrev pub plain_facts : {P : Type 0} → Gives P → BesideFacts P Nothing
plain_facts gives = record {
  works = ApplicationWorks gives;
  ended = λ m. m;
  silenced = λ m. m;
  heard = λ before now m. m;
  cycled = λ m. m;
  changed = λ m place octets. m;
  is_work = λ old new h. record {
    first = ap (λ d. d.first) h.rest;
    own = worked_own (handed_request old.device.far.isdu) old.device.far new.device.far
        (works_off_there gives old new h);
  };
  is_plain = true;
  works_off = λ plain. works_off_there gives;
}

-- What becomes of both

-- the device takes a step by itself, which changes nothing where it can't be done
abbrev pub after_step : {P M : Type 0} → Stand P M → LocalStep → Stand P M
after_step s step =
    record s { device = record s.device { far = local s.device.far step } }

module _ {P M : Type 0} (facts : BesideFacts P M) where
  abbrev pub after_hearing : Stand P M → List ℕ → Stand P M
  after_hearing s octets = record {
    device = device_after_hearing s.device octets;
    beside = facts.heard s.device.far.mode (hear s.device.far octets).far.mode s.beside;
  }

  abbrev pub after_wake_up : Stand P M → Stand P M
  after_wake_up s = record {
    device = record s.device { far = far_after_wake s.device.far };
    beside = facts.ended s.beside;
  }

  abbrev pub after_silence : Stand P M → Stand P M
  after_silence s = record {
    device = record s.device { silent = true };
    beside = facts.silenced s.beside;
  }

  abbrev pub after_power : Stand P M → Stand P M
  after_power s = record {
    device = record s.device { far = local s.device.far Power };
    beside = facts.cycled s.beside;
  }

  abbrev pub after_local_change : Stand P M → Place → List ℕ → Stand P M
  after_local_change s place octets =
      record s { beside = facts.changed s.beside place octets }
