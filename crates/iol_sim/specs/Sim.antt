-- The simulated wire.
use Rattle.std.specs.Prelude.{◌≡◌, ℕ, ◌-◌, Bool, true, false, not, ◌&&◌, nat_le, if◌then◌else◌, List, [], ◌∷◌, length, MatchBool, Option, Some, None, option_map, is_some}
use Rattle.arrayvec.specs.ArrayVec.{ArrayVec}
use Rattle.iol_octets.specs.Checksum.{with_flip}
use Rattle.iol_device.specs.Device.{Running}
use Rattle.iol_device.specs.Pulses.{is_orderly}
use Rattle.iol_far.specs.Octets.{octets_in}
use Rattle.iol_far.specs.Far.{Far, hear}
use Rattle.iol_link.specs.Honest.{silence_after, test_read}
use Rattle.iol_link.specs.WireFacts.{WireFacts}
use Rattle.iol_link.specs.declared.wire.Rate.{Rate}
use Rattle.iol_link.specs.declared.wire.Rate.TheVariants.{Com2}
use Rattle.iol_sim.specs.declared.script.Fate.{Fate}
use Rattle.iol_sim.specs.declared.script.Fate.TheVariants.{Clean, BackLost, OutDamaged, BackDamaged, NoWake, Silent}
use Rattle.iol_sim.specs.declared.script.Step.{Step}
use Rattle.iol_sim.specs.Beside.{Stand, BesideFacts, stand, after_hearing, after_wake_up}
use Rattle.iol_sim.specs.Script.{fate_of, rest_of, auto_of, DevicePair, HereWorks, AreDone, AreThose}

pub record SimulatedWire (P M : Type 0) : Type 0 where
  -- the device at the far end, and what stands beside it
  pub device : Running P
  pub beside : M
  -- what isn't plugged in, where there is a second device
  pub away : Option (Stand P M)
  -- the steps that were not used yet
  pub steps : List Step
  -- whether the application works before each call
  pub auto : Bool
  -- whether every call is lost, and no step is used
  pub silent : Bool
  -- how many exchanges in a row, up to now, brought no unaltered reply, counted up to 3
  pub silence : ℕ
  -- how many events were raised that the device at the far end then refused
  pub refused_events : ℕ

abbrev pub here_of : {P M : Type 0} → SimulatedWire P M → Stand P M
here_of sim = stand sim.device sim.beside

-- the wire with this at its far end
abbrev pub with_here : {P M : Type 0} → SimulatedWire P M → Stand P M → SimulatedWire P M
with_here sim here = record sim { device = here.device; beside = here.beside }

abbrev pub sim_devices : {P M : Type 0} → SimulatedWire P M → DevicePair P M
sim_devices sim =
    record { here = here_of sim; away = sim.away; refused_events = sim.refused_events }

-- a wire at first: this at its far end, a second one or none, and its steps
abbrev pub first_sim : {P M : Type 0} → Stand P M → Option (Stand P M) → List Step
    → SimulatedWire P M
first_sim here away steps = record {
  device = here.device;
  beside = here.beside;
  away = away;
  steps = steps;
  auto = true;
  silent = false;
  silence = 0;
  refused_events = 0;
}

-- whether it loses messages and replies, and does no worse: a line to one device. With two,
-- another one may stand at the far end later
abbrev pub has_one_device : {P M : Type 0} → SimulatedWire P M → Bool
has_one_device sim = not (is_some sim.away)

-- A clean wire: its script has ended, the application works before each call, it isn't silent, and
-- the far end does nothing by itself but that work

abbrev pub is_ended : List Step → Bool
is_ended [] = true
is_ended (step ∷ steps) = false

abbrev pub is_clean : {P M : Type 0} → BesideFacts P M → SimulatedWire P M → Bool
is_clean facts sim = facts.is_plain && is_ended sim.steps && sim.auto && not sim.silent

-- The device and the script before a call

abbrev pub fate_now : {P M : Type 0} → SimulatedWire P M → Fate
fate_now sim = if sim.silent then Silent else fate_of sim.steps

abbrev pub is_silent : Fate → Bool
is_silent Silent = true
is_silent fate = false

-- the wire, with these devices, once the steps before a call are used
abbrev pub wire_before_call : {P M : Type 0} → SimulatedWire P M → DevicePair P M
    → SimulatedWire P M
wire_before_call sim devices = record {
  device = devices.here.device;
  beside = devices.here.beside;
  away = devices.away;
  steps = if sim.silent then sim.steps else rest_of sim.steps;
  auto = if sim.silent then sim.auto else auto_of sim.auto sim.steps;
  silent = is_silent (fate_now sim);
  silence = sim.silence;
  refused_events = devices.refused_events;
}

-- the devices as the call finds them: the steps are done, unless the wire is silent,
-- and then the work where it is automatic
pub record IsReady {P M : Type 0} (facts : BesideFacts P M) (sim : SimulatedWire P M)
    (ready : DevicePair P M) : Type 0 where
  pub stepped : DevicePair P M
  pub steps : MatchBool sim.silent (stepped ≡ sim_devices sim)
      (AreDone facts sim.steps (sim_devices sim) stepped)
  pub work : MatchBool (if sim.silent then sim.auto else auto_of sim.auto sim.steps)
      (HereWorks facts stepped ready) (ready ≡ stepped)

-- A wake

module _ {P M : Type 0} (facts : BesideFacts P M) where
  abbrev pub stand_after_wake : Fate → Stand P M → Stand P M
  stand_after_wake Clean here = after_wake_up facts here
  stand_after_wake BackLost here = after_wake_up facts here
  stand_after_wake BackDamaged here = after_wake_up facts here
  stand_after_wake fate here = here

abbrev pub rate_by : Fate → Option Rate
rate_by Clean = Some Com2
rate_by fate = None

-- whether the pulse alone is lost, and the device misses it: it may, and before the steps it was
-- as such a device is
abbrev pub misses_pulse : Fate → Far → Far → Bool
misses_pulse NoWake before far = is_orderly before && far.misses_pulses
misses_pulse fate before far = false

-- then it hears the test read as it is
abbrev pub reached_by : {P M : Type 0} → BesideFacts P M → Fate → Far → Stand P M → Stand P M
reached_by facts fate before here =
    if misses_pulse fate before here.device.far then after_hearing facts here test_read else
    stand_after_wake facts fate here

-- and a rate is found where it replies
abbrev pub rate_found : Fate → Far → Far → Option Rate
rate_found fate before far =
    if misses_pulse fate before far then option_map (λ reply. Com2) (hear far test_read).reply
    else rate_by fate

pub record SimWakes {P M : Type 0} (facts : BesideFacts P M) (old : SimulatedWire P M)
    (answer : Option Rate) (new : SimulatedWire P M) : Type 0 where
  pub ready : DevicePair P M
  pub ready_is : IsReady facts old ready
  pub new_is : new
      ≡ wire_before_call old
      (record ready { here = reached_by facts (fate_now old) old.device.far ready.here })
  pub answer_is : answer ≡ rate_found (fate_now old) old.device.far ready.here.device.far
  pub those : AreThose (sim_devices old) (sim_devices new)

-- An exchange

-- octets with bit 0 of the last one flipped
abbrev pub damaged_octets : List ℕ → List ℕ
damaged_octets octets = with_flip octets (length octets - 1) 0

-- the far end after an exchange; more than 66 octets, which no layout has, are lost
-- where they would be damaged
module _ {P M : Type 0} (facts : BesideFacts P M) where
  abbrev pub stand_after_exchange : Fate → Stand P M → List ℕ → Stand P M
  stand_after_exchange Clean here sent = after_hearing facts here sent
  stand_after_exchange BackLost here sent = after_hearing facts here sent
  stand_after_exchange BackDamaged here sent = after_hearing facts here sent
  stand_after_exchange OutDamaged here sent =
      if nat_le (length sent) 66 then after_hearing facts here (damaged_octets sent) else here
  stand_after_exchange fate here sent = here

-- what comes back
abbrev pub reply_by : Fate → Far → List ℕ → Option (List ℕ)
reply_by Clean far sent = (hear far sent).reply
reply_by BackDamaged far sent = option_map damaged_octets (hear far sent).reply
reply_by OutDamaged far sent =
    if nat_le (length sent) 66 then (hear far (damaged_octets sent)).reply else None
reply_by fate far sent = None

-- only a clean exchange brings an unaltered reply
abbrev pub silence_by_fate : Fate → ℕ → Option (List ℕ) → ℕ
silence_by_fate Clean silence reply = silence_after silence reply
silence_by_fate fate silence reply = silence_after silence None

pub record SimExchanges {P M : Type 0} (facts : BesideFacts P M) (old : SimulatedWire P M)
    (sent : List ℕ) (answer : Option (ArrayVec ℕ)) (new : SimulatedWire P M) : Type 0 where
  pub ready : DevicePair P M
  pub ready_is : IsReady facts old ready
  pub new_is : new
      ≡ record (wire_before_call old
      (record ready { here = stand_after_exchange facts (fate_now old) ready.here sent })) {
        silence =
            silence_by_fate (fate_now old) old.silence (octets_in answer);
      }
  pub answer_is : octets_in answer ≡ reply_by (fate_now old) ready.here.device.far sent
  pub those : AreThose (sim_devices old) (sim_devices new)

-- what it is to a contract, by what stands beside its devices; it is told nothing
abbrev pub sim_facts : {P M : Type 0} → BesideFacts P M → WireFacts (SimulatedWire P M)
sim_facts facts = record {
  honest = has_one_device;
  far = λ sim. sim.device.far;
  silence = λ sim. sim.silence;
  clean = is_clean facts;
  wake_gives = SimWakes facts;
  exchange_gives = SimExchanges facts;
}
