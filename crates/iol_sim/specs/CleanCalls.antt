-- Each call of a clean wire is clean, and leaves it so.
use Rattle.std.proofs.Common.{◌≡◌, ℕ, Bool, true, false, List, [], refl, ap, subst, ◌∙◌, Option}
use Rattle.std.specs.Prelude.{IsTrue, not, ◌&&◌}
use Rattle.arrayvec.specs.ArrayVec.{ArrayVec}
use Rattle.iol_device.specs.Device.{Running}
use Rattle.iol_far.specs.Octets.{octets_in}
use Rattle.iol_link.specs.Honest.{CleanExchange}
use Rattle.iol_link.specs.declared.wire.Rate.{Rate}
use Rattle.iol_sim.specs.declared.script.Step.{Step}
use Rattle.iol_sim.specs.Beside.{Stand, BesideFacts, stand}
use Rattle.iol_sim.specs.Script.{DevicePair, HereWorks}
use Rattle.iol_sim.specs.Sim.{SimulatedWire, is_ended, is_clean, SimWakes, SimExchanges}

never : {A : Type 0} → false ≡ true → A
never e = absurd (cc)

module _ {P M : Type 0} (facts : BesideFacts P M) where
  -- what holds of each clean wire holds of every wire that is clean
  by_clean : (Q : SimulatedWire P M → Type 0)
      → (IsTrue facts.is_plain → (device : Running P) (beside : M) (away : Option (Stand P M))
      (silence refused : ℕ) → Q (record {
        device = device;
        beside = beside;
        away = away;
        steps = [];
        auto = true;
        silent = false;
        silence = silence;
        refused_events = refused;
      })) → (old : SimulatedWire P M) → IsTrue (is_clean facts old) → Q old
  by_clean Q holds old clean = by facts.is_plain old.steps old.auto old.silent holds clean
    where
      by : (plain : Bool) (steps : List Step) (auto silent : Bool)
          → (IsTrue plain → (device : Running P) (beside : M) (away : Option (Stand P M))
          (silence refused : ℕ) → Q (record {
            device = device;
            beside = beside;
            away = away;
            steps = [];
            auto = true;
            silent = false;
            silence = silence;
            refused_events = refused;
          })) → (plain && is_ended steps && auto && not silent) ≡ true
          → Q (record old { steps = steps; auto = auto; silent = silent })
      by true [] true false h e =
          h refl old.device old.beside old.away old.silence old.refused_events
      by plain steps auto silent h e = never e

  pub exchanges_cleanly : (old : SimulatedWire P M) (sent : List ℕ) (answer : Option (ArrayVec ℕ))
      (new : SimulatedWire P M) → IsTrue (is_clean facts old)
      → SimExchanges facts old sent answer new
      → CleanExchange old.device.far sent (octets_in answer) new.device.far
      × IsTrue (is_clean facts new)
  exchanges_cleanly old sent answer new clean =
      by_clean (λ (s : SimulatedWire P M). SimExchanges facts s sent answer new
      → CleanExchange s.device.far sent (octets_in answer) new.device.far
      × IsTrue (is_clean facts new)) (λ plain device beside away silence refused x.
      let worked : HereWorks facts
      (record { here = stand device beside; away = away; refused_events = refused }) x.ready =
      subst (λ (d : DevicePair P M). HereWorks facts d x.ready) x.ready_is.steps
      x.ready_is.work in (
        record {
          ready = x.ready.here.device.far;
          work = facts.works_off plain (stand device beside) x.ready.here worked.works;
          far_is = ap (λ (s : SimulatedWire P M). s.device.far) x.new_is;
          answer_is = x.answer_is;
        },
        ap (λ (s : SimulatedWire P M). is_clean facts s) x.new_is
            ∙ ap (λ b. b && true && true && true) plain,
      )) old clean

  pub wakes_cleanly : (old : SimulatedWire P M) (answer : Option Rate) (new : SimulatedWire P M)
      → IsTrue (is_clean facts old) → SimWakes facts old answer new → IsTrue (is_clean facts new)
  wakes_cleanly old answer new clean =
      by_clean (λ (s : SimulatedWire P M). SimWakes facts s answer new
      → IsTrue (is_clean facts new))
      (λ plain device beside away silence refused x.
      ap (λ (s : SimulatedWire P M). is_clean facts s) x.new_is
      ∙ ap (λ b. b && true && true && true) plain) old clean
