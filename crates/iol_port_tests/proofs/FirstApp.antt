-- over every simulated wire a port leaves the devices of the opening, each with its first
-- application
-- For the clauses of `laws::each_app_follows_record`, `laws::first_app_follows_record` and
--     `laws::record_is_answered_by_the_first_params`.
use Rattle.std.proofs.Common.{◌≡◌, ◌⊎◌, inl, inr, List, [], ◌∷◌, Option, Some, None, option_map, refl, ap, subst, ◌∙◌}
use Rattle.iol_device.specs.App.{Gives, Follows}
use Rattle.iol_app.specs.declared.transmission.Transmission.{Transmission}
use Rattle.iol_app.specs.declared.transmission.Transmission.TheVariants.{Wake, Exchange}
use Rattle.iol_app.specs.Asking.{IsCall}
use Rattle.iol_port.specs.WireCalls.{AreCalls, ComesFrom}
use Rattle.iol_sim.specs.declared.params.ParameterEntry.{ParameterEntry}
use Rattle.iol_sim.specs.declared.beside.Nothing.{Nothing}
use Rattle.iol_sim.specs.Beside.{Stand, BesideFacts, plain_facts}
use Rattle.iol_sim.specs.Params.{Stores, AnsweredBy}
use Rattle.iol_sim.specs.Script.{firsts_of, firsts_after_swap, AreThose}
use Rattle.iol_sim.specs.Sim.{SimulatedWire, sim_devices, sim_facts}

turned_twice : {P : Type 0} (x : P × Option P) → firsts_after_swap (firsts_after_swap x) ≡ x
turned_twice (first, None) = refl
turned_twice (first, Some other) = refl

abbrev AreSame : {P : Type 0} → P × Option P → P × Option P → Type 0
AreSame x y = (y ≡ x) ⊎ (y ≡ firsts_after_swap x)

same_and : {P : Type 0} (x y z : P × Option P) → AreSame x y → AreSame y z → AreSame x z
same_and x y z (inl p) (inl q) = inl (q ∙ p)
same_and x y z (inl p) (inr q) = inr (q ∙ ap firsts_after_swap p)
same_and x y z (inr p) (inl q) = inr (q ∙ p)
same_and x y z (inr p) (inr q) = inl (q ∙ ap firsts_after_swap p ∙ turned_twice x)

-- of one device it is the first of the two
one_first : {P : Type 0} (x y : P × Option P) → AreSame x y → x.1 ≡ None → y.0 ≡ x.0
one_first (first, None) y (inl e) one = ap (λ (z : _ × Option _). z.0) e
one_first (first, None) y (inr e) one = ap (λ (z : _ × Option _). z.0) e
one_first (first, Some other) y same one = absurd (cc)

module _ {P M : Type 0} (facts : BesideFacts P M) where
  those_by : (asked : Transmission) (old new : SimulatedWire P M)
      → IsCall (sim_facts facts) asked old new
      → AreThose (sim_devices old) (sim_devices new)
  those_by Wake old new (answer, woken) = woken.those
  those_by (Exchange sent) old new (answer, exchanged) = exchanged.those

  those_through : (calls : List Transmission) (old new : SimulatedWire P M)
      → AreCalls (sim_facts facts) calls old new → AreThose (sim_devices old) (sim_devices new)
  those_through [] old new same = inl
      (ap (λ (s : SimulatedWire P M). firsts_of (sim_devices s)) same)
  those_through (asked ∷ calls) old new (mid, one, rest) =
      same_and (firsts_of (sim_devices old)) (firsts_of (sim_devices mid))
      (firsts_of (sim_devices new)) (those_by asked old mid one)
      (those_through calls mid new rest)

  pub those_now : (old new : SimulatedWire P M) → ComesFrom (sim_facts facts) old new
      → AreThose (sim_devices old) (sim_devices new)
  those_now old new (calls, through) = those_through calls old new through

pub follows_first : {P : Type 0} (gives : Gives P) (old new : SimulatedWire P Nothing)
    → ComesFrom (sim_facts (plain_facts gives)) old new
    → Follows gives new.device.first new.device.far.carried new.device.app
    → old.away ≡ None → Follows gives old.device.first new.device.far.carried new.device.app
follows_first {P} gives old new from follows one =
    subst (λ (first : P). Follows gives first new.device.far.carried new.device.app)
    (one_first (firsts_of (sim_devices old)) (firsts_of (sim_devices new))
    (those_now (plain_facts gives) old new from)
    (ap (option_map (λ (s : Stand P Nothing). s.device.first)) one)) follows

pub answered_first : (old new : SimulatedWire (List ParameterEntry) Nothing)
    → ComesFrom (sim_facts (plain_facts Stores)) old new
    → AnsweredBy new.device.first new.device.far.carried new.device.app
    → old.away ≡ None → AnsweredBy old.device.first new.device.far.carried new.device.app
answered_first old new from answered one =
    subst (λ (first : List ParameterEntry). AnsweredBy first new.device.far.carried new.device.app)
    (one_first (firsts_of (sim_devices old)) (firsts_of (sim_devices new))
    (those_now (plain_facts Stores) old new from)
    (ap (option_map (λ (s : Stand (List ParameterEntry) Nothing). s.device.first)) one)) answered
