-- A wake.
-- For the clauses of `laws::wake_gives`.
use Rattle.std.proofs.Common.{◌≡◌, ◌≢◌, inl, inr, ℕ, ◌≤◌, Bool, true, false, List, [], ◌∷◌, refl, ◌∙◌, ap, arith}
use Rattle.std.proofs.lemmas.Grind.{common_steps}
use Rattle.std.specs.Prelude.{None}
use Rattle.iol_event.specs.declared.event.Event.{Event}
use Rattle.iol_far.specs.Far.{Far, hear}
use Rattle.iol_far.specs.Local.{locals, far_after_wake}
use Rattle.iol_far.specs.Laws.{RepliesAreRead, InputStaysSized, MuchStays, LevelLaws, EventLaws, ModesHaveLayouts}
use Rattle.iol_far.specs.Linked.{TextsAreHeard}
use Rattle.iol_far.specs.Orderly.{IsToPage, OrderlyLaws}
use Rattle.iol_link.specs.Honest.{HonestWake, SeenWake, UnseenWake, BackLost, test_read}
use Rattle.iol_mode.specs.declared.configuration.Devices.{Devices}
use Rattle.iol_mode.specs.declared.configuration.Devices.TheVariants.{Own, Any}
use Rattle.iol_mode.specs.declared.states.Down.{Down}
use Rattle.iol_mode.specs.declared.states.State.{State}
use Rattle.iol_mode.specs.declared.states.State.TheVariants.{Down as AtDown}
use Rattle.iol_mode.specs.declared.why.Why.TheVariants.{NoWake}
use Rattle.iol_mode.specs.Messages.{page_read}
use Rattle.iol_app.specs.Abstract.Session.{MayReset}
use Rattle.iol_mode.specs.States.{StateFits, IsDown, next_state, mode_after_wake}
use Rattle.iol_mode.specs.Stands.{StateStands}
use Rattle.iol_app.specs.declared.mode.Mode.TheVariants.{Down as ModeDown, Operate as ModeOperate}
use Rattle.iol_app.specs.declared.report.Said.TheVariants.{Idle}
use Rattle.iol_app.specs.Abstract.Steps.{Start, Reset, Woke}
use Rattle.iol_app.proofs.AllLaws.{Laws, all_laws}
use Rattle.iol_app.proofs.OwnSession.{woken_if}
use Rattle.iol_app.proofs.Orderly.{orderly_locals, alike_sent, test_confirms, test_to_page}
use Rattle.iol_app.proofs.Effects.{Effect, shown_effect, passed_effect, opens_passed, unreported_of, gives, loses}
use Rattle.iol_app.proofs.Shown.{shown_as}
use Rattle.iol_app.proofs.PastPart.{none_waits}
use Rattle.iol_app.specs.Requests.{request_under_way}
use Rattle.iol_app.specs.State.{SessionState}
use Rattle.iol_app.specs.StationState.{settled_session, waked_session}
use Rattle.iol_app.specs.Core.{CoreState, Ghost}
use Rattle.iol_app.specs.CoreStands.{BothEndsStand}
use Rattle.iol_app.specs.CoreGives.{CallGives}
use Rattle.iol_app.specs.CoreTurns.{WakesDevice, after_wake}

-- the core after a wake of a port for these devices
abbrev woken_by : Devices → Bool → SessionState → CoreState
woken_by devices answered t = record {
  state = next_state (mode_after_wake devices answered);
  session = settled_session (mode_after_wake devices answered) (waked_session answered t);
}

may_reset : (devices : Devices) → devices ≡ Own → MayReset devices ModeDown (Woke true)
may_reset devices e = grind (arith, common_steps)

module _ (s : Down) (t : SessionState) (g : Ghost) (far : Far) (silence : ℕ)
    (stands : BothEndsStand (record { state = AtDown s; session = t }) g far silence) where
  abbrev c : CoreState
  c = record { state = AtDown s; session = t }

  free : request_under_way t.current ≡ None
  free = ap request_under_way stands.joined.0

  below : ModeDown ≢ ModeOperate
  below e = absurd (cc)

  no_image : t.image ≡ None
  no_image = stands.shown.image below

  abbrev Gives : Devices → Bool → Far → Type 0
  Gives devices answered far' = StateStands (next_state (mode_after_wake devices answered))
      silence far'
      → StateFits (next_state (mode_after_wake devices answered))
      → CallGives c g far silence Idle (woken_by devices answered t) far' silence

  -- a port for any device knows nothing of it yet
  starts : (far' : Far) → Effect c g far far' silence silence → t.configuration.devices ≡ Any
      → Gives Any true far'
  starts far' effect any link fits =
      gives c g far far' silence silence effect stands below (Woke true) (Start ∷ [])
      (woken_by Any true t) effect.hidden false (record {
        limit = refl;
        configuration = refl;
        brings = refl;
        reports = refl;
        book = refl;
        session = (((any, refl, refl), tt), rw free refl);
        frozen = ((tt, tt), unreported_of far'.events.frozen effect.reported);
        images = ((tt, tt), refl);
        image = no_image;
        left = record {
          request = (λ b. absurd (cc b), effect.opens, refl, λ _. any);
          events = (refl, refl);
          output = (refl, λ b. absurd (cc b));
          quiet = tt;
        };
        sent = stands.sent;
        shown = shown_as stands.shown (λ e. no_image) refl tt refl;
      }) tt refl fits link (stands.joined, tt)

  -- our own device was reset
  resets : (there : Far) → Effect c g far (far_after_wake there) silence silence
      → t.configuration.devices ≡ Own
      → Gives Own true (far_after_wake there)
  resets there effect own link fits =
      gives c g far (far_after_wake there) silence silence effect stands below (Woke true)
      (Reset ∷ []) (woken_by Own true t) (record effect.hidden { late = None }) false (record {
        limit = refl;
        configuration = refl;
        brings = refl;
        reports = refl;
        book = refl;
        session = ((may_reset t.configuration.devices own, tt), rw free refl);
        frozen = ((tt, tt), unreported_of (far_after_wake there).events.frozen effect.reported);
        images = ((tt, tt), refl);
        image = no_image;
        left = record {
          request = (λ b. refl, tt, refl, λ b. absurd (cc b));
          events = (refl, refl);
          output = (refl, λ b. record { unacknowledged = refl; off = λ a. refl; waits = tt });
          quiet = tt;
        };
        sent = stands.sent;
        shown = shown_as stands.shown (λ e. no_image) refl tt refl;
      }) tt refl fits link (stands.joined, tt)

  -- no rate is answered
  fails : (far' : Far) → Effect c g far far' silence silence → (devices : Devices)
      → Gives devices false far'
  fails far' effect devices link fits =
      loses c g far far' silence silence effect stands below (Woke false) NoWake free refl refl
      tt refl

  -- a rate is answered
  answers : (there : Far) → Effect c g far (far_after_wake there) silence silence
      → (devices : Devices)
      → t.configuration.devices ≡ devices → Gives devices true (far_after_wake there)
  answers there effect Any any = starts (far_after_wake there) effect any
  answers there effect Own own = resets there effect own

  -- a wake that it doesn't see
  no_pulse : (after : Far) → Effect c g far after silence silence → far.misses_pulses ≡ true
      → (answered : Bool)
      (devices : Devices) → t.configuration.devices ≡ devices → Gives devices answered after
  no_pulse after effect misses false devices e = fails after effect devices
  no_pulse after effect misses true Any any = starts after effect any
  no_pulse after effect misses true Own own =
      absurd (let sees : far.misses_pulses ≡ false = rw own at stands.sees in cc)

  -- from the wire's own words
  module _ (laws : Laws) (leaves : OrderlyLaws) (heard : TextsAreHeard) where
    by_pulse : (far' : Far) (answered : Bool) → SeenWake far answered far'
        → Gives t.configuration.devices answered far'
    by_pulse far' true w =
        let there : Far = locals far w.steps in
        let is : far' ≡ far_after_wake there = w.far_is
        ∙ ap (λ (b : Bool). woken_if b there) (w.answered_is refl) in
        rw is (answers there (shown_effect c g far laws free stands.request
        (none_waits far.events w.regular.memory) w.steps silence refl true) _ refl)
    by_pulse far' false w = rw w.far_is (fails (woken_if w.wakes (locals far w.steps))
        (shown_effect c g far laws free stands.request (none_waits far.events w.regular.memory)
        w.steps silence refl w.wakes)
        t.configuration.devices)

    by_no_pulse : (far' : Far) (answered : Bool) → UnseenWake far answered far'
        → Gives t.configuration.devices answered far'
    by_no_pulse far' answered w =
        let there : Far = locals far w.steps in
        let to_page : IsToPage test_read (page_read 2) = test_to_page heard in
        rw w.far_is (no_pulse (hear there test_read).far
        (passed_effect c g far laws free stands.request (none_waits far.events w.regular.memory)
        w.steps silence silence BackLost test_read
        (λ call fits silent k. absurd (rw k at fits)) test_confirms
        (opens_passed g.request.hidden far w.steps BackLost test_read
        (leaves.holds there test_read (page_read 2) to_page) stands.request)
        (alike_sent leaves g.sent there test_read (page_read 2) to_page
        (orderly_locals leaves far w.steps w.orderly))) w.misses answered _ refl)

wakes_at : Laws → OrderlyLaws → TextsAreHeard → (state : State) (t : SessionState) (g : Ghost)
    (far far' : Far) (n : ℕ) (answered : Bool)
    → BothEndsStand (record { state = state; session = t }) g far n → IsDown state
    → HonestWake far answered far'
    → StateStands (next_state (mode_after_wake t.configuration.devices answered)) n far'
    → StateFits (next_state (mode_after_wake t.configuration.devices answered))
    → CallGives (record { state = state; session = t }) g far n Idle (after_wake answered t) far' n
wakes_at laws leaves heard (AtDown s) t g far far' n answered stands down (inl w) =
    by_pulse s t g far n stands laws leaves heard far' answered w
wakes_at laws leaves heard (AtDown s) t g far far' n answered stands down (inr w) =
    by_no_pulse s t g far n stands laws leaves heard far' answered w
wakes_at laws leaves heard other t g far far' n answered stands down w = absurd down

pub wakes : ((size : ℕ) → 1 ≤ size → LevelLaws size) → MuchStays → RepliesAreRead
    → InputStaysSized → ((first : Event) (rest : List Event) → EventLaws first rest)
    → ModesHaveLayouts → OrderlyLaws → TextsAreHeard → WakesDevice
wakes level much reads sized events layouts leaves heard = record {
  gives = λ c.
      wakes_at (all_laws level much reads sized events layouts) leaves heard c.state c.session;
}
