-- Which devices a kept state stands for, and the law of the judge.
use Rattle.std.specs.Prelude.{◌≡◌, ◌≢◌, ◌⊎◌, ◌≤◌, ℕ, zero, suc, Bool, true, false, if◌then◌else◌, List, [], ◌∷◌, length, slice_index_or, Option, None, IfSome}
use Rattle.iol_event.specs.declared.event.Event.{Event}
use Rattle.iol_event.specs.Memory.{Events, event_octet}
use Rattle.iol_far.specs.Far.{Far}
use Rattle.iol_far.specs.Level.{link_of}
use Rattle.iol_far.specs.Local.{LocalStep, locals, far_after_wake}
use Rattle.iol_link.specs.Honest.{HonestExchange, SeenWake}
use Rattle.iol_judge.specs.declared.events.FilledPlaces.{FilledPlaces}
use Rattle.iol_judge.specs.declared.events.ShownEvents.{ShownEvents}
use Rattle.iol_judge.specs.declared.events.ShownEvents.TheVariants.{Held, Any, Fresh, Filled}
use Rattle.iol_judge.specs.declared.reason.Reason.{Reason}
use Rattle.iol_judge.specs.declared.transfer.Transfer.TheVariants.{Quiet}
use Rattle.iol_judge.specs.declared.verdict.Verdict.{Verdict}
use Rattle.iol_judge.specs.declared.verdict.Verdict.TheVariants.{Honest, NotHonest}
use Rattle.iol_far.specs.declared.mode.DeviceMode.{DeviceMode}
use Rattle.iol_judge.specs.declared.verdict.Odd.{Odd}
use Rattle.iol_judge.specs.declared.verdict.Wake.{Wake}
use Rattle.iol_judge.specs.declared.verdict.Wake.TheVariants.{Answered, Unanswered}
use Rattle.iol_judge.specs.Octets.{Agrees}
use Rattle.iol_judge.specs.Observed.{whole_page}
use Rattle.iol_judge.specs.State.{KnownState}
use Rattle.iol_judge.specs.Family.{admits_kind}
use Rattle.iol_judge.specs.UnderWay.{HasUnderWay}
use Rattle.iol_judge.specs.Judged.{JudgeState, new_judge, judge_after_exchange, judge_resumed, kinds_left, judge_after_wake}

-- the hold is over, and only during it events wait while none is frozen
pub record IsReleased (memory : Events) : Type 0 where
  pub free : memory.held ≡ false
  pub waits : memory.frozen ≡ [] → memory.waiting ≡ []

-- so many events are frozen, with these octets
pub record AreIn (places : FilledPlaces) (frozen : List Event) : Type 0 where
  pub least : places.least ≤ length frozen
  pub most : length frozen ≤ places.most
  pub octets : (place : ℕ) → IfSome (slice_index_or places.octets place None)
      (λ octet. event_octet frozen (suc place) ≡ octet)

-- the events of a device that is awake are as known
abbrev pub AreAsKnown : ShownEvents → Events → Type 0
AreAsKnown Held memory = (memory.held ≡ true) × (memory.frozen ≡ [])
AreAsKnown Any memory = IsReleased memory
AreAsKnown Fresh memory = IsReleased memory × (length memory.frozen ≤ 1)
AreAsKnown (Filled places) memory =
    IsReleased memory × (1 ≤ length memory.frozen) × AreIn places memory.frozen

-- A state stands for each device of its kinds in its mode, with its mode command waiting, its octet
-- at page address 0x01, its events and its ISDU transfer. One that sleeps had a power cycle, and
-- has at most one event, and no transfer. All else is free: whether it sleeps, process data, record
pub record Admits (state : KnownState) (far : Far) : Type 0 where
  pub kind : admits_kind state.kinds far.kind ≡ true
  pub link : link_of far ≡ state.link
  pub cycle : IfSome state.cycle (λ octet. far.cycle_time ≡ octet)
  pub events : AreAsKnown (if far.awake then state.events else Fresh) far.events
  pub isdu : HasUnderWay far (if far.awake then state.transfer else Quiet)

-- so it is of one of them
abbrev pub One : {S : Type 0} → (S → Type 0) → List S → Type 0
One Q [] = ⊥
One Q (item ∷ items) = Q item ⊎ One Q items

-- a device is among those that a verdict leaves possible: one of the states stands for it
abbrev pub IsPossible : Verdict → List KnownState → Far → Type 0
IsPossible Honest states far = One (λ state. Admits state far) states
IsPossible (NotHonest exchange reason) states far = ⊥
IsPossible verdict states far = Unit {0}

-- the judge says nothing against the device, and found nothing odd
pub record IsFair (judged : JudgeState) (far : Far) : Type 0 where
  pub page : Agrees judged.observed far.page
  pub state : IsPossible judged.verdict judged.states far
  pub odd : judged.oddities ≡ 0

-- Captures

abbrev pub is_answered : Wake → Bool
is_answered Answered = true
is_answered Unanswered = false

-- what goes over a line
pub data Passing : Type 0 where
  Wakes : Wake → Passing
  Passes : List ℕ → Option (List ℕ) → Passing

abbrev pub judge_after_passing : JudgeState → Passing → JudgeState
judge_after_passing judged (Wakes wake) = judge_after_wake judged wake
judge_after_passing judged (Passes sent answer) = judge_after_exchange judged sent answer

-- the judge, told a whole capture
abbrev pub judge_after_all : JudgeState → List Passing → JudgeState
judge_after_all judged [] = judged
judge_after_all judged (passing ∷ capture) =
    judge_after_all (judge_after_passing judged passing) capture

-- one wake of a device of any kind: some steps by itself, then the wake's effect or nothing; it is
-- answered only where it took effect
pub record IsWake (far : Far) (answered : Bool) (far_new : Far) : Type 0 where
  pub steps : List LocalStep
  pub wakes : Bool
  pub far_is : far_new ≡ (if wakes then far_after_wake (locals far steps) else locals far steps)
  pub answered_is : answered ≡ true → wakes ≡ true

-- so many wakes in a row, of which none was answered
abbrev pub AreUnanswered : Far → ℕ → Far → Type 0
AreUnanswered far zero far_new = far_new ≡ far
AreUnanswered far (suc count) far_new =
    (between : Far) × IsWake far false between × AreUnanswered between count far_new

-- a device brings this over a lossy line
abbrev pub IsHonest : Far → ℕ → Passing → Far → ℕ → Type 0
IsHonest far silence (Wakes wake) far_new silence_new =
    IsWake far (is_answered wake) far_new × (silence_new ≡ silence)
IsHonest far silence (Passes sent answer) far_new silence_new =
    HonestExchange far silence sent answer far_new silence_new

-- a device brings a whole capture over a lossy line
abbrev pub IsHonestRun : Far → ℕ → List Passing → Type 0
IsHonestRun far silence [] = Unit {0}
IsHonestRun far silence (passing ∷ capture) = (far_new : Far) × (silence_new : ℕ)
    × IsHonest far silence passing far_new silence_new × IsHonestRun far_new silence_new capture

-- the law: whatever device, of whatever kind, brings a capture over a lossy line, it is never
-- called not honest, and nothing in it is called odd, whatever is done with odd replies; and its
-- kind is among those that are left
pub record NeverBlamed : Type 0 where
  pub begins : (odd : Odd) (far : Far) → IsFair (new_judge odd) far
  -- its page, where it is told
  pub pages : (judged : JudgeState) (far : Far) → IsFair judged far
      → IsFair (record judged { observed = whole_page far.page }) far
  pub wakes_any : (judged : JudgeState) (far : Far) (wake : Wake) (far_new : Far)
      → IsWake far (is_answered wake) far_new → IsFair judged far
      → IsFair (judge_after_wake judged wake) far_new
  -- the last of a row, where the judge wasn't told those before it
  pub unseen : (judged : JudgeState) (far : Far) (count : ℕ) (between : Far) (wake : Wake)
      (far_new : Far) → AreUnanswered far count between
      → IsWake between (is_answered wake) far_new → IsFair judged far
      → IsFair (judge_after_wake judged wake) far_new
  -- one of our own kind
  pub wakes : (judged : JudgeState) (far : Far) (wake : Wake) (far_new : Far)
      → SeenWake far (is_answered wake) far_new → IsFair judged far
      → IsFair (judge_after_wake judged wake) far_new
  pub exchanges : (judged : JudgeState) (far : Far) (silence : ℕ) (sent : List ℕ)
      (answer : Option (List ℕ)) (far_new : Far) (silence_new : ℕ)
      → HonestExchange far silence sent answer far_new silence_new → IsFair judged far
      → IsFair (judge_after_exchange judged sent answer) far_new
  pub runs : (judged : JudgeState) (far : Far) → IsFair judged far
      → (silence : ℕ) (capture : List Passing) → IsHonestRun far silence capture
      → (exchange : ℕ) (reason : Reason)
      → (judge_after_all judged capture).verdict ≢ NotHonest exchange reason
  pub none_odd : (judged : JudgeState) (far : Far) → IsFair judged far
      → (silence : ℕ) (capture : List Passing) → IsHonestRun far silence capture
      → (judge_after_all judged capture).oddities ≡ 0
  pub kinds : (judged : JudgeState) (far : Far) → IsFair judged far
      → (silence : ℕ) (capture : List Passing) → IsHonestRun far silence capture
      → admits_kind (kinds_left (judge_after_all judged capture)) far.kind ≡ true

-- its event hold is on, or over
abbrev pub IsHoldKnown : Events → Type 0
IsHoldKnown memory = AreAsKnown Held memory ⊎ AreAsKnown Any memory

-- the law of what isn't heard: a judge that was fair to a device is fair to it again once it is
-- told its mode, whatever went over the line meanwhile
abbrev pub ResumedIsFair : Type 0
ResumedIsFair = (judged : JudgeState) (before far : Far) → IsFair judged before
    → far.page ≡ before.page → far.awake ≡ true → IsHoldKnown far.events → (mode : DeviceMode)
    → link_of far ≡ record { mode = mode; waits = None } → IsFair (judge_resumed judged mode) far
