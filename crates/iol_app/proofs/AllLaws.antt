-- The laws of the device's definitions, all together.
-- For the clauses of `Core::turn`, `laws::receive_gives`, `laws::rise_gives` and 7 more.
use Rattle.std.proofs.Common.{◌≡◌, inl, inr, ℕ, suc, ◌≤◌, List, [], ◌∷◌, refl, ◌∙◌, arith}
use Rattle.std.proofs.lemmas.Grind.{common_steps}
use Rattle.iol_event.specs.declared.event.Event.{Event}
use Rattle.iol_link.specs.Honest.{Passage, OutLost, far_after}
use Rattle.iol_far.specs.declared.carried.Carried.{Carried}
use Rattle.iol_far.specs.Far.{Far}
use Rattle.iol_far.specs.Local.{LocalStep, local, locals}
use Rattle.iol_far.specs.Level.{Progress, FarLink, IsLevel}
use Rattle.iol_far.specs.declared.kind.Kind.{Kind}
use Rattle.iol_mode.specs.declared.configuration.Devices.{Devices}
use Rattle.iol_mode.specs.Kinds.{SeesPulses}
use Rattle.iol_far.specs.Laws.{IsSized, RepliesAreRead, InputStaysSized, MuchStays, LevelLaws, LevelStays, EventLaws, ModesHaveLayouts}

pub record Laws : Type 0 where
  pub level : (size : ℕ) → 1 ≤ size → LevelLaws size
  pub much : MuchStays
  pub reads : RepliesAreRead
  pub sized : InputStaysSized
  pub events : (first : Event) (rest : List Event) → EventLaws first rest
  pub layouts : ModesHaveLayouts

abbrev pub all_laws : ((size : ℕ) → 1 ≤ size → LevelLaws size) → MuchStays → RepliesAreRead
    → InputStaysSized → ((first : Event) (rest : List Event) → EventLaws first rest)
    → ModesHaveLayouts → Laws
all_laws level much reads sized events layouts =
    record {
      level = level;
      much = much;
      reads = reads;
      sized = sized;
      events = events;
      layouts = layouts;
    }

-- its device sees each pulse still
pub pulses_stay : (devices : Devices) (far far' : Far) → far'.misses_pulses ≡ far.misses_pulses
    → SeesPulses devices far → SeesPulses devices far'
pulses_stay devices far far' same h = grind (arith, common_steps)

-- what each of its own steps keeps
pub by_locals : (P : Far → Type 0) → ((far : Far) (step : LocalStep) → P far → P (local far step))
    → (steps : List LocalStep) (far : Far) → P far → P (locals far steps)
by_locals P keeps [] far h = h
by_locals P keeps (step ∷ steps) far h = by_locals P keeps steps (local far step) (keeps far step h)

-- whether its device sees pulses stays over an exchange
pub misses_passed : MuchStays → (passage : Passage) (steps : List LocalStep) (far : Far)
    (o : List ℕ) → (far_after passage (locals far steps) o).misses_pulses ≡ far.misses_pulses
misses_passed much OutLost steps far o = much.misses_stay far steps
misses_passed much other steps far o = much.misses_heard (locals far steps) o
    ∙ much.misses_stay far steps

module _ (laws : Laws) where
  pub page_locals : (steps : List LocalStep) (far : Far) → (locals far steps).page ≡ far.page
  page_locals steps far = by_locals (λ f. f.page ≡ far.page)
      (λ f step e. laws.much.page_stays f step ∙ e) steps far refl

  pub page_after : (passage : Passage) (far : Far) (o : List ℕ)
      → (far_after passage far o).page ≡ far.page
  page_after passage far o = grind (arith, common_steps)

  pub sized_locals : (steps : List LocalStep) (far : Far) → IsSized far → IsSized (locals far steps)
  sized_locals = by_locals IsSized laws.sized.steps

  pub kind_after : (passage : Passage) (far : Far) (o : List ℕ)
      → (far_after passage far o).kind ≡ far.kind
  kind_after passage far o = grind (arith, common_steps)

  module _ (page : List ℕ) (kind : Kind) (size : ℕ) (has : 1 ≤ size) (base : List Carried)
      (link : FarLink) (p : Progress) (o : List ℕ) where
    abbrev stays : LevelStays page kind size base link p o
    stays = (laws.level size has).stays page kind base link p o

    abbrev pub Level : ℕ → Far → Type 0
    Level most far = IsLevel page kind size base link p o most far

    pub level_locals : (most : ℕ) (steps : List LocalStep) (far : Far) → Level most far
        → Level most (locals far steps)
    level_locals most = by_locals (Level most) (stays.steps most)

    pub level_after : (most : ℕ) (passage : Passage) (far : Far) → Level most far
        → Level (suc most) (far_after passage far o)
    level_after most OutLost far h = stays.loses most far h
    level_after most other far h = stays.hears most far h

    -- more hearings are allowed
    pub level_more : (most more : ℕ) (far : Far) → most ≤ more → Level most far → Level more far
    level_more most more far few (inl h) = inl h
    level_more most more far few (inr (before, rest, h, heard, is)) =
        inr (before, rest, h, omega (arith, few, heard), is)
