-- What the far end does by itself.
use Rattle.std.proofs.Common.{refl, sym, ap, ◌∙◌}
use Rattle.std.specs.Prelude.{◌≡◌, Bool, true, false, List, [], ◌∷◌, ◌++◌, Option, Some, None, IsTrue, MatchBool}
use Rattle.iol_isdu.specs.declared.values.Answer.{Answer}
use Rattle.iol_isdu.specs.declared.values.Request.{Request}
use Rattle.iol_far.specs.Isdu.{fits}
use Rattle.iol_far.specs.Far.{Far}
use Rattle.iol_far.specs.Local.{LocalStep, Carry, local, locals, has_room, IsWorkedOff}
use Rattle.iol_device.specs.App.{Gives, IsCarriedOut}

-- some steps of its own take the far end there
pub record Own (old new : Far) : Type 0 where
  pub steps : List LocalStep
  pub is : new ≡ locals old steps

-- and then some more
pub own_and : (a b c : Far) → Own a b → Own b c → Own a c
own_and a b c one two = record {
  steps = one.steps ++ two.steps;
  is = two.is ∙ ap (λ (f : Far). locals f two.steps) one.is ∙ sym (behind one.steps a);
}
  where
    behind : (steps : List LocalStep) (far : Far)
        → locals far (steps ++ two.steps) ≡ locals (locals far steps) two.steps
    behind [] far = refl
    behind (step ∷ steps) far = behind steps (local far step)

module _ {P : Type 0} (gives : Gives P) where
  -- what an application carried out is carried out at the far end, whatever the application is
  pub worked_off : (request : Option Request) (old new : Far) (before after : P)
      → IsCarriedOut gives request old before new after → IsWorkedOff request old new
  worked_off None old new before after h = h.0
  worked_off (Some request) old new before after h = by_room (has_room old) h
    where
      Carries : Type 0
      Carries = (answer : Answer) × gives before request answer after × IsTrue (fits request answer)
          × (new ≡ local old (Carry answer))

      by_room : (b : Bool) → MatchBool b Carries ((new ≡ old) × (after ≡ before))
          → MatchBool b
          ((answer : Answer) × IsTrue (fits request answer) × (new ≡ local old (Carry answer)))
          (new ≡ old)
      by_room true h = (h.0, h.2, h.3)
      by_room false h = h.0

-- which is one step, or none
pub worked_own : (request : Option Request) (old new : Far) → IsWorkedOff request old new
    → Own old new
worked_own None old new h = record { steps = []; is = h }
worked_own (Some request) old new h = by_room (has_room old) h
  where
    by_room : (b : Bool) → MatchBool b
        ((answer : Answer) × IsTrue (fits request answer) × (new ≡ local old (Carry answer)))
        (new ≡ old) → Own old new
    by_room true h = record { steps = Carry h.0 ∷ []; is = h.2 }
    by_room false h = record { steps = []; is = h }
