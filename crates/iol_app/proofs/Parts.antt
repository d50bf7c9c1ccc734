-- Lists of steps in one part of the abstract port, one behind the other.
-- For the clauses of `laws::receive_gives`, `laws::rise_gives`, `laws::wake_gives` and 40 more.
use Rattle.std.proofs.Common.{◌≡◌, List, [], ◌∷◌, ◌++◌, refl}
use Rattle.std.specs.Prelude.{Option}
use Rattle.iol_isdu.specs.declared.values.Request.{Request}
use Rattle.iol_far.specs.Far.{Far}
use Rattle.iol_far.specs.Local.{LocalStep, local, locals}
use Rattle.iol_app.specs.Abstract.Steps.{PortStep, through_steps, TakesSteps}
use Rattle.iol_app.specs.Abstract.OfDevice.{own_step, own_steps}

-- a list of steps leaves what the rest leaves of what its beginning leaves
pub through_steps-append : {S : Type 0} (after : PortStep → S → S) (xs ys : List PortStep) (s : S)
    → through_steps after (xs ++ ys) s ≡ through_steps after ys (through_steps after xs s)
through_steps-append after [] ys s = refl
through_steps-append after (x ∷ xs) ys s = through_steps-append after xs ys (after x s)

module _ {S : Type 0} (May : PortStep → S → Type 0) (after : PortStep → S → S) where
  abbrev Takes : S → List PortStep → S → Type 0
  Takes = TakesSteps May after

  -- one list of steps after the other
  pub runs-append : (xs ys : List PortStep) (s : S) {s1 s2 : S} → Takes s xs s1 → Takes s1 ys s2
      → Takes s (xs ++ ys) s2
  runs-append [] ys s a b = rw a.1 b
  runs-append (x ∷ xs) ys s a b = let r = runs-append xs ys (after x s) (a.0.1, a.1) b in
      ((a.0.0, r.0), r.1)

  -- own steps: `x` is what is kept along with them, and `Fits` holds all the while
  module _ {X : Type 0} (request : Option Request) (at : Far → X → S) (Fits : Far → X → Type 0)
      (next : Far → LocalStep → X → X)
      (keeps : (far : Far) (step : LocalStep) (x : X) → Fits far x
      → Fits (local far step) (next far step x))
      (runs : (far : Far) (step : LocalStep) (x : X) → Fits far x
      → Takes (at far x) (own_step request far step) (at (local far step) (next far step x))) where
    abbrev pub left_through : Far → List LocalStep → X → X
    left_through far [] x = x
    left_through far (step ∷ steps) x = left_through (local far step) steps (next far step x)

    pub own_runs : (far : Far) (steps : List LocalStep) (x : X) → Fits far x
        → Takes (at far x) (own_steps request far steps)
        (at (locals far steps) (left_through far steps x))
    own_runs far [] x fits = (tt, refl)
    own_runs far (step ∷ steps) x fits = runs-append _ _ _ (runs far step x fits)
        (own_runs (local far step) steps (next far step x) (keeps far step x fits))
