-- What the far end does by itself, in the session's part: it is allowed, and leaves what the
-- record and the choices say.
-- For the clauses of `laws::receive_gives`, `laws::rise_gives`, `laws::wake_gives` and 15 more.
use Rattle.std.proofs.Common.{◌≡◌, ℕ, Bool, true, false, List, [], ◌∷◌, refl, subst, arith}
use Rattle.std.proofs.lemmas.Grind.{common_steps}
use Rattle.std.specs.Prelude.{Option, Some, None, if◌then◌else◌, IsSome, IsTrue, ⊤}
use Rattle.iol_mseq.specs.declared.master.MasterMsg.{MasterMsg}
use Rattle.iol_isdu.specs.declared.values.Request.{Request}
use Rattle.iol_link.specs.Honest.{Passage, OutLost, far_after}
use Rattle.iol_far.specs.declared.carried.Carried.{Carried}
use Rattle.iol_far.specs.Isdu.{IsduState, Handed}
use Rattle.iol_far.specs.Far.{Far, far_in_mode, hear, heard_as}
use Rattle.iol_far.specs.Local.{LocalStep, local, locals, far_after_wake}
use Rattle.iol_app.specs.Abstract.Steps.{PortStep, Moment, may_repeat, TakesSteps}
use Rattle.iol_app.specs.Abstract.Session.{session_after, MaySession}
use Rattle.iol_app.proofs.Parts.{runs-append, own_runs}
use Rattle.iol_app.specs.Abstract.OfDevice.{Hidden, IsOpen, redeliver_steps, hidden_redelivered, own_steps, hidden_after, hidden_through, worked_steps, heard_steps_as, heard_steps, passed_steps, exchange_steps, wake_steps}
use Rattle.iol_app.specs.Abstract.Shown.{MasterFields}
use Rattle.iol_app.specs.Abstract.Shown.{session_of}
use Rattle.iol_app.proofs.Accepted.{by_accepted}

-- these steps are allowed in the session's part, and leave these choices and this record
abbrev pub SessionRuns : Moment → MasterFields → Hidden → List Carried → List PortStep
    → MasterFields → Hidden
    → List Carried → Type 0
SessionRuns m fields h carried steps fields' h' carried' =
    TakesSteps (MaySession m) session_after (session_of fields h carried) steps
    (session_of fields' h' carried')

pub own_open_step : (request : Option Request) (h : Hidden) (far : Far) (step : LocalStep)
    → IsOpen far.isdu request h → IsOpen (local far step).isdu request
    (hidden_after request far step h)
own_open_step request h far step opens = grind (arith, common_steps)

pub own_open : (request : Option Request) (h : Hidden) (steps : List LocalStep) (far : Far)
    → IsOpen far.isdu request h → IsOpen (locals far steps).isdu request
    (hidden_through request far steps h)
own_open request h [] far opens = opens
own_open request h (step ∷ steps) far opens =
    own_open request (hidden_after request far step h) steps (local far step)
    (own_open_step request h far step opens)

-- a wake that takes effect, or doesn't
abbrev pub woken_if : Bool → Far → Far
woken_if wakes far = if wakes then far_after_wake far else far

-- what holds of a far end once it was woken or as it was
pub woken_as : (P : Far → Type 0) (wakes : Bool) (far : Far) → P (far_after_wake far) → P far
    → P (woken_if wakes far)
woken_as P true far h k = h
woken_as P false far h k = k

-- the device may carry out again what it is handed
abbrev pub MayRedeliver : (Request → Bool) → Option Request → IsduState → Hidden → Type 0
MayRedeliver repeats (Some request) (Handed held) h = IsSome h.answer → IsTrue (repeats request)
MayRedeliver repeats request state h = ⊤

-- What the session shows stays
module _ (m : Moment) (fields : MasterFields) where
  abbrev Leaves : Hidden → Far → List PortStep → Hidden → Far → Type 0
  Leaves h far steps h' far' = SessionRuns m fields h far.carried steps fields h' far'.carried

  -- all own steps of a call
  own_session : (h : Hidden) (steps : List LocalStep) (far : Far) → IsOpen far.isdu fields.request h
      → Leaves h far (own_steps fields.request far steps)
      (hidden_through fields.request far steps h)
      (locals far steps)
  own_session h steps far = own_runs (MaySession m) session_after fields.request
      (λ f k. session_of fields k f.carried) (λ f k. IsOpen f.isdu fields.request k)
      (hidden_after fields.request) (λ f step k. own_open_step fields.request k f step)
      (λ f step k opens. grind (arith, common_steps)) far steps h

  -- What is heard and a wake: nothing of the session's

  worked_session : (h : Hidden) (there : Far) (o : List ℕ) (msg : MasterMsg)
      → Leaves h there (worked_steps there o msg) h there
  worked_session h there o msg = grind (arith, common_steps)

  heard_session : (h : Hidden) (far : Far) (o : List ℕ)
      → Leaves h far (heard_steps far o) h (hear far o).far
  heard_session h far o = by_accepted
      (λ q. Leaves h far (heard_steps_as q o) h (heard_as far o q).far)
      far o (tt, refl) (λ awake msg spells. worked_session h far o msg)
      (λ awake command w msg spells. worked_session h (far_in_mode far command.into) o msg)

  passed_session : (h : Hidden) (passage : Passage) (far : Far) (o : List ℕ)
      → Leaves h far (passed_steps passage far o) h (far_after passage far o)
  passed_session h OutLost far o = (tt, refl)
  passed_session h other far o = heard_session h far o

  -- the far end's part of an exchange
  pub exchange_session : (h : Hidden) (far : Far) (steps : List LocalStep) (passage : Passage)
      (o : List ℕ) → IsOpen far.isdu fields.request h
      → Leaves h far (exchange_steps fields.request far steps passage o)
      (hidden_through fields.request far steps h) (far_after passage (locals far steps) o)
  exchange_session h far steps passage o opens =
      runs-append (MaySession m) session_after _ _ _ (own_session h steps far opens)
      (passed_session (hidden_through fields.request far steps h) passage (locals far steps) o)

  -- its answer is taken back, where the device may carry out again what it is handed
  pub redeliver_session : (h : Hidden) (state : IsduState) (c : List Carried)
      → MayRedeliver (may_repeat m.terms) fields.request state h
      → SessionRuns m fields h c (redeliver_steps fields.request state h) fields
      (hidden_redelivered fields.request state h) c
  redeliver_session h state c may = grind (arith, common_steps)

  -- the far end's part of a wake; no request is under way
  pub wake_session : (h : Hidden) (far : Far) (steps : List LocalStep) (wakes : Bool)
      → fields.request ≡ None → IsOpen far.isdu fields.request h
      → Leaves h far (wake_steps far steps wakes) (hidden_through None far steps h)
      (woken_if wakes (locals far steps))
  wake_session h far steps wakes free opens = runs-append (MaySession m) session_after _ _ _
      (subst (λ (r : Option Request). Leaves h far (own_steps r far steps)
      (hidden_through r far steps h) (locals far steps)) free (own_session h steps far opens))
      (grind (arith, common_steps))
