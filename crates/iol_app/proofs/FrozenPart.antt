-- The frozen events: own steps, what is heard, and a wake are allowed there, and leave what the
-- far end's memory says.
-- For the clauses of `laws::receive_gives`, `laws::rise_gives` and `laws::wake_gives`.
use Rattle.std.proofs.lemmas.Grind.{common_steps}
use Rattle.std.proofs.Common.{◌≡◌, ℕ, Bool, true, List, ◌++◌, refl, sym, ◌∙◌, arith}
use Rattle.std.specs.Prelude.{Option, None, ⊤}
use Rattle.iol_mseq.specs.declared.master.MasterMsg.{MasterMsg}
use Rattle.iol_isdu.specs.declared.values.Request.{Request}
use Rattle.iol_event.specs.declared.event.Event.{Event}
use Rattle.iol_event.specs.Memory.{Events}
use Rattle.iol_link.specs.Honest.{Passage, OutLost, far_after}
use Rattle.iol_far.specs.Codec.{layout_in}
use Rattle.iol_far.specs.Isdu.{IsduState}
use Rattle.iol_far.specs.Far.{Far, far_in_mode, hear, heard_as, far_after_message, events_after}
use Rattle.iol_far.specs.Local.{LocalStep, locals}
use Rattle.iol_far.specs.Laws.{confirms as octets_confirm}
use Rattle.iol_app.specs.Abstract.Steps.{PortStep, ImageOctets, TakesSteps}
use Rattle.iol_app.specs.Abstract.Events.{frozen_after, MayFrozen}
use Rattle.iol_app.proofs.Parts.{runs-append, own_runs}
use Rattle.iol_app.specs.Abstract.OfDevice.{Hidden, redeliver_steps, own_steps, reported_after, reported_through, event_steps, output_steps, confirms_by, worked_steps, heard_steps_as, heard_steps, reported_worked, reported_heard_as, reported_heard, passed_steps, reported_passed, exchange_steps, reported_exchanged, wake_steps, reported_wake}
use Rattle.iol_app.specs.Abstract.Shown.{frozen_of}
use Rattle.iol_app.proofs.Accepted.{by_accepted}
use Rattle.iol_app.proofs.FirstOctet.{confirms_of}
use Rattle.iol_app.proofs.OwnSession.{woken_if}

-- these steps are allowed in the part of the frozen events, and leave this list, told or not
abbrev pub FrozenRuns : List Event → Bool → List PortStep → List Event → Bool → Type 0
FrozenRuns f reported steps f' reported' =
    TakesSteps MayFrozen frozen_after (frozen_of f reported) steps (frozen_of f' reported')

-- they leave the memory of this far end
abbrev Leaves : Far → Bool → List PortStep → Far → Bool → Type 0
Leaves far t steps far' t' = FrozenRuns far.events.frozen t steps far'.events.frozen t'

-- Own steps

own_frozen : (request : Option Request) (steps : List LocalStep) (far : Far) (t : Bool)
    → Leaves far t (own_steps request far steps) (locals far steps) (reported_through far steps t)
own_frozen request steps far t = own_runs MayFrozen frozen_after request
    (λ f t. frozen_of f.events.frozen t) (λ f t. ⊤) reported_after (λ f step t any. tt)
    (λ f step t any. grind (arith, common_steps)) far steps t tt

-- What is heard

event_frozen : (m : Events) (confirms : Bool) (t : Bool) → (confirms ≡ true → t ≡ true)
    → FrozenRuns m.frozen t (event_steps m confirms) (events_after m confirms).frozen
    (reported_worked m confirms t)
event_frozen m confirms t reported = grind (arith, common_steps)

output_frozen : (f : List Event) (t : Bool) (output : Option ImageOctets)
    → FrozenRuns f t (output_steps output) f t
output_frozen f t output = grind (arith, common_steps)

worked_frozen : (there : Far) (o : List ℕ) (m : MasterMsg) (t : Bool)
    → (confirms_by m.mc ≡ true → t ≡ true) → Leaves there t (worked_steps there o m)
    (far_after_message there o m) (reported_worked there.events (confirms_by m.mc) t)
worked_frozen there o m t reported = runs-append MayFrozen frozen_after _ _ _
    (event_frozen there.events (confirms_by m.mc) t reported) (output_frozen _ _ _)

-- a confirm that is accepted finds its list told
abbrev pub ConfirmsReported : List ℕ → Far → Bool → Type 0
ConfirmsReported o far t = far.awake ≡ true → octets_confirm o ≡ true → t ≡ true

heard_frozen : (far : Far) (o : List ℕ) (t : Bool) → ConfirmsReported o far t
    → Leaves far t (heard_steps far o) (hear far o).far (reported_heard far o t)
heard_frozen far o t reported =
    by_accepted (λ q. Leaves far t (heard_steps_as q o) (heard_as far o q).far
    (reported_heard_as q t))
    far o (tt, refl)
    (λ awake m spells. worked_frozen far o m t
    (λ c. reported awake (sym (confirms_of (layout_in far.page far.mode) o m spells) ∙ c)))
    (λ awake command w m spells. worked_frozen (far_in_mode far command.into) o m t
    (λ c. reported awake (sym (confirms_of (layout_in far.page command.into) o m spells) ∙ c)))

passed_frozen : (passage : Passage) (far : Far) (o : List ℕ) (t : Bool) → ConfirmsReported o far t
    → Leaves far t (passed_steps passage far o) (far_after passage far o)
    (reported_passed passage far o t)
passed_frozen OutLost far o t reported = (tt, refl)
passed_frozen other far o t reported = heard_frozen far o t reported

-- the far end's part of an exchange
pub exchange_frozen : (request : Option Request) (far : Far) (steps : List LocalStep)
    (passage : Passage) (o : List ℕ) (t : Bool)
    → ConfirmsReported o (locals far steps) (reported_through far steps t)
    → Leaves far t (exchange_steps request far steps passage o)
    (far_after passage (locals far steps) o) (reported_exchanged far steps passage o t)
exchange_frozen request far steps passage o t reported =
    runs-append MayFrozen frozen_after _ _ _ (own_frozen request steps far t)
    (passed_frozen passage (locals far steps) o (reported_through far steps t) reported)

-- the far end's part of a wake
pub wake_frozen : (far : Far) (steps : List LocalStep) (wakes : Bool) (t : Bool)
    → Leaves far t (wake_steps far steps wakes) (woken_if wakes (locals far steps))
    (reported_wake far steps wakes t)
wake_frozen far steps wakes t = runs-append MayFrozen frozen_after _ _ _
    (own_frozen None steps far t) (grind (arith, common_steps))

-- a request that is handed over again is no event's business
pub redeliver_frozen : (request : Option Request) (state : IsduState) (h : Hidden)
    (f f' : List Event) (reported reported' : Bool) (ys : List PortStep)
    → FrozenRuns f reported ys f' reported'
    → FrozenRuns f reported (redeliver_steps request state h ++ ys) f' reported'
redeliver_frozen request state h f f' reported reported' ys k = grind (arith, common_steps)
