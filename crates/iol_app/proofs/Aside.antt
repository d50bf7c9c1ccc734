-- The steps of the far end make no message, and say nothing to the book nor of reports: what a call
-- says is what the steps of the master beside them say.
-- For the clauses of `laws::receive_gives`, `laws::rise_gives` and `laws::wake_gives`.
use Rattle.std.proofs.Common.{◌≡◌, ℕ, Bool, true, false, not, ◌&&◌, List, [], ◌∷◌, ◌++◌, filter, arith}
use Rattle.std.proofs.lemmas.Grind.{common_steps}
use Rattle.std.specs.Prelude.{Option, Some, None, ⊤}
use Rattle.iol_mseq.specs.declared.master.MasterMsg.{MasterMsg}
use Rattle.iol_isdu.specs.declared.values.Request.{Request}
use Rattle.iol_event.specs.Memory.{Events}
use Rattle.iol_link.specs.Honest.{Passage, OutLost}
use Rattle.iol_far.specs.Isdu.{IsduState}
use Rattle.iol_far.specs.Far.{Far, accepted_message, far_after_message, output_of}
use Rattle.iol_far.specs.Local.{LocalStep, local, locals}
use Rattle.iol_app.specs.Abstract.Steps.{PortStep, ImageOctets, is_report}
use Rattle.iol_app.specs.Abstract.OfMaster.{is_for_book}
use Rattle.iol_app.specs.Abstract.OfDevice.{Hidden, redeliver_steps, own_step, own_steps, release_steps, event_steps, output_steps, confirms_by, heard_steps_as, passed_steps, exchange_steps, woken_steps, wake_steps}

-- a step that stands aside of what a call says
abbrev is_aside : PortStep → Bool
is_aside step = not (is_for_book step) && not (is_report step)

abbrev EachAside : List PortStep → Type 0
EachAside [] = ⊤
EachAside (x ∷ xs) = (is_aside x ≡ true) × EachAside xs

aside-append : (xs ys : List PortStep) → EachAside xs → EachAside ys → EachAside (xs ++ ys)
aside-append [] ys h k = k
aside-append (x ∷ xs) ys h k = (h.0, aside-append xs ys h.1 k)

-- what a call says is what the steps behind these say
pub record Aside (xs ys : List PortStep) : Type 0 where
  pub book : filter is_for_book (xs ++ ys) ≡ filter is_for_book ys
  pub reports : filter is_report (xs ++ ys) ≡ filter is_report ys

each_aside : (xs ys : List PortStep) → EachAside xs → Aside xs ys
each_aside [] ys h = grind (arith, common_steps)
each_aside (x ∷ xs) ys h = let rest = each_aside xs ys h.1 in grind (arith, common_steps, h.0)

own_step_aside : (request : Option Request) (far : Far) (step : LocalStep)
    → EachAside (own_step request far step)
own_step_aside request far step = grind (arith, common_steps)

own_aside : (request : Option Request) (steps : List LocalStep) (far : Far)
    → EachAside (own_steps request far steps)
own_aside request [] far = tt
own_aside request (step ∷ steps) far =
    aside-append _ _ (own_step_aside request far step) (own_aside request steps (local far step))

output_aside : (output : Option ImageOctets) → EachAside (output_steps output)
output_aside output = grind (arith, common_steps)

events_aside : (e : Events) (confirm : Bool) → EachAside (event_steps e confirm)
events_aside e confirm = grind (arith, common_steps)

release_aside : (e : Events) → EachAside (release_steps e)
release_aside e = grind (arith, common_steps)

heard_aside : (heard : Option (Far × MasterMsg)) (o : List ℕ) → EachAside (heard_steps_as heard o)
heard_aside None o = tt
heard_aside (Some (there, m)) o =
    aside-append _ _ (events_aside there.events (confirms_by m.mc))
    (output_aside (output_of (far_after_message there o m)))

passed_aside : (passage : Passage) (far : Far) (o : List ℕ)
    → EachAside (passed_steps passage far o)
passed_aside OutLost far o = tt
passed_aside other far o = heard_aside (accepted_message far o) o

-- an exchange
pub exchange_aside : (request : Option Request) (far : Far) (steps : List LocalStep)
    (passage : Passage) (o : List ℕ) (ys : List PortStep)
    → Aside (exchange_steps request far steps passage o) ys
exchange_aside request far steps passage o ys =
    each_aside _ ys (aside-append _ _ (own_aside request steps far)
    (passed_aside passage (locals far steps) o))

-- a request that is handed over again
pub redeliver_aside : (request : Option Request) (state : IsduState) (h : Hidden)
    (ys : List PortStep)
    → Aside (redeliver_steps request state h) ys
redeliver_aside request state h ys = grind (arith, common_steps)

woken_aside : (wakes : Bool) (far : Far) → EachAside (woken_steps wakes far)
woken_aside true far = aside-append _ _ (release_aside far.events) (output_aside None)
woken_aside false far = tt

-- and a wake
pub wake_aside : (far : Far) (steps : List LocalStep) (wakes : Bool) (ys : List PortStep)
    → Aside (wake_steps far steps wakes) ys
wake_aside far steps wakes ys =
    each_aside _ ys (aside-append _ _ (own_aside None steps far)
    (woken_aside wakes (locals far steps)))
