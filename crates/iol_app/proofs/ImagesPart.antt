-- The images: own steps, what is heard, and a wake are allowed there, and leave the far end's
-- input and output.
-- For the clauses of `Core::put_due`, `Core::receive_wake`, `Core::receive` and 6 more.
use Rattle.std.proofs.lemmas.Grind.{common_steps}
use Rattle.std.proofs.Common.{arith, ◌≡◌, ℕ, Bool, true, List, ◌++◌, refl}
use Rattle.std.specs.Prelude.{Option, Some, None, IfSome, ⊤}
use Rattle.iol_mseq.specs.declared.master.MasterMsg.{MasterMsg}
use Rattle.iol_isdu.specs.declared.values.Request.{Request}
use Rattle.iol_isdu.specs.declared.values.Answer.{Answer}
use Rattle.iol_link.specs.Honest.{Passage, OutLost, far_after}
use Rattle.iol_far.specs.Isdu.{IsduState, fits}
use Rattle.iol_far.specs.Far.{Far, accepted_message, far_in_mode, hear, heard_as, far_after_message, output_of}
use Rattle.iol_far.specs.Local.{LocalStep, local, locals, carried_by, Carry as OwnCarry}
use Rattle.iol_app.specs.Abstract.Steps.{PortStep, ImageOctets, CallFits, Moment, TakesSteps}
use Rattle.iol_app.specs.declared.mode.Mode.TheVariants.{Down}
use Rattle.iol_app.specs.Abstract.Images.{Images, images_after, MayImages}
use Rattle.iol_app.proofs.Parts.{runs-append, own_runs}
use Rattle.iol_app.specs.Abstract.OfDevice.{Hidden, redeliver_steps, carry_steps, own_step, own_steps, worked_steps, heard_steps_as, heard_steps, passed_steps, exchange_steps, wake_steps}
use Rattle.iol_app.specs.Abstract.Shown.{ShownProcessData, images_of}
use Rattle.iol_app.proofs.Accepted.{by_accepted}
use Rattle.iol_app.proofs.OwnSession.{woken_if}

-- these steps are allowed in the part of the images, and leave these
abbrev pub ImagesRuns : Moment → Images → List PortStep → Images → Type 0
ImagesRuns m i steps i' = TakesSteps (MayImages m) (images_after m) i steps i'

-- they leave what this far end has
abbrev Leaves : Moment → ShownProcessData → Far → List PortStep → Far → Type 0
Leaves m s far steps far' = ImagesRuns m (images_of s far) steps (images_of s far')

-- Own steps

carry_images : (m : Moment) (request : Option Request) (s : ShownProcessData) (far : Far)
    (a : Answer)
    (state : IsduState) → Leaves m s far (carry_steps request state far a) (carried_by state far a)
carry_images m request s far a state = grind (arith, common_steps)

own_step_runs : (m : Moment) (request : Option Request) (s : ShownProcessData) (far : Far)
    (step : LocalStep)
    → Leaves m s far (own_step request far step) (local far step)
own_step_runs m request s far (OwnCarry answer) = carry_images m request s far answer far.isdu
own_step_runs m request s far step = grind (arith, common_steps)

own_images : (m : Moment) (request : Option Request) (s : ShownProcessData) (steps : List LocalStep)
    (far : Far) → Leaves m s far (own_steps request far steps) (locals far steps)
own_images m request s steps far =
    own_runs (MayImages m) (images_after m) {X = Unit {0}} request (λ f x. images_of s f)
    (λ f x. ⊤) (λ f step x. x) (λ f step x any. tt)
    (λ f step x any. own_step_runs m request s f step) far steps tt tt

-- What is heard

-- the output that the far end has once it worked the message is the image that the master sent
abbrev pub OutputIsSent : Option ImageOctets → Far → List ℕ → MasterMsg → Type 0
OutputIsSent sent there o msg = IfSome (output_of (far_after_message there o msg))
    (λ x. sent ≡ Some x)

worked_images : (m : Moment) (s : ShownProcessData) (there : Far) (o : List ℕ) (msg : MasterMsg)
    (before : Images) → before.input ≡ there.input → OutputIsSent s.sent there o msg →
    before ≡ record (images_of s there) { output = before.output } → there.awake ≡ true
    → ImagesRuns m before (worked_steps there o msg) (images_of s (far_after_message there o msg))
worked_images m s there o msg before input_is fits is awake = grind (arith, common_steps)

-- whatever the far end accepts there, its output is then the image that the master sent
abbrev SentIn : Option ImageOctets → List ℕ → Option (Far × MasterMsg) → Type 0
SentIn sent o q = (there : Far) (m : MasterMsg) → q ≡ Some (there, m) → OutputIsSent sent there o m

abbrev pub OutputsSent : Option ImageOctets → Far → List ℕ → Type 0
OutputsSent sent far o = SentIn sent o (accepted_message far o)

heard_images : (m : Moment) (s : ShownProcessData) (far : Far) (o : List ℕ)
    → OutputsSent s.sent far o
    → Leaves m s far (heard_steps far o) (hear far o).far
heard_images m s far o = by_accepted
    (λ q. SentIn s.sent o q → Leaves m s far (heard_steps_as q o) (heard_as far o q).far)
    far o (λ f. (tt, refl))
    (λ awake msg spells f. worked_images m s far o msg (images_of s far) refl (f far msg refl) refl
    awake)
    (λ awake command w msg spells f. worked_images m s (far_in_mode far command.into) o msg
    (images_of s far) refl (f (far_in_mode far command.into) msg refl) refl awake)

passed_images : (m : Moment) (s : ShownProcessData) (passage : Passage) (far : Far) (o : List ℕ)
    → OutputsSent s.sent far o
    → Leaves m s far (passed_steps passage far o) (far_after passage far o)
passed_images m s OutLost far o fits = (tt, refl)
passed_images m s other far o fits = heard_images m s far o fits

-- the far end's part of an exchange
pub exchange_images : (m : Moment) (request : Option Request) (s : ShownProcessData) (far : Far)
    (steps : List LocalStep) (passage : Passage) (o : List ℕ)
    → OutputsSent s.sent (locals far steps) o
    → Leaves m s far (exchange_steps request far steps passage o)
    (far_after passage (locals far steps) o)
exchange_images m request s far steps passage o fits =
    runs-append (MayImages m) (images_after m) _ _ _ (own_images m request s steps far)
    (passed_images m s passage (locals far steps) o fits)

-- the far end's part of a wake
pub wake_images : (m : Moment) (s : ShownProcessData) (far : Far) (steps : List LocalStep)
    (wakes : Bool) → CallFits Down m.call
    → Leaves m s far (wake_steps far steps wakes) (woken_if wakes (locals far steps))
wake_images m s far steps wakes woken = runs-append (MayImages m) (images_after m) _ _ _
    (own_images m None s steps far) (grind (arith, common_steps))

-- nor an image's
pub redeliver_images : (m : Moment) (request : Option Request) (state : IsduState) (h : Hidden)
    (i i' : Images) (ys : List PortStep) → ImagesRuns m i ys i'
    → ImagesRuns m i (redeliver_steps request state h ++ ys) i'
redeliver_images m request state h i i' ys k = grind (arith, common_steps)
