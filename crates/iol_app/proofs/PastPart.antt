-- What happened at the device: own steps, what is heard, and a wake are allowed there, and leave
-- what the far end has; what an answer brings leaves it alone.
-- For the clauses of `laws::receive_gives`, `laws::rise_gives` and `laws::wake_gives`.
use Rattle.std.proofs.lemmas.Grind.{common_steps}
use Rattle.std.proofs.Common.{◌≡◌, ℕ, Bool, true, false, List, [], ◌∷◌, ◌++◌, length, take, drop, take-append-drop, refl, sym, ◌∙◌, ap, arith}
use Rattle.std.specs.Prelude.{Option, None, IsTrue}
use lib.Seq.{drop-append_seam}
use Rattle.iol_mseq.specs.declared.master.MasterMsg.{MasterMsg}
use Rattle.iol_isdu.specs.declared.values.Request.{Request}
use Rattle.iol_isdu.specs.declared.values.Answer.{Answer}
use Rattle.iol_event.specs.declared.event.Event.{Event}
use Rattle.iol_event.specs.Memory.{Events, IsEventMemory, freezes_at_once, events_after_raise, events_after_release}
use Rattle.iol_link.specs.Honest.{Passage, OutLost, far_after}
use Rattle.iol_far.specs.History.{HistoryEntry, history_after_raise}
use Rattle.iol_far.specs.Isdu.{IsduState}
use Rattle.iol_far.specs.Far.{Far, far_in_mode, hear, heard_as, far_after_message, events_after}
use Rattle.iol_far.specs.Local.{LocalStep, Carry, Raise, local, locals, carried_by}
use Rattle.iol_app.specs.declared.mode.Mode.{Mode}
use Rattle.iol_app.specs.declared.mode.Mode.TheVariants.{Down, Startup, Preoperate, Operate}
use Rattle.iol_app.specs.Abstract.Steps.{PortStep, Done, Unknown, Start, Reset, Report, Unreport, ShowImage, DropImage, Busy, Move, WireCall, Woke, Exchanged, ImageOctets, TakesSteps}
use Rattle.iol_app.specs.Abstract.Turn.{wake_brings, loss_brings, startup_brings, preoperate_brings, operate_brings, may_bring}
use Rattle.iol_app.specs.Abstract.Past.{Past, MayPast, past_after}
use Rattle.iol_app.specs.Abstract.OfDevice.{Hidden, redeliver_steps, carry_steps, raise_steps, own_step, own_steps, event_steps, output_steps, release_steps, confirms_by, worked_steps, heard_steps_as, heard_steps, passed_steps, exchange_steps, woken_steps, wake_steps}
use Rattle.iol_app.specs.Abstract.Shown.{past_of}
use Rattle.iol_app.proofs.Accepted.{by_accepted}
use Rattle.iol_app.proofs.OwnSession.{woken_if}
use Rattle.iol_app.proofs.Parts.{runs-append, own_runs}

-- these steps are allowed in the part of what happened, and leave this
abbrev pub PastRuns : Past → List PortStep → Past → Type 0
PastRuns p steps p' = TakesSteps MayPast past_after p steps p'

abbrev Leaves : Far → List PortStep → Far → Type 0
Leaves far steps far' = PastRuns (past_of far) steps (past_of far')

-- Own steps

-- where an event is frozen at once, none waits
abbrev pub NoneWaits : Events → Type 0
NoneWaits memory = freezes_at_once memory ≡ true → memory.waiting ≡ []

pub none_waits : (memory : Events) → IsEventMemory memory → NoneWaits memory
none_waits memory can_be free = grind (arith, common_steps, can_be.waits)

stays_none : (far : Far) (step : LocalStep) → NoneWaits far.events
    → NoneWaits (local far step).events
stays_none far step none free = grind (arith, common_steps)

raise_past : (memory : Events) (event : Event) (history : List HistoryEntry) → NoneWaits memory
    → PastRuns (record { history = history; waiting = memory.waiting }) (raise_steps memory event)
    (record {
      history = history_after_raise memory event history;
      waiting = (events_after_raise memory event).waiting;
    })
raise_past memory event history none = grind (arith, common_steps)

carry_past : (request : Option Request) (far : Far) (answer : Answer) (state : IsduState)
    → Leaves far (carry_steps request state far answer) (carried_by state far answer)
carry_past request far answer state = grind (arith, common_steps)

step_past : (request : Option Request) (far : Far) (step : LocalStep) → NoneWaits far.events
    → Leaves far (own_step request far step) (local far step)
step_past request far (Carry answer) none = carry_past request far answer far.isdu
step_past request far (Raise event) none = raise_past far.events event far.history none
step_past request far step none = grind (arith, common_steps)

own_past : (request : Option Request) (steps : List LocalStep) (far : Far) → NoneWaits far.events
    → Leaves far (own_steps request far steps) (locals far steps)
own_past request steps far none =
    own_runs MayPast past_after {X = Unit {0}} request (λ f x. past_of f)
    (λ f x. NoneWaits f.events) (λ f step x. x) (λ f step x none. stays_none f step none)
    (λ f step x none. step_past request f step none) far steps tt none

-- What is heard

taken_first : (events : List Event) (n : ℕ)
    → drop (length (take n events)) events ≡ drop n events
taken_first events n =
    ap (drop (length (take n events))) (sym (take-append-drop n events))
    ∙ drop-append_seam (take n events) (drop n events)

release_past : (memory : Events) (history : List HistoryEntry)
    → PastRuns (record { history = history; waiting = memory.waiting }) (release_steps memory)
    (record { history = history; waiting = (events_after_release memory).waiting })
release_past memory history =
    grind (arith, common_steps, taken_first memory.waiting 6, take-append-drop 6 memory.waiting)

event_past : (memory : Events) (confirms : Bool) (history : List HistoryEntry)
    → PastRuns (record { history = history; waiting = memory.waiting })
    (event_steps memory confirms)
    (record { history = history; waiting = (events_after memory confirms).waiting })
event_past memory true history = grind (arith, common_steps)
event_past memory false history = release_past memory history

output_past : (p : Past) (output : Option ImageOctets) → PastRuns p (output_steps output) p
output_past p output = grind (arith, common_steps)

worked_past : (there : Far) (o : List ℕ) (m : MasterMsg)
    → Leaves there (worked_steps there o m) (far_after_message there o m)
worked_past there o m = runs-append MayPast past_after _ _ _
    (event_past there.events (confirms_by m.mc) there.history) (output_past _ _)

heard_past : (far : Far) (o : List ℕ) → Leaves far (heard_steps far o) (hear far o).far
heard_past far o = by_accepted (λ q. Leaves far (heard_steps_as q o) (heard_as far o q).far)
    far o (tt, refl) (λ awake m spells. worked_past far o m)
    (λ awake command w m spells. worked_past (far_in_mode far command.into) o m)

passed_past : (passage : Passage) (far : Far) (o : List ℕ)
    → Leaves far (passed_steps passage far o) (far_after passage far o)
passed_past OutLost far o = (tt, refl)
passed_past other far o = heard_past far o

-- the far end's part of an exchange
pub exchange_past : (request : Option Request) (far : Far) (steps : List LocalStep)
    (passage : Passage) (o : List ℕ) → NoneWaits far.events
    → Leaves far (exchange_steps request far steps passage o)
    (far_after passage (locals far steps) o)
exchange_past request far steps passage o none = runs-append MayPast past_after _ _ _
    (own_past request steps far none) (passed_past passage (locals far steps) o)

-- the far end's part of a wake
pub wake_past : (far : Far) (steps : List LocalStep) (wakes : Bool) → NoneWaits far.events
    → Leaves far (wake_steps far steps wakes) (woken_if wakes (locals far steps))
wake_past far steps wakes none = runs-append MayPast past_after _ _ _ (own_past None steps far none)
    (woken wakes)
  where
    there : Far
    there = locals far steps

    woken : (wakes : Bool) → Leaves there (woken_steps wakes there) (woken_if wakes there)
    woken true = runs-append MayPast past_after _ _ _ (release_past there.events there.history)
        ((tt, tt), refl)
    woken false = (tt, refl)

-- What the answer brings, and the request that is handed over again

pub redeliver_past : (request : Option Request) (state : IsduState) (h : Hidden) (p p' : Past)
    (ys : List PortStep) → PastRuns p ys p' → PastRuns p (redeliver_steps request state h ++ ys) p'
redeliver_past request state h p p' ys k = grind (arith, common_steps)

wake_brings_past : (answered : Bool) (steps : List PortStep) (p : Past)
    → IsTrue (wake_brings answered steps) → PastRuns p steps p
wake_brings_past answered (Move mode why ∷ []) p brings = ((tt, tt), refl)
wake_brings_past answered (Start ∷ []) p brings = ((tt, tt), refl)
wake_brings_past answered (Reset ∷ []) p brings = ((tt, tt), refl)
wake_brings_past answered steps p brings = grind (arith, common_steps)

loss_brings_past : (steps : List PortStep) (p : Past) → IsTrue (loss_brings steps)
    → PastRuns p steps p
loss_brings_past [] p brings = (tt, refl)
loss_brings_past (Unreport ∷ []) p brings = ((tt, tt), refl)
loss_brings_past (Move mode why ∷ []) p brings = ((tt, tt), refl)
loss_brings_past (DropImage ∷ Move mode why ∷ []) p brings = ((tt, (tt, tt)), refl)
loss_brings_past (Unknown cause ∷ DropImage ∷ Move mode why ∷ []) p brings =
    ((tt, (tt, (tt, tt))), refl)
loss_brings_past steps p brings = grind (arith, common_steps)

start_brings_past : (steps : List PortStep) (p : Past) → IsTrue (startup_brings steps)
    → PastRuns p steps p
start_brings_past [] p brings = (tt, refl)
start_brings_past (step ∷ []) p brings = grind (arith, common_steps)
start_brings_past steps p brings = grind (arith, common_steps)

preoperate_brings_past : (steps : List PortStep) (p : Past) → IsTrue (preoperate_brings steps)
    → PastRuns p steps p
preoperate_brings_past [] p brings = (tt, refl)
preoperate_brings_past (step ∷ []) p brings = grind (arith, common_steps)
preoperate_brings_past steps p brings = grind (arith, common_steps)

operate_brings_past : (steps : List PortStep) (p : Past) → IsTrue (operate_brings steps)
    → PastRuns p steps p
operate_brings_past (ShowImage ∷ []) p brings = ((tt, tt), refl)
operate_brings_past (Busy ∷ ShowImage ∷ []) p brings = ((tt, (tt, tt)), refl)
operate_brings_past (Done answer ∷ ShowImage ∷ []) p brings = ((tt, (tt, tt)), refl)
operate_brings_past (Unknown cause ∷ ShowImage ∷ []) p brings = ((tt, (tt, tt)), refl)
operate_brings_past (Report events ∷ ShowImage ∷ []) p brings = ((tt, (tt, tt)), refl)
operate_brings_past (step ∷ ShowImage ∷ []) p brings = absurd (cc)
operate_brings_past steps p brings = absurd (cc)

pub received_past : (mode : Mode) (call : WireCall) (steps : List PortStep) (p : Past)
    → IsTrue (may_bring mode call steps) → PastRuns p steps p
received_past Down (Woke answered) steps p brings = wake_brings_past answered steps p brings
received_past Startup (Exchanged true) steps p brings = start_brings_past steps p brings
received_past Preoperate (Exchanged true) steps p brings = preoperate_brings_past steps p brings
received_past Operate (Exchanged true) steps p brings = operate_brings_past steps p brings
received_past Down (Exchanged false) steps p brings = loss_brings_past steps p brings
received_past Startup (Exchanged false) steps p brings = loss_brings_past steps p brings
received_past Preoperate (Exchanged false) steps p brings = loss_brings_past steps p brings
received_past Operate (Exchanged false) steps p brings = loss_brings_past steps p brings
received_past mode call steps p brings = absurd (cc)
