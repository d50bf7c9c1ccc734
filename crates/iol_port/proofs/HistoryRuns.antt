-- What a run says of events, images and outputs, by its pieces: for the law `runs_tell_history` and
-- the claim.
-- For the clauses of `laws::runs_fit_history`, `Port::keeps_record` and `Port::run`.
use Rattle.std.proofs.Common.{◌≡◌, ◌⊎◌, inl, inr, ℕ, Bool, true, false, ◌||◌, List, [], ◌∷◌, ◌++◌, length, drop, refl, sym, ◌∙◌, ap, subst, arith}
use Rattle.std.proofs.lemmas.Grind.{common_steps}
use Rattle.std.proofs.lemmas.List.{append_assoc, append-nil}
use Rattle.std.specs.Prelude.{Option, Some, None, IsTrue, ◌==◌, if◌then◌else◌}
use Rattle.std.specs.List.{list_all, list_any}
use lib.Seq.{drop-append_seam}
use Rattle.iol_event.specs.declared.event.Event.{Event}
use Rattle.iol_far.specs.History.{HistoryEntry, Raised, InputSet, PowerCycled}
use Rattle.iol_app.specs.declared.output.OutputFault.TheVariants.{WrongImageLength}
use Rattle.iol_app.specs.Abstract.Steps.{PortStep, Take, Deny, Carry, Redeliver, Done, Unknown, LateCarry, Start, Reset, Raise, Freeze, Report, Confirm, Unreport, ShowImage, DropImage, Make, OutputOn, OutputOff, Input, PowerLoss, PageRead, Busy, Move, Moment, ImageOctets, Exchanged, through_steps, MayAll}
use Rattle.iol_app.specs.Abstract.Events.{Frozen, MayFrozen, frozen_after, marked_unreported, frozen_events, unreported_events}
use Rattle.iol_app.specs.Abstract.Images.{Images, images_after}
use Rattle.iol_app.specs.Abstract.Past.{Past, MayPast, past_after}
use Rattle.iol_port.specs.Steps.{queued_after}
use Rattle.iol_port.specs.declared.call.Call.{Call}
use Rattle.iol_port.specs.declared.call.Call.TheVariants as call
use Rattle.iol_port.specs.declared.call.Answered.{Answered}
use Rattle.iol_port.specs.declared.call.Answered.TheVariants as answered
use Rattle.iol_port.specs.declared.fault.PortFault.TheVariants as fault
use Rattle.iol_port.specs.Owners.{IsOneOf}
use Rattle.iol_port.specs.CarriesOut.{Happens}
use Rattle.iol_port.specs.History.{input_behind, WasInput, raised_in, events_handed_out, held_events, EachFitsHistory, IsPartOf, nothing, takes, leaves, step_may_repeat, receive_may_repeat, piece_may_repeat, run_may_repeat, unreported_in, EachIsReportedOnce}
use Rattle.iol_port.specs.Run.{PortState, port_at_opening, SendOf, ReceiveOf, is_sending_step, moment_by, Is, set_output_of, take_event_of, CallOf, Piece, Whole, Send, Receive, PieceOf, Pieces}

-- Lists

module _ {X : Type 0} where
  one_first : (x : X) (xs ys : List X) → IsOneOf x xs → IsOneOf x (xs ++ ys)
  one_first x [] ys h = absurd h
  one_first x (y ∷ xs) ys (inl e) = inl e
  one_first x (y ∷ xs) ys (inr h) = inr (one_first x xs ys h)

  one_last : (x : X) (xs ys : List X) → IsOneOf x ys → IsOneOf x (xs ++ ys)
  one_last x [] ys h = h
  one_last x (y ∷ xs) ys h = inr (one_last x xs ys h)

  one_of : (x : X) (xs ys : List X) → IsOneOf x (xs ++ ys) → IsOneOf x xs ⊎ IsOneOf x ys
  one_of x [] ys h = inr h
  one_of x (y ∷ xs) ys (inl e) = inl (inl e)
  one_of x (y ∷ xs) ys (inr h) = elim (one_of x xs ys h) [
    | inl first ↦ inl (inr first)
    | inr last ↦ inr last
  ]

  -- each of the one is one of the other
  abbrev AreOf : List X → List X → Type 0
  AreOf xs ys = (x : X) → IsOneOf x xs → IsOneOf x ys

  part_same : (xs : List X) → IsPartOf xs xs
  part_same [] = nothing
  part_same (x ∷ xs) = takes (part_same xs)

  part_none : (xs : List X) → IsPartOf [] xs
  part_none [] = nothing
  part_none (x ∷ xs) = leaves (part_none xs)

  part_append : {ws xs ys zs : List X} → IsPartOf ws xs → IsPartOf ys zs
      → IsPartOf (ws ++ ys) (xs ++ zs)
  part_append nothing q = q
  part_append (takes p) q = takes (part_append p q)
  part_append (leaves p) q = leaves (part_append p q)

  part_through : {ys zs : List X} → IsPartOf ys zs → {xs : List X} → IsPartOf xs ys
      → IsPartOf xs zs
  part_through nothing p = p
  part_through (takes q) (takes p) = takes (part_through q p)
  part_through (takes q) (leaves p) = leaves (part_through q p)
  part_through (leaves q) p = leaves (part_through q p)

  part_end : {xs ys : List X} → IsPartOf xs ys → IsPartOf xs (ys ++ [])
  part_end {xs} {ys} p = subst (IsPartOf xs) (sym (append-nil ys)) p

  -- what is made of `held` and of what comes in, made further
  of_both : (r1 r2 h0 h1 h2 e1 e2 : List X) → AreOf (r1 ++ h1) (h0 ++ e1)
      → AreOf (r2 ++ h2) (h1 ++ e2) → AreOf ((r1 ++ r2) ++ h2) (h0 ++ (e1 ++ e2))
  of_both r1 r2 h0 h1 h2 e1 e2 first second x one =
      elim (one_of x (r1 ++ r2) h2 one) [
        | inl reported ↦ elim (one_of x r1 r2 reported) [
          | inl now ↦ wide (first x (one_first x r1 h1 now))
          | inr later ↦ on (second x (one_first x r2 h2 later))
        ]
        | inr held ↦ on (second x (one_last x r2 h2 held))
      ]
    where
      wide : IsOneOf x (h0 ++ e1) → IsOneOf x (h0 ++ (e1 ++ e2))
      wide is = subst (IsOneOf x) (append_assoc h0 e1 e2) (one_first x (h0 ++ e1) e2 is)

      on : IsOneOf x (h1 ++ e2) → IsOneOf x (h0 ++ (e1 ++ e2))
      on is = elim (one_of x h1 e2 is) [
        | inl held ↦ wide (first x (one_last x r1 h1 held))
        | inr received ↦ one_last x h0 (e1 ++ e2) (one_last x e1 e2 received)
      ]

  part_both : (r1 r2 h0 h1 h2 e1 e2 : List X) → IsPartOf (r1 ++ h1) (h0 ++ e1)
      → IsPartOf (r2 ++ h2) (h1 ++ e2) → IsPartOf ((r1 ++ r2) ++ h2) (h0 ++ (e1 ++ e2))
  part_both r1 r2 h0 h1 h2 e1 e2 first second =
      subst (λ (l : List X). IsPartOf l (h0 ++ (e1 ++ e2))) (sym (append_assoc r1 r2 h2))
      (subst (IsPartOf (r1 ++ (r2 ++ h2))) (append_assoc h0 e1 e2)
      (part_through (subst (λ (l : List X). IsPartOf l ((h0 ++ e1) ++ e2)) (append_assoc r1 h1 e2)
      (part_append first (part_same e2))) (part_append (part_same r1) second)))

none_of : (x y : Bool) → (x || y) ≡ false → (x ≡ false) × (y ≡ false)
none_of false y e = (refl, e)
none_of true y e = cc

-- Steps

-- what a step adds to the history
abbrev entries_of : PortStep → List HistoryEntry
entries_of (Raise event) = Raised event ∷ []
entries_of (Input input) = InputSet input ∷ []
entries_of PowerLoss = PowerCycled ∷ []
entries_of step = []

abbrev entries_in : List PortStep → List HistoryEntry
entries_in [] = []
entries_in (step ∷ steps) = entries_of step ++ entries_in steps

-- what it reports
abbrev reported_by : PortStep → List Event
reported_by (Report events) = events
reported_by step = []

abbrev reported_in : List PortStep → List Event
reported_in [] = []
reported_in (step ∷ steps) = reported_by step ++ reported_in steps

input_append : (xs ys : List HistoryEntry) (input : Option ImageOctets)
    → input_behind (xs ++ ys) input ≡ input_behind ys (input_behind xs input)
input_append [] ys input = refl
input_append (InputSet next ∷ xs) ys input = input_append xs ys next
input_append (PowerCycled ∷ xs) ys input = input_append xs ys None
input_append (Raised event ∷ xs) ys input = input_append xs ys input

raised_append : (xs ys : List HistoryEntry) → raised_in (xs ++ ys) ≡ raised_in xs ++ raised_in ys
raised_append [] ys = refl
raised_append (Raised event ∷ xs) ys = ap (λ (l : List Event). event ∷ l) (raised_append xs ys)
raised_append (InputSet input ∷ xs) ys = raised_append xs ys
raised_append (PowerCycled ∷ xs) ys = raised_append xs ys

history_step : (step : PortStep) (p : Past)
    → (past_after step p).history ≡ p.history ++ entries_of step
history_step step p = grind (arith, common_steps, append-nil p.history)

history_steps : (steps : List PortStep) (p : Past)
    → (through_steps past_after steps p).history ≡ p.history ++ entries_in steps
history_steps [] p = sym (append-nil p.history)
history_steps (step ∷ steps) p =
    history_steps steps (past_after step p)
    ∙ ap (λ (l : List HistoryEntry). l ++ entries_in steps) (history_step step p)
    ∙ append_assoc p.history (entries_of step) (entries_in steps)

queued_steps : (steps : List PortStep) (queued : List Event)
    → through_steps queued_after steps queued ≡ queued ++ reported_in steps
queued_steps [] queued = sym (append-nil queued)
queued_steps (step ∷ steps) queued =
    queued_steps steps (queued_after step queued)
    ∙ ap (λ (l : List Event). l ++ reported_in steps) (step_queued step)
    ∙ append_assoc queued (reported_by step) (reported_in steps)
  where
    step_queued : (step : PortStep) → queued_after step queued ≡ queued ++ reported_by step
    step_queued step = grind (arith, common_steps, append-nil queued)

-- Images

input_step : (m : Moment) (step : PortStep) (i : Images)
    → (images_after m step i).input ≡ input_behind (entries_of step) i.input
input_step m step i = grind (arith, common_steps)

input_steps : (m : Moment) (steps : List PortStep) (i : Images)
    → (through_steps (images_after m) steps i).input ≡ input_behind (entries_in steps) i.input
input_steps m [] i = refl
input_steps m (step ∷ steps) i =
    input_steps m steps (images_after m step i)
    ∙ ap (input_behind (entries_in steps)) (input_step m step i)
    ∙ sym (input_append (entries_of step) (entries_in steps) i.input)

-- an image that was shown before, or was the input at a moment since
abbrev WasShown : List HistoryEntry → Images → ImageOctets → Type 0
WasShown entries i image = (i.image ≡ Some image) ⊎ WasInput entries i.input image

image_step : (m : Moment) (step : PortStep) (i : Images) (image : ImageOctets)
    → (images_after m step i).image ≡ Some image
    → (i.image ≡ Some image) ⊎ (i.input ≡ Some image)
image_step m step i image e = grind (arith, common_steps)

-- what is an input from the middle on is one from the beginning on
was_input_on : (xs ys : List HistoryEntry) (before mid : Option ImageOctets)
    (image : ImageOctets) → mid ≡ input_behind xs before → WasInput ys mid image
    → WasInput (xs ++ ys) before image
was_input_on xs ys before mid image is w = record {
  earlier = xs ++ w.earlier;
  later = w.later;
  is = ap (λ (l : List HistoryEntry). xs ++ l) w.is ∙ sym (append_assoc xs w.earlier w.later);
  was = input_append xs w.earlier before ∙ ap (input_behind w.earlier) (sym is) ∙ w.was;
}

was_input_longer : (xs ys : List HistoryEntry) (input : Option ImageOctets) (image : ImageOctets)
    → WasInput xs input image → WasInput (xs ++ ys) input image
was_input_longer xs ys input image w = record {
  earlier = w.earlier;
  later = w.later ++ ys;
  is = ap (λ (l : List HistoryEntry). l ++ ys) w.is ∙ append_assoc w.earlier w.later ys;
  was = w.was;
}

is_input_now : (entries : List HistoryEntry) (input : Option ImageOctets) (image : ImageOctets)
    → input ≡ Some image → WasInput entries input image
is_input_now entries input image e = record { earlier = []; later = entries; is = refl; was = e }

image_steps : (m : Moment) (steps : List PortStep) (i : Images) (image : ImageOctets)
    → (through_steps (images_after m) steps i).image ≡ Some image
    → WasShown (entries_in steps) i image
image_steps m [] i image e = inl e
image_steps m (step ∷ steps) i image e =
    elim (image_steps m steps (images_after m step i) image e) [
      | inl shown ↦ elim (image_step m step i image shown) [
        | inl before ↦ inl before
        | inr input ↦ inr (is_input_now _ i.input image input)
      ]
      | inr was ↦ inr (was_input_on (entries_of step) (entries_in steps) i.input _ image
          (input_step m step i) was)
    ]

-- an output that the device has, that was sent, or that is wanted
abbrev IsOutput : Images → ImageOctets → Type 0
IsOutput i image = (i.output ≡ Some image) ⊎ ((i.sent ≡ Some image) ⊎ (i.wanted ≡ Some image))

output_step : (m : Moment) (step : PortStep) (i : Images) (image : ImageOctets)
    → IsOutput (images_after m step i) image → IsOutput i image
output_step m step i image e = grind (arith, common_steps)

output_steps : (m : Moment) (steps : List PortStep) (i : Images) (image : ImageOctets)
    → IsOutput (through_steps (images_after m) steps i) image → IsOutput i image
output_steps m [] i image e = e
output_steps m (step ∷ steps) i image e =
    output_step m step i image (output_steps m steps (images_after m step i) image e)

-- Events

abbrev Held : Option Frozen → Past → List Event
Held f p = frozen_events f ++ p.waiting

abbrev Unreported : Option Frozen → Past → List Event
Unreported f p = unreported_events f ++ p.waiting

frozen_waited : (events others waiting : List Event) → waiting ≡ events ++ others
    → events ++ drop (length events) waiting ≡ waiting
frozen_waited events others waiting is =
    ap (λ (l : List Event). events ++ drop (length events) l) is
    ∙ ap (λ (l : List Event). events ++ l) (drop-append_seam events others) ∙ sym is

-- what is reported, and what is held behind a step, was held before, or is raised in it
unreported_same : (f : Option Frozen) → frozen_events (marked_unreported f) ≡ frozen_events f
unreported_same None = refl
unreported_same (Some frozen) = refl

held_step : (step : PortStep) (f : Option Frozen) (p : Past) → MayFrozen step f → MayPast step p
    → AreOf (reported_by step ++ Held (frozen_after step f) (past_after step p))
    (Held f p ++ raised_in (entries_of step))
held_step (Freeze events) f p may waits x one = one_first x (Held f p) []
    (one_last x (frozen_events f) p.waiting
    (subst (IsOneOf x) (frozen_waited events waits.0 p.waiting waits.1) one))
held_step (Report events) f p is waits x one =
    let same : events ≡ frozen_events f = sym (ap frozen_events is) in
    one_first x (Held f p) [] (elim (one_of x events (events ++ p.waiting) one) [
      | inl first ↦ one_first x (frozen_events f) p.waiting (subst (IsOneOf x) same first)
      | inr last ↦ subst (λ (l : List Event). IsOneOf x (l ++ p.waiting)) same last
    ])
held_step Confirm f p may waits x one =
    one_first x (Held f p) [] (one_last x (frozen_events f) p.waiting one)
held_step (Raise event) f p may waits x one =
    subst (IsOneOf x) (sym (append_assoc (frozen_events f) p.waiting (event ∷ []))) one
held_step PowerLoss f p may waits x one = absurd one
held_step Unreport f p may waits x one = one_first x (Held f p) []
    (subst (λ (l : List Event). IsOneOf x (l ++ p.waiting)) (unreported_same f) one)
held_step Start f p may waits x one = one_first x (Held f p) []
    (subst (λ (l : List Event). IsOneOf x (l ++ p.waiting)) (unreported_same f) one)
held_step Reset f p may waits x one = one_first x (Held f p) []
    (subst (λ (l : List Event). IsOneOf x (l ++ p.waiting)) (unreported_same f) one)
held_step (Take ticket request) f p may waits x one = one_first x (Held f p) [] one
held_step (Deny ticket) f p may waits x one = one_first x (Held f p) [] one
held_step (Carry answer) f p may waits x one = one_first x (Held f p) [] one
held_step Redeliver f p may waits x one = one_first x (Held f p) [] one
held_step (Done answer) f p may waits x one = one_first x (Held f p) [] one
held_step (Unknown cause) f p may waits x one = one_first x (Held f p) [] one
held_step (LateCarry answer) f p may waits x one = one_first x (Held f p) [] one
held_step ShowImage f p may waits x one = one_first x (Held f p) [] one
held_step DropImage f p may waits x one = one_first x (Held f p) [] one
held_step Make f p may waits x one = one_first x (Held f p) [] one
held_step OutputOn f p may waits x one = one_first x (Held f p) [] one
held_step OutputOff f p may waits x one = one_first x (Held f p) [] one
held_step (Input input) f p may waits x one = one_first x (Held f p) [] one
held_step PageRead f p may waits x one = one_first x (Held f p) [] one
held_step Busy f p may waits x one = one_first x (Held f p) [] one
held_step (Move mode why) f p may waits x one = one_first x (Held f p) [] one

-- where nothing counts as unreported again, what is reported comes once, and in order
order_step : (step : PortStep) (f : Option Frozen) (p : Past) → MayFrozen step f → MayPast step p
    → step_may_repeat step ≡ false
    → IsPartOf (reported_by step ++ Unreported (frozen_after step f) (past_after step p))
    (Unreported f p ++ raised_in (entries_of step))
order_step (Freeze events) f p may waits once =
    subst (λ (l : List Event). IsPartOf l (Unreported f p ++ []))
    (sym (frozen_waited events waits.0 p.waiting waits.1))
    (part_end (part_append (part_none (unreported_events f)) (part_same p.waiting)))
order_step (Report events) f p is waits once =
    subst (λ (l : List Event). IsPartOf (events ++ p.waiting) ((l ++ p.waiting) ++ []))
    (sym (ap unreported_events is)) (part_end (part_same (events ++ p.waiting)))
order_step Confirm f p may waits once =
    part_end (part_append (part_none (unreported_events f)) (part_same p.waiting))
order_step (Raise event) f p may waits once =
    subst (IsPartOf (unreported_events f ++ (p.waiting ++ event ∷ [])))
    (sym (append_assoc (unreported_events f) p.waiting (event ∷ []))) (part_same _)
order_step PowerLoss f p may waits once = part_none _
order_step Unreport f p may waits once = cc
order_step Start f p may waits once = cc
order_step Reset f p may waits once = cc
order_step (Take ticket request) f p may waits once = part_end (part_same _)
order_step (Deny ticket) f p may waits once = part_end (part_same _)
order_step (Carry answer) f p may waits once = part_end (part_same _)
order_step Redeliver f p may waits once = part_end (part_same _)
order_step (Done answer) f p may waits once = part_end (part_same _)
order_step (Unknown cause) f p may waits once = part_end (part_same _)
order_step (LateCarry answer) f p may waits once = part_end (part_same _)
order_step ShowImage f p may waits once = part_end (part_same _)
order_step DropImage f p may waits once = part_end (part_same _)
order_step Make f p may waits once = part_end (part_same _)
order_step OutputOn f p may waits once = part_end (part_same _)
order_step OutputOff f p may waits once = part_end (part_same _)
order_step (Input input) f p may waits once = part_end (part_same _)
order_step PageRead f p may waits once = part_end (part_same _)
order_step Busy f p may waits once = part_end (part_same _)
order_step (Move mode why) f p may waits once = part_end (part_same _)

-- the same of a list of steps
held_steps : (steps : List PortStep) (f : Option Frozen) (p : Past)
    → MayAll MayFrozen frozen_after steps f → MayAll MayPast past_after steps p
    → AreOf (reported_in steps
    ++ Held (through_steps frozen_after steps f) (through_steps past_after steps p))
    (Held f p ++ raised_in (entries_in steps))
held_steps [] f p may waits = λ x one. one_first x (Held f p) [] one
held_steps (step ∷ steps) f p may waits =
    subst (λ (l : List Event). AreOf ((reported_by step ++ reported_in steps)
    ++ Held (through_steps frozen_after steps (frozen_after step f))
    (through_steps past_after steps (past_after step p))) (Held f p ++ l))
    (sym (raised_append (entries_of step) (entries_in steps)))
    (of_both (reported_by step) (reported_in steps) (Held f p)
    (Held (frozen_after step f) (past_after step p)) _ (raised_in (entries_of step))
    (raised_in (entries_in steps)) (held_step step f p may.0 waits.0)
    (held_steps steps (frozen_after step f) (past_after step p) may.1 waits.1))

order_steps : (steps : List PortStep) (f : Option Frozen) (p : Past)
    → MayAll MayFrozen frozen_after steps f → MayAll MayPast past_after steps p
    → list_any step_may_repeat steps ≡ false
    → IsPartOf (reported_in steps
    ++ Unreported (through_steps frozen_after steps f) (through_steps past_after steps p))
    (Unreported f p ++ raised_in (entries_in steps))
order_steps [] f p may waits once = part_end (part_same _)
order_steps (step ∷ steps) f p may waits once =
    let (first, others) = none_of (step_may_repeat step) (list_any step_may_repeat steps) once in
    subst (λ (l : List Event). IsPartOf ((reported_by step ++ reported_in steps)
    ++ Unreported (through_steps frozen_after steps (frozen_after step f))
    (through_steps past_after steps (past_after step p))) (Unreported f p ++ l))
    (sym (raised_append (entries_of step) (entries_in steps)))
    (part_both (reported_by step) (reported_in steps) (Unreported f p)
    (Unreported (frozen_after step f) (past_after step p)) _ (raised_in (entries_of step))
    (raised_in (entries_in steps)) (order_step step f p may.0 waits.0 first)
    (order_steps steps (frozen_after step f) (past_after step p) may.1 waits.1 others))

-- A piece, and several

-- which events it handed out, which output it set, which image it showed, and whether what was
-- reported counts as unreported again
record Goes (handed : List Event) (sets shows : ImageOctets → Type 0) (repeat : Bool)
    (a b : PortState) : Type 0 where
  entries : List HistoryEntry
  reported : List Event
  history : b.past.history ≡ a.past.history ++ entries
  input : b.images.input ≡ input_behind entries a.images.input
  image : (image : ImageOctets) → b.images.image ≡ Some image → WasShown entries a.images image
  looks : (image : ImageOctets) → shows image → WasShown entries a.images image
  output : (image : ImageOctets) → IsOutput b.images image → IsOutput a.images image ⊎ sets image
  reported_is : a.queued ++ reported ≡ handed ++ b.queued
  held : AreOf (reported ++ held_events b) (held_events a ++ raised_in entries)
  in_order : repeat ≡ false
      → IsPartOf (reported ++ unreported_in b) (unreported_in a ++ raised_in entries)

-- one behind the other
goes_on : {h1 h2 : List Event} {s1 s2 l1 l2 : ImageOctets → Type 0} {g1 g2 : Bool}
    {a m b : PortState} → Goes h1 s1 l1 g1 a m → Goes h2 s2 l2 g2 m b
    → Goes (h1 ++ h2) (λ image. s1 image ⊎ s2 image) (λ image. l1 image ⊎ l2 image) (g1 || g2) a b
goes_on {h1} {h2} {s1} {s2} {l1} {l2} {g1} {g2} {a} {m} {b} x y =
    record {
      entries = x.entries ++ y.entries;
      reported = x.reported ++ y.reported;
      history = y.history ∙ ap (λ (l : List HistoryEntry). l ++ y.entries) x.history
          ∙ append_assoc a.past.history x.entries y.entries;
      input = y.input ∙ ap (input_behind y.entries) x.input
          ∙ sym (input_append x.entries y.entries a.images.input);
      image = λ image e. later image (y.image image e);
      looks = λ image e. elim e [
        | inl first ↦ longer image (x.looks image first)
        | inr last ↦ later image (y.looks image last)
      ];
      output = λ image e. elim (y.output image e) [
        | inl before ↦ elim (x.output image before) [
          | inl earlier ↦ inl earlier
          | inr set ↦ inr (inl set)
        ]
        | inr set ↦ inr (inr set)
      ];
      reported_is = sym (append_assoc a.queued x.reported y.reported)
          ∙ ap (λ (l : List Event). l ++ y.reported) x.reported_is
          ∙ append_assoc h1 m.queued y.reported ∙ ap (λ (l : List Event). h1 ++ l) y.reported_is
          ∙ sym (append_assoc h1 h2 b.queued);
      held = subst (λ (l : List Event).
          AreOf ((x.reported ++ y.reported) ++ held_events b) (held_events a ++ l)) raised
          (of_both x.reported y.reported (held_events a) (held_events m) (held_events b)
          (raised_in x.entries) (raised_in y.entries) x.held y.held);
      in_order = λ once. let (first, last) = none_of g1 g2 once in
          subst (λ (l : List Event). IsPartOf ((x.reported ++ y.reported) ++ unreported_in b)
          (unreported_in a ++ l)) raised (part_both x.reported y.reported (unreported_in a)
          (unreported_in m) (unreported_in b) (raised_in x.entries) (raised_in y.entries)
          (x.in_order first) (y.in_order last));
    }
  where
    raised : raised_in x.entries ++ raised_in y.entries ≡ raised_in (x.entries ++ y.entries)
    raised = sym (raised_append x.entries y.entries)

    longer : (image : ImageOctets) → WasShown x.entries a.images image
        → WasShown (x.entries ++ y.entries) a.images image
    longer image (inl before) = inl before
    longer image (inr was) = inr (was_input_longer x.entries y.entries a.images.input image was)

    later : (image : ImageOctets) → WasShown y.entries m.images image
        → WasShown (x.entries ++ y.entries) a.images image
    later image (inl shown) = longer image (x.image image shown)
    later image (inr was) = inr (was_input_on x.entries y.entries a.images.input m.images.input
        image x.input was)

-- with other words for the same
goes_as : {h1 h2 : List Event} {s1 s2 l1 l2 : ImageOctets → Type 0} {g1 g2 : Bool}
    {a b : PortState} → h1 ≡ h2 → ((image : ImageOctets) → s1 image → s2 image)
    → ((image : ImageOctets) → l2 image → l1 image) → g1 ≡ g2 → Goes h1 s1 l1 g1 a b
    → Goes h2 s2 l2 g2 a b
goes_as {a = a} {b = b} handed sets shows repeat x = record {
  entries = x.entries;
  reported = x.reported;
  history = x.history;
  input = x.input;
  image = x.image;
  held = x.held;
  looks = λ image e. x.looks image (shows image e);
  output = λ image e. elim (x.output image e) [
    | inl before ↦ inl before
    | inr set ↦ inr (sets image set)
  ];
  reported_is = x.reported_is ∙ ap (λ (l : List Event). l ++ b.queued) handed;
  in_order = λ once. x.in_order (repeat ∙ once);
}

-- A call that is no turn

record Leaves (handed : List Event) (sets shows : ImageOctets → Type 0) (a b : PortState) :
    Type 0 where
  past : b.past ≡ a.past
  frozen : b.frozen ≡ a.frozen
  queued : a.queued ≡ handed ++ b.queued
  input : b.images.input ≡ a.images.input
  image : (b.images.image ≡ a.images.image) ⊎ (b.images.image ≡ None)
  looks : (image : ImageOctets) → shows image → a.images.image ≡ Some image
  output : (b.images.output ≡ a.images.output) × (b.images.sent ≡ a.images.sent)
  wanted : (image : ImageOctets) → b.images.wanted ≡ Some image
      → (a.images.wanted ≡ Some image) ⊎ sets image

left : {handed : List Event} {sets shows : ImageOctets → Type 0} {a b : PortState}
    → Leaves handed sets shows a b → Goes handed sets shows false a b
left {handed} {sets} {shows} {a} {b} x = record {
  entries = [];
  reported = [];
  history = ap (λ (p : Past). p.history) x.past ∙ sym (append-nil a.past.history);
  input = x.input;
  image = λ image e. elim x.image [
    | inl same ↦ inl (sym same ∙ e)
    | inr none ↦ absurd (let z : Path (Option ImageOctets) None (Some image) = sym none ∙ e in cc)
  ];
  looks = λ image e. inl (x.looks image e);
  output = λ image e. elim e [
    | inl output ↦ inl (inl (sym x.output.0 ∙ output))
    | inr other ↦ elim other [
      | inl sent ↦ inl (inr (inl (sym x.output.1 ∙ sent)))
      | inr wanted ↦ elim (x.wanted image wanted) [
        | inl before ↦ inl (inr (inr before))
        | inr set ↦ inr set
      ]
    ]
  ];
  reported_is = append-nil a.queued ∙ x.queued;
  held = λ event one. one_first event (held_events a) []
      (rw (x.past, x.frozen) at one);
  in_order = λ once. part_end (rw (x.past, x.frozen) (part_same (unreported_in a)));
}

-- the output that a piece sets, the image that it shows
abbrev SetBy : Piece → Answered → ImageOctets → Type 0
SetBy piece reply image = (piece ≡ Whole (call.SetOutput image)) × (reply ≡ answered.Nothing)

abbrev ShownBy : Piece → Answered → ImageOctets → Type 0
ShownBy piece reply image = (piece ≡ Whole call.Look) × (reply ≡ answered.Image (Some image))

abbrev PieceLeaves : Piece → Answered → PortState → PortState → Type 0
PieceLeaves piece reply a b =
    Leaves (events_handed_out (reply ∷ [])) (SetBy piece reply) (ShownBy piece reply) a b

-- a call that leaves events and images as they are, and hands out no event
abbrev Rests : PortState → Answered → PortState → Type 0
Rests a reply b = (events_handed_out (reply ∷ []) ≡ []) × (b.past ≡ a.past)
    × (b.frozen ≡ a.frozen) × (b.queued ≡ a.queued) × (b.images ≡ a.images)

rests : {a b : PortState} {piece : Piece} {reply : Answered}
    → ((image : ImageOctets) → ShownBy piece reply image → a.images.image ≡ Some image)
    → Rests a reply b → PieceLeaves piece reply a b
rests {a} {b} looks (none, past, frozen, queued, images) = record {
  past = past;
  frozen = frozen;
  queued = sym queued ∙ ap (λ (l : List Event). l ++ b.queued) (sym none);
  input = ap (λ (i : Images). i.input) images;
  image = inl (ap (λ (i : Images). i.image) images);
  looks = looks;
  output = (ap (λ (i : Images). i.output) images, ap (λ (i : Images). i.sent) images);
  wanted = λ image e. inl (sym (ap (λ (i : Images). i.wanted) images) ∙ e);
}

-- whether it is one of these
abbrev rests_in : Call → Bool
rests_in call.Turn = false
rests_in call.Restart = false
rests_in (call.SetOutput image) = false
rests_in call.ClearOutput = false
rests_in call.TakeEvent = false
rests_in c = true

call_rests : (a b : PortState) (c : Call) (reply : Answered) → rests_in c ≡ true
    → CallOf a c reply b → Rests a reply b
call_rests a b (call.Submit q) reply is e = grind (arith, common_steps)
call_rests a b (call.SubmitUrgent q) reply is e = grind (arith, common_steps)
call_rests a b (call.Collect t) reply is e = grind (arith, common_steps)
call_rests a b (call.Withdraw t) reply is e = grind (arith, common_steps)
call_rests a b (call.Cancel t) reply is e = grind (arith, common_steps)
call_rests a b (call.Abandon t) reply is e = grind (arith, common_steps)
call_rests a b call.Drain reply is e = grind (arith, common_steps)
call_rests a b call.Archive reply is e = grind (arith, common_steps)
call_rests a b c reply is e = grind (arith, common_steps)

call_looks : (a b : PortState) (c : Call) (reply : Answered) → CallOf a c reply b
    → (image : ImageOctets) → ShownBy (Whole c) reply image → a.images.image ≡ Some image
call_looks a b call.Look reply (is, next) image (look, shown) =
    image_of (sym is ∙ shown)
  where
    image_of : {x y : Option ImageOctets} → answered.Image x ≡ answered.Image y → x ≡ y
    image_of e = cc
call_looks a b c reply e image (look, shown) = absurd (grind (arith, common_steps))

unmoved : {a b : PortState} {piece : Piece} {reply : Answered}
    → events_handed_out (reply ∷ []) ≡ [] → (piece ≡ Whole call.Look → ⊥) → b ≡ a
    → PieceLeaves piece reply a b
unmoved none other same = rests (λ image shown. absurd (other shown.0))
    (none, rw same refl, rw same refl, rw same refl, rw same refl)

-- an output is set, or refused
sets_output : (a b : PortState) (image : ImageOctets) (reply : Answered)
    → CallOf a (call.SetOutput image) reply b
    → PieceLeaves (Whole (call.SetOutput image)) reply a b
sets_output a b image reply e = by_known a.images.known_length e
  where
    by_length : (fits : Bool) → Is reply b (if fits
        then (answered.Nothing, record a { images = record a.images { wanted = Some image } })
        else (answered.Refused (fault.Output WrongImageLength), a))
        → PieceLeaves (Whole (call.SetOutput image)) reply a b
    by_length true (is, next) = rw (is, next) (record {
      past = refl;
      frozen = refl;
      queued = refl;
      input = refl;
      image = inl refl;
      looks = λ image shown. absurd (cc (shown.0));
      output = (refl, refl);
      wanted = λ other e. inr (let same : image ≡ other = cc in rw same refl, refl);
    })
    by_length false (is, next) = rw is (unmoved refl (λ look. cc) next)

    by_known : (known_length : Option ℕ) → Is reply b (set_output_of a image known_length)
        → PieceLeaves (Whole (call.SetOutput image)) reply a b
    by_known None (is, next) = rw is (unmoved refl (λ look. cc) next)
    by_known (Some known_length) e = by_length (length image == known_length) e

takes_event : (a b : PortState) (reply : Answered) → CallOf a call.TakeEvent reply b
    → PieceLeaves (Whole call.TakeEvent) reply a b
takes_event a b reply e = by_queued a.queued refl e
  where
    by_queued : (queued : List Event) → a.queued ≡ queued → Is reply b (take_event_of a queued)
        → PieceLeaves (Whole call.TakeEvent) reply a b
    by_queued [] same (is, next) = rw is (unmoved refl (λ look. cc) next)
    by_queued (event ∷ events) same (is, next) = rw (is, next) (record {
      past = refl;
      frozen = refl;
      queued = same;
      input = refl;
      image = inl refl;
      looks = λ image shown. absurd (cc (shown.0));
      output = (refl, refl);
      wanted = λ image e. inl e;
    })

-- what the calls do, but for a turn
call_leaves : (a b : PortState) (c : Call) (reply : Answered) → (c ≡ call.Turn → ⊥)
    → CallOf a c reply b → PieceLeaves (Whole c) reply a b
call_leaves a b call.Turn reply other e = absurd (other refl)
call_leaves a b call.Restart reply other (free, (is, next)) = rw (is, next) (record {
  past = refl;
  frozen = refl;
  queued = refl;
  input = refl;
  image = inr refl;
  looks = λ image shown. absurd (cc (shown.0));
  output = (refl, refl);
  wanted = λ image e. inl e;
})
call_leaves a b (call.SetOutput image) reply other e = sets_output a b image reply e
call_leaves a b call.ClearOutput reply other (is, next) = rw (is, next) (record {
  past = refl;
  frozen = refl;
  queued = refl;
  input = refl;
  image = inl refl;
  looks = λ image shown. absurd (cc (shown.0));
  output = (refl, refl);
  wanted = λ image e. absurd (cc e);
})
call_leaves a b call.TakeEvent reply other e = takes_event a b reply e
call_leaves a b c reply other e =
    rests (call_looks a b c reply e) (call_rests a b c reply (grind (arith, common_steps)) e)

-- The pieces of a turn

sent_none : (steps : List PortStep) → IsTrue (list_all is_sending_step steps)
    → entries_in steps ≡ []
sent_none [] only = refl
sent_none (step ∷ steps) only = grind (arith, common_steps, sent_none steps)

abbrev Never : ImageOctets → Type 0
Never image = ⊥

sends : (a m : PortState) → SendOf a m → Goes [] Never Never false a m
sends a m s =
    let moment : Moment = moment_by a (Exchanged true) in
    let images = (s.images (Exchanged true)).1 in
    let none = sent_none s.steps s.only in
    record {
      entries = [];
      reported = [];
      history = ap (λ (p : Past). p.history) s.past ∙ sym (append-nil a.past.history);
      input = ap (λ (i : Images). i.input) (sym images) ∙ input_steps moment s.steps a.images
          ∙ ap (λ (l : List HistoryEntry). input_behind l a.images.input) none;
      image = λ image e. subst (λ (l : List HistoryEntry). WasShown l a.images image) none
          (image_steps moment s.steps a.images image (ap (λ (i : Images). i.image) images ∙ e));
      looks = λ image e. absurd e;
      output = λ image e. inl (output_steps moment s.steps a.images image
          (subst (λ (i : Images). IsOutput i image) (sym images) e));
      reported_is = append-nil a.queued ∙ sym s.queued;
      held = λ event one. one_first event (held_events a) [] (rw (s.past, s.frozen) at one);
      in_order = λ once. part_end (rw (s.past, s.frozen) (part_same (unreported_in a)));
    }

receives : (m b : PortState) (r : ReceiveOf m b) → Goes [] Never Never (receive_may_repeat r) m b
receives m b r =
    let moment : Moment = moment_by m r.turn.call in
    let steps : List PortStep = r.turn.steps in
    let images = r.images.images.1 in
    record {
      entries = entries_in steps;
      reported = reported_in steps;
      history = ap (λ (p : Past). p.history) (sym r.events.past.1) ∙ history_steps steps m.past;
      input = ap (λ (i : Images). i.input) (sym images) ∙ input_steps moment steps m.images;
      image = λ image e.
          image_steps moment steps m.images image (ap (λ (i : Images). i.image) images ∙ e);
      looks = λ image e. absurd e;
      output = λ image e. inl (output_steps moment steps m.images image
          (subst (λ (i : Images). IsOutput i image) (sym images) e));
      reported_is = sym (queued_steps steps m.queued) ∙ r.events.queued;
      held = rw (r.events.frozen.1, r.events.past.1) at (held_steps steps m.frozen m.past
          r.events.frozen.0 r.events.past.0);
      in_order = λ once. rw (r.events.frozen.1, r.events.past.1) at (order_steps steps m.frozen
          m.past r.events.frozen.0 r.events.past.0 once);
    }

-- Any piece

calm_call : (a b : PortState) (c : Call) (reply : Answered) (p : CallOf a c reply b)
    → (c ≡ call.Turn → ⊥) → piece_may_repeat a (Whole c) reply b p ≡ false
calm_call a b c reply p other = grind (arith, common_steps)

left_call : (a b : PortState) (c : Call) (reply : Answered) (p : CallOf a c reply b)
    → (c ≡ call.Turn → ⊥)
    → Goes (events_handed_out (reply ∷ [])) (SetBy (Whole c) reply) (ShownBy (Whole c) reply)
    (piece_may_repeat a (Whole c) reply b p) a b
left_call a b c reply p other = goes_as refl (λ image e. e) (λ image e. e)
    (sym (calm_call a b c reply p other)) (left (call_leaves a b c reply other p))

piece_goes : (a b : PortState) (piece : Piece) (reply : Answered) (p : PieceOf a piece reply b)
    → Goes (events_handed_out (reply ∷ [])) (SetBy piece reply) (ShownBy piece reply)
    (piece_may_repeat a piece reply b p) a b
piece_goes a b (Whole call.Turn) reply (is, (m, s, r)) =
    goes_as (rw is refl) (λ image e. absurd (elim e [ inl x ↦ x | inr x ↦ x ]))
    (λ image shown. absurd (cc (shown.0))) refl (goes_on (sends a m s) (receives m b r))
piece_goes a b (Whole c) reply p = left_call a b c reply p (λ turn. cc)
piece_goes a b Send reply (is, inl s) =
    goes_as (rw is refl) (λ image e. absurd e) (λ image shown. absurd (cc (shown.0))) refl
    (sends a b s)
piece_goes a b Send reply (is, inr (out, same)) =
    left (unmoved (rw is refl) (λ look. cc) same)
piece_goes a b Receive reply (is, r) =
    goes_as (rw is refl) (λ image e. absurd e) (λ image shown. absurd (cc (shown.0))) refl
    (receives a b r)

-- Whole runs

handed_both : (reply : Answered) (replies : List Answered)
    → events_handed_out (reply ∷ []) ++ events_handed_out replies
    ≡ events_handed_out (reply ∷ replies)
handed_both reply replies = grind (arith, common_steps)

runs_go : (a b : PortState) (pieces : List Piece) (replies : List Answered)
    (run : Pieces a pieces replies b)
    → Goes (events_handed_out replies)
    (λ image. Happens pieces replies (Whole (call.SetOutput image)) answered.Nothing)
    (λ image. Happens pieces replies (Whole call.Look) (answered.Image (Some image)))
    (run_may_repeat a pieces replies b run) a b
runs_go a b [] [] same = left (record {
  past = rw same refl;
  frozen = rw same refl;
  queued = rw same refl;
  input = rw same refl;
  image = inl (rw same refl);
  looks = λ image e. absurd e;
  output = (rw same refl, rw same refl);
  wanted = λ image e. inl (rw same at e);
})
runs_go a b (piece ∷ pieces) (reply ∷ replies) (mid, p, run) =
    goes_as (handed_both reply replies) (λ image e. e) (λ image e. e) refl
    (goes_on (piece_goes a mid piece reply p) (runs_go mid b pieces replies run))
runs_go a b [] (reply ∷ replies) run = absurd run
runs_go a b (piece ∷ pieces) [] run = absurd run

pub each_fits_history : EachFitsHistory
each_fits_history devices limits far silence pieces replies b run =
    let x = runs_go (port_at_opening devices limits far silence) b pieces replies run in
    record {
      entries = x.entries;
      history_is = x.history;
      input_is = x.input;
      shown = λ image e. since_opening (x.image image e);
      images = λ image e. since_opening (x.looks image e);
      outputs = λ image e. elim (x.output image (inl e)) [
        | inl before ↦ elim before [
          | inl output ↦ inl output
          | inr other ↦ absurd (elim other [ inl sent ↦ cc sent | inr wanted ↦ cc wanted ])
        ]
        | inr set ↦ inr set
      ];
      events = λ event one.
          x.held event (one_first event x.reported (held_events b) (rw (← x.reported_is) at one));
    }
  where
    -- no image is shown at the opening
    since_opening : {entries : List HistoryEntry} {image : ImageOctets}
        → WasShown entries (port_at_opening devices limits far silence).images image
        → WasInput entries far.input image
    since_opening (inl before) = absurd (cc before)
    since_opening (inr was) = was

pub each_is_reported_once : EachIsReportedOnce
each_is_reported_once a b pieces replies run once =
    let x = runs_go a b pieces replies run in
    record {
      entries = x.entries;
      history_is = x.history;
      reported = x.reported;
      reported_is = x.reported_is;
      in_order = x.in_order once;
    }
