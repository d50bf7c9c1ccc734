-- Sets of states and what they stand for: what a device's events show, what one state covers of
-- another, and what the device does by itself, or at a wake-up.
-- For the clauses of `laws::honest_lines_are_never_blamed`.
use Rattle.std.proofs.Common.{◌≡◌, ℕ, zero, suc, ◌+◌, ◌-◌, ◌/◌, ◌%◌, ◌^◌, ◌<◌, ◌≤◌, max, Bool, true, false, List, [], ◌∷◌, length, refl, ◌∙◌, ap, arith, ◌⊎◌, inl, inr, ◌*◌, ◌++◌}
use Rattle.std.proofs.lemmas.Bool.{and_parts, cond_both, or_cases}
use Rattle.std.proofs.lemmas.Grind.{common_steps}
use Rattle.std.proofs.lemmas.Option.{slice_get_past}
use Rattle.std.specs.Prelude.{Option, Some, None, IfSome, not, ◌||◌, ◌==◌, nat_lt, if◌then◌else◌, nat_eq, slice_get, slice_index_or, Result, Ok, Err}
use Rattle.std.specs.Cmp.Lexicographic.{pointwise}
use Rattle.iol_event.specs.declared.event.Event.{Event}
use Rattle.iol_event.specs.Memory.{Events, is_empty, events_after_raise, events_after_release, event_octet, place_octet, status_code}
use Rattle.iol_far.specs.Far.{events_after, Far, WaitingCommand, is_mode, layout_of}
use Rattle.iol_judge.specs.declared.events.FilledPlaces.{FilledPlaces}
use Rattle.iol_judge.specs.declared.events.ShownEvents.{ShownEvents}
use Rattle.iol_judge.specs.declared.events.ShownEvents.TheVariants.{Fresh, Filled}
use Rattle.iol_judge.specs.Octets.{is_known_in, is_other}
use Rattle.iol_judge.specs.Events.{covers_events, shown_after, flag_fault, flag_updated, marked_count, place_known, places_fault, places_of, events_fault, octet_updated, places_updated, events_updated}
use Rattle.iol_judge.specs.Admitted.{IsReleased, AreIn, AreAsKnown, Admits, One}
use Rattle.std.specs.Cmp.{booleans_Decides}
use Rattle.std.specs.Option.{option_eq}
use Rattle.std.proofs.lemmas.Slice.Eq.{bytes_eq-Decides}
use Rattle.iol_isdu.specs.declared.values.Request.{Request}
use Rattle.iol_isdu.specs.declared.values.Answer.{Answer}
use Rattle.iol_far.specs.declared.kind.HandsOver.{HandsOver}
use Rattle.iol_far.specs.declared.kind.HandsOver.TheVariants.{FirstRead, LastSegment}
use Rattle.iol_far.specs.Isdu.{IsduState, Handed, Answered, fits}
use Rattle.iol_judge.specs.declared.partial.PartialAnswer.{PartialAnswer}
use Rattle.iol_judge.specs.declared.transfer.Transfer.{Transfer}
use Rattle.iol_judge.specs.declared.transfer.Transfer.TheVariants as known
use Rattle.iol_judge.specs.Answers.{unread_answer, same_partial}
use Rattle.iol_judge.specs.Transfers.{covers_transfer}
use Rattle.iol_judge.specs.UnderWay.{IsUnderWay, IsHanded, IsAnswerAsked, IsAnswered, HasUnderWay}
use Rattle.iol_judge.specs.declared.open.Open.{Open}
use Rattle.iol_judge.specs.State.{KnownState, are_alike, covers, covers_alike, is_command, startup_state, woken_state, powered_state}
use Rattle.iol_judge.specs.Taking.{and_then}
use Rattle.iol_judge.specs.Judged.{each_in_turn, states_with, has_state, uncovered_states, united_state}
use Rattle.iol_far.specs.declared.kind.Kind.{Kind}
use Rattle.iol_far.specs.declared.kind.Recalls.{Recalls}
use Rattle.iol_far.specs.declared.kind.Recalls.TheVariants.{UntilLeft, UntilSent}
use Rattle.iol_far.specs.declared.mode.DeviceMode.{DeviceMode}
use Rattle.iol_far.specs.Level.{link_of}
use Rattle.iol_judge.specs.declared.transfer.Transfer.TheVariants.{Quiet}
use Rattle.iol_judge.specs.declared.kinds.Kinds.{Kinds}
use Rattle.iol_judge.specs.Family.{both_kinds, admits_kind, kinds_within}
use Rattle.iol_judge.proofs.Known.{nothing_known, same_known, set_agrees}
use Rattle.iol_judge.proofs.Sending.{AllTexts}
use Rattle.iol_far.specs.Local.{LocalStep, local, locals, carried_by, far_after_wake}

-- Events: what is known of them holds through all that a device does, and explains what it shows

-- By itself

pub raised_shown : (shown : ShownEvents) (memory : Events) (event : Event) → AreAsKnown shown memory
    → AreAsKnown shown (events_after_raise memory event)
raised_shown shown memory event s = grind (arith, common_steps)

-- A message, and a wake-up request

pub released_free : (memory : Events) → IsReleased (events_after_release memory)
released_free memory = grind (arith, common_steps)

pub worked_shown : (shown : ShownEvents) (memory : Events) (confirm : Bool)
    → AreAsKnown shown memory
    → AreAsKnown (shown_after shown confirm) (events_after memory confirm)
worked_shown shown memory confirm s = grind (arith, common_steps)

-- What the first allows whatever the second does

pub known_in_preserves : (a b : Option ℕ) (P : ℕ → Type 0) → is_known_in a b ≡ true → IfSome b P
    → IfSome a P
known_in_preserves a b P h s = grind (arith, common_steps)

known_in_all : (a b : List (Option ℕ)) (k : ℕ) (P : ℕ → Type 0) → pointwise is_known_in a b ≡ true
    → IfSome (slice_index_or b k None) P → IfSome (slice_index_or a k None) P
known_in_all [] [] k P h p = p
known_in_all (x ∷ a) (y ∷ b) zero P h p = known_in_preserves x y P (and_parts _ _ h).0 p
known_in_all (x ∷ a) (y ∷ b) (suc k) P h p = known_in_all a b k P (and_parts _ _ h).1 p
known_in_all a b k P h p = absurd (cc)

pub covers_shown : (a b : ShownEvents) (memory : Events) → covers_events a b ≡ true
    → AreAsKnown b memory
    → AreAsKnown a memory
covers_shown a b memory h s = grind (arith, common_steps, known_in_all)

-- The Event flag

pub flag_fits : (shown : ShownEvents) (memory : Events) → AreAsKnown shown memory
    → flag_fault shown (not (is_empty memory.frozen)) ≡ None
flag_fits shown memory s = grind (arith, common_steps)

pub flagged_shown : (shown : ShownEvents) (memory : Events) → length memory.frozen ≤ 6
    → AreAsKnown shown memory → AreAsKnown (flag_updated shown (not (is_empty memory.frozen)))
    memory
flagged_shown shown memory six s = grind (arith, common_steps, nothing_known)

-- The octets of the diagnosis channel

-- once the flag was had, the places are the device's
places_in : (shown : ShownEvents) (memory : Events) → length memory.frozen ≤ 6
    → AreAsKnown shown memory
    → AreIn (places_of (flag_updated shown (not (is_empty memory.frozen)))) memory.frozen
places_in shown memory six s = grind (arith, common_steps, nothing_known)

marks_length : (n : ℕ) → n ≤ 6 → marked_count (128 + (2 ^ n - 1)) ≡ Some n
marks_length zero h = refl
marks_length (suc zero) h = refl
marks_length (suc (suc zero)) h = refl
marks_length (suc (suc (suc zero))) h = refl
marks_length (suc (suc (suc (suc zero)))) h = refl
marks_length (suc (suc (suc (suc (suc zero))))) h = refl
marks_length (suc (suc (suc (suc (suc (suc zero)))))) h = refl
marks_length (suc (suc (suc (suc (suc (suc (suc n))))))) h = absurd (omega arith)

-- an octet that isn't 0 stands in a filled place
filled_or : (f : List Event) (i part most : ℕ) → length f ≤ most
    → (place_octet (slice_get f i) part == 0 || nat_lt i most) ≡ true
filled_or f i part most fewer = grind (arith, common_steps, slice_get_past)

filled_below : (f : List Event) (i part : ℕ) → (place_octet (slice_get f i) part == 0) ≡ false
    → i < length f
filled_below f i part h = grind (arith, common_steps, slice_get_past)

above_zero : (address : ℕ) → (address == 0) ≡ false → suc (address - 1) ≡ address
above_zero address e = grind (arith, common_steps)

module _ (f : List Event) (address : ℕ) where
  is_status : (address == 0) ≡ true → event_octet f address ≡ status_code f
  unfolding event_octet
  is_status e = rw e refl

  is_place : (address == 0) ≡ false
      → event_octet f address ≡ place_octet (slice_get f ((address - 1) / 3)) ((address - 1) % 3)
  unfolding event_octet
  is_place e = rw e refl

  module _ (places : FilledPlaces) (six : length f ≤ 6) (s : AreIn places f) where
    marks : (address == 0) ≡ true → marked_count (event_octet f address) ≡ Some (length f)
    marks e = ap marked_count (is_status e) ∙ marks_length _ six

    known_there : (address == 0) ≡ false
        → is_other (place_known places.octets address) (event_octet f address) ≡ false
    known_there e = grind (arith, common_steps, same_known, above_zero)

    filled_there : (address == 0) ≡ false
        → (event_octet f address == 0 || nat_lt ((address - 1) / 3) places.most) ≡ true
    filled_there e = rw (is_place e) (filled_or f _ _ _ s.most)

    pub octet_fits : places_fault places address (event_octet f address) ≡ None
    octet_fits = grind (arith, common_steps, marks, filled_there, known_there)

    least_in : (address == 0) ≡ false → (if event_octet f address == 0 then places.least
        else max places.least ((address - 1) / 3 + 1)) ≤ length f
    least_in e = grind (arith, common_steps, filled_below, is_place)

    octet_in : (address == 0) ≡ false
        → AreIn (octet_updated places address (event_octet f address)) f
    octet_in e = grind (arith, common_steps, least_in, set_agrees, above_zero)

    pub updated_in : AreIn (places_updated places address (event_octet f address)) f
    updated_in = grind (arith, common_steps, marks, octet_in)

-- a reply to a read of the diagnosis channel
pub events_fit : (shown : ShownEvents) (memory : Events) → length memory.frozen ≤ 6
    → AreAsKnown shown memory → (address : ℕ)
    → events_fault (flag_updated shown (not (is_empty memory.frozen))) address
    (event_octet memory.frozen address) ≡ None
events_fit shown memory six s address = octet_fits memory.frozen address
    (places_of (flag_updated shown (not (is_empty memory.frozen)))) six
    (places_in shown memory six s)

pub updated_shown : (shown : ShownEvents) (memory : Events) → length memory.frozen ≤ 6
    → AreAsKnown shown memory → (address : ℕ)
    → AreAsKnown (events_updated shown address (event_octet memory.frozen address)) memory
updated_shown (Filled places) memory six s address = (s.0, s.1, updated_in _ address places six s.2)
updated_shown shown memory six s address = s

-- What a transfer covers

pub asked_covers : (hands_over : HandsOver) (counted : Option ℕ) (read : Bool) (last : Option ℕ)
    (state : IsduState) → IsHanded hands_over counted read last state
    → IsAnswerAsked hands_over counted read last state
asked_covers hands_over counted read last state h = grind arith

octet_same : (a b : Option ℕ) → option_eq nat_eq a b ≡ true → a ≡ b
octet_same a b e = grind (arith, common_steps)

octets_same : (a b : List (Option ℕ)) → pointwise (option_eq nat_eq) a b ≡ true → a ≡ b
octets_same [] [] e = refl
octets_same (x ∷ a) (y ∷ b) e =
    let first : x ≡ y = octet_same x y (and_parts _ _ e).0 in
    let rest : a ≡ b = octets_same a b (and_parts _ _ e).1 in
    cc
octets_same a b e = absurd (cc)

partial_same : (a b : PartialAnswer) → same_partial a b ≡ true → a ≡ b
partial_same a b e =
    let octets : a.octets ≡ b.octets = octets_same _ _
    (and_parts _ _ (and_parts _ _ (and_parts _ _ (and_parts _ _ e).0).0).0).1 in
    grind (arith, common_steps, booleans_Decides)

-- a segment was sent, and none was had: it is the first
none_first : (size sent : ℕ) → 1 ≤ size → 0 ≡ sent * size → sent ≡ 0
none_first size zero some at = refl
none_first size (suc sent) some at = absurd (omega (arith, some))

module _ (hands_over : HandsOver) (counted : Option ℕ) (size : ℕ) (some : 1 ≤ size) where
  none_covers : (read : Bool) (last : Option ℕ) (state : IsduState)
      → IsAnswered size (unread_answer read) state
      → IsAnswerAsked hands_over counted read last state
  none_covers read last state h = grind (arith, common_steps, none_first)

  pub covers_under_way : (a b : Transfer) (state : IsduState) → covers_transfer a b ≡ true
      → IsUnderWay hands_over counted size b state → IsUnderWay hands_over counted size a state
  covers_under_way known.Free b state e h = tt
  covers_under_way known.Quiet known.Quiet state e h = h
  covers_under_way (known.Receiving text last) (known.Receiving others other) state e h =
      grind (arith, common_steps, bytes_eq-Decides)
  covers_under_way (known.Whole read last) (known.Whole reads other) state e h =
      grind (arith, common_steps, booleans_Decides)
  covers_under_way (known.Handed read last) (known.Handed reads other) state e h =
      grind (arith, common_steps, booleans_Decides)
  covers_under_way (known.Asked read last) (known.Handed reads other) state e h =
      grind (arith, common_steps, booleans_Decides)
  covers_under_way (known.Asked read last) (known.Asked reads other) state e h =
      grind (arith, common_steps, booleans_Decides)
  covers_under_way (known.Asked read last) (known.Answered other) state e h =
      none_covers read last state (rw (partial_same (unread_answer read) other e) h)
  covers_under_way (known.Answered partial) (known.Answered other) state e h =
      rw (partial_same partial other e) h
  covers_under_way (known.Perhaps partial) (known.Answered other) state e h =
      inl (rw (partial_same partial other e) h)
  covers_under_way (known.Perhaps partial) (known.Perhaps other) state e h =
      rw (partial_same partial other e) h
  covers_under_way (known.Perhaps partial) known.Quiet state e h = inr h
  covers_under_way a b state e h = absurd (cc)

-- once the application answered
pub handed_answers : (hands_over : HandsOver) (counted : Option ℕ) (size : ℕ)
    (transfer : Transfer) (request : Request) (answer : Answer)
    → fits request answer ≡ true → IsUnderWay hands_over counted size transfer (Handed request)
    → IsUnderWay hands_over counted size transfer (Answered request answer None)
handed_answers hands_over counted size transfer request answer e h = grind arith

-- Steps for each item in turn

-- what goes on with a result had one
pub bound : {A B : Type 0} (r : Result A Open) (go : A → Result B Open) {out : B}
    → and_then r go ≡ Ok out → (a : A) × (r ≡ Ok a) × (go a ≡ Ok out)
bound (Ok a) go h = (a, refl, h)
bound (Err why) go h = absurd (cc)

-- what a step keeps, and what it gains by an item
abbrev pub Preserves : {S A : Type 0} → (A → S → Result A Open) → (A → Type 0) → Type 0
Preserves {S = S} {A = A} step P =
    (next : A) (item : S) (more : A) → step next item ≡ Ok more → P next → P more

abbrev pub Gains : {S A : Type 0} → (A → S → Result A Open) → (S → Type 0) → (A → Type 0) → Type 0
Gains {S = S} {A = A} step Q P =
    (next : A) (item : S) (more : A) → step next item ≡ Ok more → Q item → P more

-- one of the states stands for the device
abbrev pub Left : Far → List KnownState → Type 0
Left far states = One (λ state. Admits state far) states

module _ {S A : Type 0} {step : A → S → Result A Open} {P : A → Type 0}
    (preserves : Preserves step P) where
  -- so do all of them
  pub each_preserves : (items : List S) (next out : A) → each_in_turn step next items ≡ Ok out
      → P next → P out
  each_preserves [] next out h p = let e : next ≡ out = cc in rw e at p
  each_preserves (item ∷ items) next out h p =
      let s = bound _ _ h in
      each_preserves items s.0 out s.2 (preserves next item s.0 s.1 p)

  -- what the step of one of the items gains, is so in the end
  pub each_gains : {Q : S → Type 0} → Gains step Q P → (items : List S) (next out : A)
      → each_in_turn step next items ≡ Ok out → One Q items → P out
  each_gains gains [] next out h has = absurd has
  each_gains gains (item ∷ items) next out h has =
      let s = bound _ _ h in
      elim has [
        | inl here ↦ each_preserves items s.0 out s.2 (gains next item s.0 s.1 here)
        | inr there ↦ each_gains gains items s.0 out s.2 there
      ]

-- Sets of states

-- what holds of the four kinds holds of each
pub of_kinds : (P : HandsOver → Recalls → Type 0) → P FirstRead UntilLeft → P FirstRead UntilSent
    → P LastSegment UntilLeft → P LastSegment UntilSent → (hands_over : HandsOver)
    (recalls : Recalls) → P hands_over recalls
of_kinds P a b c d hands_over recalls = grind arith

-- with those of another set, it has what it had
pub both_has : (a b : Kinds) (kind : Kind) → admits_kind a kind ≡ true
    → admits_kind (both_kinds a b) kind ≡ true
both_has a b kind e = grind arith

pub other_has : (a b : Kinds) (kind : Kind) → admits_kind b kind ≡ true
    → admits_kind (both_kinds a b) kind ≡ true
other_has a b kind e = grind arith

-- segments have octets, in whatever layout
abbrev pub HasSegments : Far → Type 0
HasSegments far = 1 ≤ (layout_of far).od

option_same : {A : Type 0} (eq : A → A → Bool) → ((a b : A) → eq a b ≡ true → a ≡ b)
    → (a b : Option A) → option_eq eq a b ≡ true → a ≡ b
option_same eq same a b e = grind (arith, common_steps)

same_mode : (a b : DeviceMode) → is_mode a b ≡ true → a ≡ b
same_mode a b h = grind arith

same_command : (a b : WaitingCommand) → is_command a b ≡ true → a ≡ b
same_command a b h = grind (arith, common_steps, bytes_eq-Decides)

alike_admits : (a b : KnownState) (far : Far) → HasSegments far → covers_alike a b ≡ true
    → admits_kind a.kinds far.kind ≡ true → Admits b far → Admits a far
alike_admits a b far some h kind s =
    grind (
      arith,
      common_steps,
      and_parts,
      same_mode,
      option_same,
      same_command,
      known_in_preserves,
      covers_shown,
      covers_under_way,
    )

-- a kind of the first is one of the second
within_has : (a b : Kinds) (kind : Kind) → kinds_within a b ≡ true → admits_kind a kind ≡ true
    → admits_kind b kind ≡ true
within_has a b kind h e = grind arith

covers_admits : (a b : KnownState) (far : Far) → HasSegments far → covers a b ≡ true → Admits b far
    → Admits a far
covers_admits a b far some h s =
    let parts = and_parts _ _ h in
    alike_admits a b far some parts.1 (within_has b.kinds a.kinds _ parts.0 s.kind) s

has_admits : (states : List KnownState) (state : KnownState) (far : Far) → HasSegments far
    → has_state states state ≡ true → Admits state far → Left far states
has_admits [] state far some h admits = absurd (cc)
has_admits (x ∷ states) state far some h admits =
    elim (or_cases _ _ h) [
      | inl e ↦ inl (covers_admits x state far some e admits)
      | inr rest ↦ inr (has_admits states state far some rest admits)
    ]

-- the one at the end
last_admits : (states : List KnownState) (state : KnownState) (far : Far) → Admits state far
    → Left far (states ++ state ∷ [])
last_admits [] state far h = inl h
last_admits (x ∷ states) state far h = inr (last_admits states state far h)

-- a state takes the place of those that it covers
front_admits : (states : List KnownState) (state : KnownState) (far : Far) → HasSegments far
    → Left far states
    → Left far (uncovered_states states state ++ state ∷ [])
front_admits [] state far some h = absurd h
front_admits (x ∷ states) state far some h =
    split (covers state x) refl h (λ rest. front_admits states state far some rest)
  where
    split : (b : Bool) → covers state x ≡ b → Admits x far ⊎ Left far states
        → (Left far states → Left far (uncovered_states states state ++ state ∷ []))
        → Left far ((if not b then x ∷ uncovered_states states state else uncovered_states
        states state)
        ++ state ∷ [])
    split true e (inl here) go = last_admits _ state far (covers_admits state x far some e here)
    split true e (inr there) go = go there
    split false e (inl here) go = inl here
    split false e (inr there) go = inr (go there)

-- a state with the kinds of those that are alike stands for what it did
united_admits : (states : List KnownState) (state : KnownState) (far : Far) → Admits state far
    → Admits (united_state states state) far
united_admits [] state far h = h
united_admits (x ∷ states) state far h =
    let more : KnownState = record state { kinds = both_kinds state.kinds x.kinds } in
    united_admits states (if are_alike x state then more else state) far
    (cond_both (are_alike x state) more state (λ (s : KnownState). Admits s far)
    (λ e. grind (arith, common_steps, both_has)) (λ e. h))

-- a state that is added is covered, or takes the place of others
added_next : (states : List KnownState) (state : KnownState) (next : List KnownState)
    → states_with states state ≡ Ok next → ((has_state states state ≡ true) × (states ≡ next))
    ⊎ (uncovered_states states (united_state states state) ++ united_state states state ∷ [] ≡ next)
added_next states state next h = grind (arith, common_steps)

module _ (texts : AllTexts) (far : Far) where
  -- what was admitted still is
  pub added_preserves : Preserves states_with (Left far)
  added_preserves states state next h admits = grind (arith, common_steps, added_next, front_admits)

  -- and so is what the state admits that is added
  pub added_admits : Gains states_with (λ state. Admits state far) (Left far)
  added_admits states state next h admits =
      grind (arith, common_steps, added_next, has_admits, last_admits, united_admits)

-- What a device does by itself, and at a wake-up

-- the parts that a state and the page's octets speak of are the same, and what is known of its
-- events holds
pub record Alike (far new : Far) : Type 0 where
  pub kind : new.kind ≡ far.kind
  pub link : link_of new ≡ link_of far
  pub cycle : new.cycle_time ≡ far.cycle_time
  pub page : new.page ≡ far.page
  pub events : (known : ShownEvents) → AreAsKnown (if far.awake then known else Fresh) far.events
      → AreAsKnown (if new.awake then known else Fresh) new.events
  pub isdu : (known : Transfer) → HasUnderWay far (if far.awake then known else Quiet)
      → HasUnderWay new (if new.awake then known else Quiet)

with_input : (far : Far) (input : Option (List ℕ)) → Alike far (record far { input = input })
with_input far input = grind (arith, common_steps)

itself : (far : Far) → Alike far far
itself far = with_input far _

carried_alike : (state : IsduState) (far : Far) (answer : Answer) → far.isdu ≡ state
    → Alike far (carried_by state far answer)
carried_alike state far answer is = grind (arith, common_steps, handed_answers, itself)

local_alike : (far : Far) (step : LocalStep) → Alike far (local far step)
local_alike far step =
    grind (arith, common_steps, carried_alike, raised_shown, cond_both, with_input, itself)

then_alike : (a b c : Far) → Alike a b → Alike b c → Alike a c
then_alike a b c l r = grind (arith, common_steps)

pub locals_alike : (far : Far) (steps : List LocalStep) → Alike far (locals far steps)
locals_alike far [] = itself far
locals_alike far (step ∷ steps) = then_alike far _ _
    (local_alike far step) (locals_alike (local far step) steps)

pub admits_alike : (state : KnownState) (far new : Far) → Alike far new → Admits state far
    → Admits state new
admits_alike state far new same h = grind (arith, common_steps)

pub one_alike : (states : List KnownState) (far new : Far) → Alike far new → Left far states
    → Left new states
one_alike [] far new same h = absurd h
one_alike (state ∷ states) far new same h = elim h [
  | inl here ↦ inl (admits_alike state far new same here)
  | inr there ↦ inr (one_alike states far new same there)
]

woken_as : (state : KnownState) (far : Far) → Admits state far → (shown : ShownEvents)
    → AreAsKnown shown far.events
    → Admits (startup_state state.kinds state.cycle (shown_after shown false)) (far_after_wake far)
woken_as state far h shown s = grind (arith, common_steps, worked_shown)

pub woken_admits : (state : KnownState) (far : Far) → Admits state far
    → Left (far_after_wake far) (woken_state state ∷ powered_state state ∷ [])
woken_admits state far h = grind (arith, common_steps, woken_as)
