-- What hearing and local steps keep, whatever is under way, and what a reply tells of the mode.
-- For the clauses of `laws::links_stay_level`, `laws::devices_leave_their_mode`,
--     `laws::ends_stay_level` and 7 more.
use Rattle.std.proofs.Common.{◌≡◌, suc, ◌⊎◌, inl, inr, ℕ, ◌+◌, ◌≤◌, Bool, true, false, ◌&&◌, List, [], ◌∷◌, ◌++◌, refl, sym, ap, subst, arith}
use Rattle.std.proofs.lemmas.Bool.{cond_both}
use Rattle.std.proofs.lemmas.Bool.Decides.{nat_tests}
use Rattle.std.proofs.lemmas.Grind.{common_steps}
use Rattle.std.proofs.lemmas.Slice.Eq.{bytes_eq-Decides}
use Rattle.std.specs.Prelude.{Option, Some, None, IfSome, IsTrue, if◌then◌else◌, ◌==◌, bytes_eq}
use Rattle.iol_mseq.specs.Shape.{Shape}
use Rattle.iol_mseq.specs.declared.master.MasterMsg.{MasterMsg}
use Rattle.iol_event.specs.declared.event.Event.{Event}
use Rattle.iol_event.specs.Memory.{Events}
use Rattle.iol_isdu.specs.declared.values.Request.{Request}
use Rattle.iol_isdu.specs.declared.values.Answer.{Answer}
use Rattle.iol_far.specs.declared.mode.DeviceMode.{DeviceMode}
use Rattle.iol_far.specs.Codec.{message_in, layout_in}
use Rattle.iol_far.specs.Isdu.{IsduState, Handed, Answered, fits}
use Rattle.iol_far.specs.Far.{Far, WaitingCommand, HearResult, layout_of, accepted_message, accepted_by, far_in_mode, far_after_message, hear, heard_as, with_reply}
use Rattle.iol_far.specs.History.{HistoryEntry}
use Rattle.iol_far.specs.Local.{LocalStep, Carry, Raise, Input, NoInput, Power, local, with_input, carried_by, has_room, is_input}
use Rattle.iol_far.specs.Level.{grown_by, Happening, Own, Hears, far_after_all, hearings, FarLink, accepting_link, turned_link}
use Rattle.iol_far.specs.Linked.{IsAt, IsLinked, LinkSays, LinkLaws}
use Rattle.iol_far.specs.declared.carried.Carried.{Carried}

pub same_octets : (o : List ℕ) (w : WaitingCommand) → bytes_eq o w.octets ≡ true → w.octets ≡ o
same_octets o w same = grind (arith, common_steps, bytes_eq-Decides o w.octets)

pub bytes_same : (xs : List ℕ) → bytes_eq xs xs ≡ true
bytes_same [] = refl
bytes_same (x ∷ xs) = let e : (x == x) ≡ true = grind (arith, nat_tests) in rw e (bytes_same xs)

-- Hearing

-- it is this one, or this one in the layout that a waiting command asks for
abbrev pub IsHere : Far → Far → Type 0
IsHere far there = (there ≡ far)
    ⊎ ((w : WaitingCommand) × (far.waits ≡ Some w) × (there ≡ far_in_mode far w.into))

pub preserved_here : (P : Far → Type 0) (far there : Far)
    → ((w : WaitingCommand) → far.waits ≡ Some w → P (far_in_mode far w.into)) → P far
    → IsHere far there → P there
preserved_here P far there moves h (inl e) = subst P (sym e) h
preserved_here P far there moves h (inr (w, waits, e)) = subst P (sym e) (moves w waits)

-- the far end in which octets are accepted: the message is one of its layout, and what waits there
-- are these octets
pub record Accepts (far : Far) (o : List ℕ) (there : Far) (m : MasterMsg) : Type 0 where
  pub awake : there.awake ≡ true
  pub here : IsHere far there
  pub reads : message_in (layout_of there) o ≡ Some m
  pub mine : IfSome there.waits (λ w. w.octets ≡ o)

pub accepts : (far : Far) (o : List ℕ) (there : Far) (m : MasterMsg)
    → accepted_message far o ≡ Some (there, m) → Accepts far o there m
accepts far o there m h = grind (arith, common_steps, same_octets o)

-- what hearing leaves, where the octets are accepted and where they are not
pub heard_found : (P : HearResult → Type 0) (far : Far) (o : List ℕ)
    → P (record { far = far; reply = None })
    → ((there : Far) (m : MasterMsg) → Accepts far o there m
    → P (with_reply (far_after_message there o m) m))
    → P (hear far o)
heard_found P far o unheard heard = split (accepted_message far o) refl
  where
    split : (q : Option (Far × MasterMsg)) → accepted_message far o ≡ q → P (heard_as far o q)
    split None e = unheard
    split (Some (there, m)) e = heard there m (accepts far o there m e)

-- what working a message and taking a layout keep, hearing keeps
pub keeps_hear : (P : Far → Type 0) (o : List ℕ)
    → ((far : Far) (m : MasterMsg) (layout : Shape) → message_in layout o ≡ Some m → P far
    → P (far_after_message far o m))
    → ((far : Far) (mode : DeviceMode) → P far → P (far_in_mode far mode))
    → (far : Far) → P far → P (hear far o).far
keeps_hear P o works moves far h =
    heard_found (λ (x : HearResult). P x.far) far o h (λ there m a.
    works there m (layout_of there) a.reads
    (preserved_here P far there (λ w waits. moves far w.into h) h a.here))

-- asleep it hears nothing
pub hear_asleep : (g : Far) (o : List ℕ) → g.awake ≡ false
    → hear g o ≡ record { far = g; reply = None }
hear_asleep g o w = ap (λ (b : Bool). heard_as g o (if b then accepted_by g.waits g o else None)) w

pub asleep_silent : (g : Far) (o r : List ℕ) → g.awake ≡ false → (hear g o).reply ≡ Some r → ⊥
asleep_silent g o r w e = grind (arith, common_steps)

-- a message of the present layout is accepted, where what waits are its octets
pub accepted_twice : (o : List ℕ) (m : MasterMsg) (g : Far) → g.awake ≡ true
    → IfSome g.waits (λ w. w.octets ≡ o) → message_in (layout_of g) o ≡ Some m
    → accepted_message g o ≡ Some (g, m)
accepted_twice o m g awake mine reads = grind (arith, common_steps, bytes_same o)

-- Local steps

-- what the parts that a local step changes leave, it keeps
module _ (P : Far → Type 0) (g : Far)
    (carries : (q : Request) (a : Answer) → g.isdu ≡ Handed q → IsTrue (fits q a)
    → P (record g { isdu = Answered q a None; carried = grown_by g.carried q a }))
    (raises : (e : Event) → P (local g (Raise e)))
    (inputs : (image : Option (List ℕ)) → IfSome image (λ octets. is_input g octets ≡ true)
    → P (with_input g image))
    (power : P (local g Power)) where
  keeps_carried : (a : Answer) (s : IsduState) → g.isdu ≡ s → P g → P (carried_by s g a)
  keeps_carried a (Handed q) e h = cond_both (has_room g && fits q a) _ _ P
      (λ k. carries q a e (grind (arith, nat_tests, common_steps))) (λ k. h)
  keeps_carried a s e h = h

  pub keeps_local : (step : LocalStep) → P g → P (local g step)
  keeps_local (Carry a) h = keeps_carried a g.isdu refl h
  keeps_local (Raise e) h = raises e
  keeps_local (Input image) h =
      cond_both (is_input g image) _ _ P (inputs (Some image)) (λ e. h)
  keeps_local NoInput h = inputs None tt
  keeps_local Power h = power

-- While a message is out

happened_more : (rest more : List Happening) (g : Far) (o : List ℕ)
    → (far_after_all g o (rest ++ more) ≡ far_after_all (far_after_all g o rest) o more)
    × (hearings (rest ++ more) ≡ hearings rest + hearings more)
happened_more [] more g o = (refl, omega arith)
happened_more (Own step ∷ rest) more g o = happened_more rest more (local g step) o
happened_more (Hears ∷ rest) more g o =
    let both = happened_more rest more (hear g o).far o in (both.0, omega arith)

-- the far end rests, or it comes from a state before the message that is out by local steps and at
-- most that many hearings of it
module _ (Rests Before : Far → Type 0) (o : List ℕ) where
  abbrev pub IsOut : ℕ → Far → Type 0
  IsOut most g = Rests g
      ⊎ ((before : Far) × (rest : List Happening) × Before before × (hearings rest ≤ most)
      × (g ≡ far_after_all before o rest))

  pub out_begins : (g : Far) → Before g → IsOut 0 g
  out_begins g h = inr (g, [], h, omega arith, refl)

  -- whatever happens
  pub out_after : (more : List Happening) (most limit : ℕ) (g : Far)
      → most + hearings more ≤ limit → (Rests g → Rests (far_after_all g o more))
      → IsOut most g → IsOut limit (far_after_all g o more)
  out_after more most limit g few rests (inl h) = inl (rests h)
  out_after more most limit g few rests (inr (before, rest, h, low, e)) =
      let both = happened_more rest more before o in
      inr (before, rest ++ more, h, omega arith, rw (e, ← both.0) refl)

-- What one good reply tells of the far end's mode, and what keeps both ends in one layout

-- the far end in the layout in which it accepts the octets
abbrev pub there_by : Option WaitingCommand → Far → List ℕ → Far
there_by None g o = g
there_by (Some w) g o = if bytes_eq o w.octets then g else far_in_mode g w.into

-- local steps but a power cycle change neither the link nor whether it is awake
pub at_beside : {page : List ℕ} {link : FarLink} {g : Far} {s : IsduState} {carried : List Carried}
    {events : Events} {input : Option (List ℕ)} {history : List HistoryEntry} → IsAt page link g
    → IsAt page link (record g {
      isdu = s;
      carried = carried;
      events = events;
      input = input;
      history = history;
    })
at_beside h = record { awake = h.awake; page_is = h.page_is; link_is = h.link_is }

module _ (page : List ℕ) (link : FarLink) (o : List ℕ) (m : MasterMsg)
    (spells : message_in (layout_in page (accepting_link link o).mode) o ≡ Some m) where
  -- where the message wasn't heard yet
  module _ (g : Far) (at : IsAt page link g) where
    pub first_accepted : accepted_message g o ≡ Some (there_by g.waits g o, m)
    first_accepted = grind (arith, common_steps)

    pub first_says : LinkSays page link o m
        (with_reply (far_after_message (there_by g.waits g o) o m) m)
    first_says = grind (arith, common_steps)

  -- and where it was
  module _ (g : Far) (at : IsAt page (turned_link page link o m) g) where
    pub repeat_accepted : accepted_message g o ≡ Some (g, m)
    repeat_accepted = grind (arith, common_steps, same_octets o, bytes_same o)

    pub repeat_says : LinkSays page link o m (with_reply (far_after_message g o m) m)
    repeat_says = grind (arith, common_steps)

  data Linking (g : Far) : Type 0 where
    asleep : g.awake ≡ false → g.page ≡ page → Linking g
    unheard : IsAt page link g → Linking g
    heard : IsAt page (turned_link page link o m) g → Linking g

  hear_linking : (g : Far) → Linking g → (g.awake ≡ false) ⊎ LinkSays page link o m (hear g o)
  hear_linking g (asleep w s) = inl w
  hear_linking g (unheard h) =
      inr (subst (LinkSays page link o m) (sym (ap (heard_as g o) (first_accepted g h)))
      (first_says g h))
  hear_linking g (heard h) =
      inr (subst (LinkSays page link o m) (sym (ap (heard_as g o) (repeat_accepted g h)))
      (repeat_says g h))

  linking_hear : (g : Far) → Linking g → Linking (hear g o).far
  linking_hear g d = elim (hear_linking g d) [
    | inl w ↦ rw (hear_asleep g o w) d
    | inr says ↦ heard says.at
  ]

  linking_local : (g : Far) (step : LocalStep) → Linking g → Linking (local g step)
  linking_local g step d = grind (arith, common_steps)

  linking_happened : (rest : List Happening) (g : Far) → Linking g
      → Linking (far_after_all g o rest)
  linking_happened [] g d = d
  linking_happened (Own step ∷ rest) g d =
      linking_happened rest (local g step) (linking_local g step d)
  linking_happened (Hears ∷ rest) g d =
      linking_happened rest (hear g o).far (linking_hear g d)

  linking : (most : ℕ) (g : Far) → IsLinked page link o most g → Linking g
  linking most g (inl h) = asleep h.0 h.1
  linking most g (inr (before, rest, h, few, e)) = rw e (linking_happened rest before (unheard h))

  -- another message in its place
  linking_replaced : (most : ℕ) (g : Far) → IsLinked page link o most g → (other : List ℕ)
      → IsLinked page link other 0 g ⊎ IsLinked page (turned_link page link o m) other 0 g
  linking_replaced most g l other = elim (linking most g l) [
    | asleep w s ↦ inl (inl (w, s))
    | unheard h ↦ inl (inr (g, [], h, omega arith, refl))
    | heard h ↦ inr (inr (g, [], h, omega arith, refl))
  ]

-- What keeps both ends so

abbrev Sleeps : List ℕ → Far → Type 0
Sleeps page g = (g.awake ≡ false) × (g.page ≡ page)

happened_unheard : (g : Far) (o other : List ℕ) (rest : List Happening) → hearings rest ≤ 0
    → far_after_all g o rest ≡ far_after_all g other rest
happened_unheard g o other [] h = refl
happened_unheard g o other (Own step ∷ rest) h = happened_unheard (local g step) o other rest h
happened_unheard g o other (Hears ∷ rest) h = absurd (omega (arith, h))

pub link_laws : LinkLaws
link_laws = record {
  stays = λ page link o.
      let after = out_after (Sleeps page) (IsAt page link) o in
      record {
        begins = out_begins (Sleeps page) (IsAt page link) o;
        steps = λ most g step. after (Own step ∷ []) most most g (omega arith)
            (λ h. grind (arith, common_steps));
        hears = λ most g. after (Hears ∷ []) most (suc most) g (omega arith)
            (λ h. rw (hear_asleep g o h.0, far_after_all) h);
        loses = λ most g. after [] most (suc most) g (omega arith) (λ h. h);
      };
  replies = λ page link o m spells most g l r e.
      elim (hear_linking page link o m spells g (linking page link o m spells most g l)) [
        | inl w ↦ absurd (asleep_silent g o r w e)
        | inr says ↦ says
      ];
  replaced = linking_replaced;
  unheard = happened_unheard;
}
