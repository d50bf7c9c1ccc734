-- What one good reply tells the master of a far end of any kind: the state before the next message.
-- For the clauses of `laws::ends_stay_level`.
use Rattle.std.proofs.Common.{◌≡◌, ◌⊎◌, inl, inr, ℕ, suc, ◌+◌, ◌≤◌, Bool, true, false, List, [], ◌∷◌, length, refl, sym, ◌∙◌, ap, subst, arith}
use Rattle.std.proofs.lemmas.Bool.{cases_Bool}
use Rattle.std.proofs.lemmas.Grind.{common_steps}
use Rattle.std.specs.Prelude.{IfSome, Option, Some, None, if◌then◌else◌, IsTrue}
use Rattle.iol_octets.specs.declared.control.Channel.TheVariants.{Isdu}
use Rattle.iol_page.specs.Page.{knows_isdu}
use Rattle.iol_mseq.specs.declared.master.MasterMsg.{MasterMsg}
use Rattle.iol_isdu.specs.declared.values.Request.{Request}
use Rattle.iol_isdu.specs.Texts.{request_text}
use Rattle.iol_segment.specs.Cut.{SegmentsHaveSize}
use Rattle.iol_segment.specs.TextLaws.{TextLaws}
use Rattle.iol_far.specs.declared.carried.Carried.{Carried}
use Rattle.iol_far.specs.declared.kind.Kind.{Kind}
use Rattle.iol_far.specs.declared.kind.HandsOver.{HandsOver}
use Rattle.iol_far.specs.declared.kind.Recalls.{Recalls}
use Rattle.iol_far.specs.declared.kind.Recalls.TheVariants.{UntilSent}
use Rattle.iol_far.specs.Codec.{layout_in, flow_of}
use Rattle.iol_far.specs.Isdu.{Empty, Handed, Answered, isdu_data, fits}
use Rattle.iol_far.specs.Far.{Far, isdu_after, counted_after, far_after_message, HearResult, hear, heard_as, with_reply}
use Rattle.iol_far.specs.Local.{LocalStep, local}
use Rattle.iol_far.specs.History.{HistoryEntry}
use Rattle.iol_far.specs.Level.{IsIdle, Move, Begin, FarLink, accepting_link, turned_link, Happening, Own, Hears, far_after_all, hearings, base_after, Progress, NoneHeld, Perhaps, Stands, IsGrown, IsMove, RecallsAtLeast, hands_whole, IsOutOnce, IsSent, under_way, HasIsduFor, IsLevelBefore, IsLevel, grown_by}
use Rattle.iol_far.specs.Laws.{LevelLaws, ReplySays}
use Rattle.iol_far.proofs.Standing.{request_long, Mid, Needs, Leaves, first_hear, whole_hear, repeat_hear, mid_done, stands_done, mid_grown, stands_grown, begins_by, needs_of, isdu_next, under_way_grown}
use Rattle.iol_far.proofs.Hearings.{hear_asleep, asleep_silent, keeps_local, out_begins, out_after, at_beside, there_by, first_accepted, first_says, repeat_accepted, repeat_says}
use Rattle.iol_event.specs.Memory.{Events, events_after_raise}
use Rattle.iol_far.specs.Linked.{IsAt, LinkSays}
use Rattle.iol_isdu.specs.declared.values.Answer.{Answer}

-- Before a message

module _ {page : List ℕ} {kind : Kind} {size : ℕ} {base : List Carried} {link : FarLink}
    {p : Progress} {g : Far} where
  before_at : IsLevelBefore page kind size base link p g → IsAt page link g
  before_at h = record { awake = h.awake; page_is = h.page_is; link_is = h.link_is }

  before_by : IsAt page link g → g.kind ≡ kind → HasIsduFor page p
      → Stands kind.hands_over size base p g.isdu g.counted g.carried
      → IsLevelBefore page kind size base link p g
  before_by at kind_is isdu stands = assumption

-- no request is under way where a command waits
there_stands : (page : List ℕ) (kind : Kind) (size : ℕ) (base : List Carried) (link : FarLink)
    (p : Progress) (o : List ℕ) (g : Far) → IsLevelBefore page kind size base link p g
    → IfSome link.waits (λ command. IsIdle p) → ((there_by g.waits g o).kind ≡ kind)
    × Stands kind.hands_over size base p (there_by g.waits g o).isdu (there_by g.waits g o).counted
    (there_by g.waits g o).carried
there_stands page kind size base link p o g h idle = grind (arith, common_steps)

-- What the record may have gained

-- only a move that hands a request over has another base, and with it that doesn't matter
base_same : (h : HandsOver) (size : ℕ) (what : Move) (now base carried : List Carried)
    → (hands_whole h size what ≡ false → now ≡ base)
    → base_after what now carried ≡ base_after what base carried
base_same h size what now base carried same = grind (arith, common_steps)

unwhole : (h : HandsOver) (size : ℕ) (base : List Carried) (p : Progress) (what : Move)
    (carried : List Carried) → hands_whole h size what ≡ false
    → IsGrown base (under_way h size p what) carried → IsGrown base p carried
unwhole h size base p what carried more grown = grind (arith, common_steps)

-- The whole far end, while the message is out

module _ (page : List ℕ) (kind : Kind) (size : ℕ) (texts : TextLaws size)
    (sized : SegmentsHaveSize) (base : List Carried) (link : FarLink)
    (p : Progress) (o : List ℕ) (m : MasterMsg) (what : Move)
    (sent : IsSent page size link p o m what)
    (trust : Recalls) (trusts : RecallsAtLeast trust kind.recalls) where
  abbrev Once : ℕ → Type 0
  Once times = IsOutOnce kind.hands_over size what times

  -- at most so many hearings ago
  data During (times : ℕ) (g : Far) : Type 0 where
    asleep : g.awake ≡ false → g.isdu ≡ Empty
        → (Once times → IsGrown base (under_way kind.hands_over size p what) g.carried)
        → During times g
    unheard : IsLevelBefore page kind size base link p g → During times g
    -- with the record as it was when it was handed a request last
    heard : 1 ≤ times → IsAt page (turned_link page link o m) g → g.kind ≡ kind → HasIsduFor page p
        → (now : List Carried) → (Once times → now ≡ base)
        → Mid kind size now p what g.isdu g.counted g.carried → During times g

  needed : HasIsduFor page p → Needs (knows_isdu page) what
  needed has = needs_of size what p m.mc.channel m.mc.read (flow_of m.mc.address) m.od.items
      sent.move page has sent.begins

  once_more : {times : ℕ} → hands_whole kind.hands_over size what ≡ false → Once times
  once_more more whole = absurd (let z : false ≡ true = sym more ∙ whole in cc)

  mid_grown_here : (g : Far) → Mid kind size base p what g.isdu g.counted g.carried
      → IsGrown base (under_way kind.hands_over size p what) g.carried
  mid_grown_here g mid = mid_grown size what p m.mc.channel m.mc.read (flow_of m.mc.address)
      m.od.items sent.move kind base g.isdu g.counted g.carried mid

  module _ (tries : ℕ) where
    -- the message was heard just now
    pub record Just (h : HearResult) : Type 0 where
      pub says : LinkSays page link o m h
      pub kind_is : h.far.kind ≡ kind
      pub isdu : HasIsduFor page p
      pub now : List Carried
      pub same : Once (suc tries) → now ≡ base
      pub leaves : Leaves kind size texts sized trust trusts now p what tries h.far.isdu
          h.far.counted h.far.carried
      pub grown : Once (suc tries) → IsGrown base p h.far.carried

    just_worked : (there : Far) → LinkSays page link o m
        (with_reply (far_after_message there o m) m)
        → there.kind ≡ kind → HasIsduFor page p → (now : List Carried)
        → (Once (suc tries) → now ≡ base) → (Once (suc tries) → IsGrown base p there.carried)
        → Leaves kind size texts sized trust trusts now p what tries
        (isdu_after kind there.counted (knows_isdu page) size there.isdu m.mc.channel m.mc.read
        (flow_of m.mc.address) m.od.items)
        (counted_after kind.hands_over there.counted (knows_isdu page) m.mc.channel m.mc.read
        (flow_of m.mc.address)) there.carried →
        Just (with_reply (far_after_message there o m) m)
    just_worked there says kind_is isdu now same grown left =
        let page_is : there.page ≡ page = says.at.page_is in
        let mode_is : there.mode ≡ (accepting_link link o).mode =
        ap (λ (l : FarLink). l.mode) says.at.link_is
        in let size_is : (layout_in page there.mode).od ≡ size = rw mode_is sent.size_of in
        record {
          says = says;
          kind_is = kind_is;
          isdu = isdu;
          now = now;
          same = same;
          leaves = rw (kind_is, page_is, size_is) left;
          grown = grown;
        }

    hear_unheard : (g : Far) → IsLevelBefore page kind size base link p g → Just (hear g o)
    hear_unheard g h =
        let there = there_by g.waits g o in
        let preserved = there_stands page kind size base link p o g h sent.idle in
        subst Just (sym (ap (heard_as g o)
        (first_accepted page link o m sent.spells g (before_at h))))
        (just_worked there (first_says page link o m sent.spells g (before_at h)) preserved.0
        h.isdu base
        (λ once. refl)
        (λ once. stands_grown kind.hands_over size base p there.counted there.carried there.isdu
        preserved.1) (first_hear kind size texts sized trust trusts base (knows_isdu page) tries
        there.isdu there.counted there.carried p m.mc.channel m.mc.read (flow_of m.mc.address)
        m.od.items what sent.move (needed h.isdu) preserved.1))

  hear_heard : (tries : ℕ) (g : Far) → 1 ≤ tries → IsAt page (turned_link page link o m) g
      → g.kind ≡ kind
      → HasIsduFor page p → (now : List Carried) → (Once tries → now ≡ base)
      → Mid kind size now p what g.isdu g.counted g.carried
      → Just tries (hear g o)
  hear_heard tries g low at kind_is isdu now same mid =
      let by = just_worked tries g (repeat_says page link o m sent.spells g at) kind_is isdu in
      subst (Just tries)
      (sym (ap (heard_as g o) (repeat_accepted page link o m sent.spells g at)))
      (elim (cases_Bool (hands_whole kind.hands_over size what)) [
        | inl whole ↦ by g.carried (λ once. absurd (omega (arith, low, once whole)))
            (λ once. absurd (omega (arith, low, once whole)))
            (whole_hear kind size texts sized trust trusts g.carried (knows_isdu page) tries
            g.isdu g.counted g.carried p m.mc.channel m.mc.read (flow_of m.mc.address) m.od.items
            what whole sent.move (needed isdu) refl)
        | inr more ↦ let base_is : now ≡ base = same (once_more more) in
            let mid : Mid kind size base p what g.isdu g.counted g.carried = rw base_is at mid in
            by base (λ once. refl)
            (λ once. unwhole kind.hands_over size base p what g.carried more (mid_grown_here g mid))
            (repeat_hear kind size texts sized trust trusts base (knows_isdu page) tries g.isdu
            g.counted g.carried low p m.mc.channel m.mc.read (flow_of m.mc.address) m.od.items what
            more sent.move (needed isdu) mid)
      ])

  -- Where the far end answers, both ends have one link, and the far end stands at the progress that
  -- its reply shows
  hear_during : {times : ℕ} (g : Far) → During times g
      → (g.awake ≡ false) ⊎ Just times (hear g o)
  hear_during g (asleep w i k) = inl w
  hear_during {times = times} g (unheard h) = inr (hear_unheard times g h)
  hear_during {times = times} g (heard low at k i now same mid) =
      inr (hear_heard times g low at k i now same mid)

  during_more : (more : ℕ) {times : ℕ} {g : Far} → times ≤ more → During times g → During more g
  during_more more {times} less d = elim d [
    | asleep w i k ↦ asleep w i (λ once. k (fewer once))
    | unheard h ↦ unheard h
    | heard low at k i now same mid ↦
        heard (omega (arith, low, less)) at k i now (λ once. same (fewer once)) mid
  ]
    where
      fewer : Once more → Once times
      fewer once whole = let few : more ≤ 1 = once whole in omega (arith, few, less)

  during_hear : (times : ℕ) (g : Far) → During times g → During (suc times) (hear g o).far
  during_hear times g d = elim (hear_during g d) [
    | inl w ↦ rw (hear_asleep g o w) (during_more (suc times) (omega arith) d)
    | inr j ↦ heard (omega arith) j.says.at j.kind_is j.isdu j.now j.same j.leaves.mid
  ]

  during_grown : {times : ℕ} {g : Far} → During times g → Once times
      → IsGrown base (under_way kind.hands_over size p what) g.carried
  during_grown (asleep w i k) once = k once
  during_grown {g = g} (unheard h) once =
      under_way_grown size what p m.mc.channel m.mc.read (flow_of m.mc.address) m.od.items sent.move
      kind.hands_over base g.carried
      (stands_grown kind.hands_over size base p g.counted g.carried g.isdu h.stands)
  during_grown {g = g} (heard low at k i now same mid) once =
      let now_is = same once in mid_grown_here g (rw now_is at mid)

  during_beside : {times : ℕ} {g : Far} (events : Events) (input : Option (List ℕ))
      (history : List HistoryEntry) → During times g
      → During times (record g { events = events; input = input; history = history })
  during_beside events input history (asleep w i k) = asleep w i k
  during_beside events input history (unheard h) =
      unheard (before_by (at_beside (before_at h)) h.kind_is h.isdu h.stands)
  during_beside events input history (heard low at k i now same mid) =
      heard low (at_beside at) k i now same mid

  -- the application answers
  during_done : {times : ℕ} {g : Far} (q : Request) (a : Answer) → g.isdu ≡ Handed q
      → IsTrue (fits q a) → During times g
      → During times (record g { isdu = Answered q a None; carried = grown_by g.carried q a })
  during_done q a e f (asleep w i k) = absurd (let z : Empty ≡ Handed q = sym i ∙ e in cc)
  during_done {g = g} q a e f (unheard h) =
      let stands = h.stands in
      unheard (before_by (at_beside (before_at h)) h.kind_is h.isdu
      (stands_done kind.hands_over size base p g.counted g.carried q a f (rw e at stands)))
  during_done {g = g} q a e f (heard low at k i now same mid) =
      heard low (at_beside at) k i now same
      (mid_done kind size now p what g.counted q a g.carried f (rw e at mid))

  during_local : {times : ℕ} (g : Far) (step : LocalStep) → During times g
      → During times (local g step)
  during_local {times} g step d =
      keeps_local (During times) g (λ q a e f. during_done q a e f d)
      (λ e. during_beside (events_after_raise g.events e) g.input _ d)
      (λ image f. during_beside g.events image _ d)
      (asleep refl refl (during_grown d)) step d

  during_happened : (most : ℕ) (rest : List Happening) (times : ℕ) (g : Far)
      → times + hearings rest ≤ most → During times g → During most (far_after_all g o rest)
  during_happened most [] times g few d = during_more most (omega (arith, few)) d
  during_happened most (Own step ∷ rest) times g few d =
      during_happened most rest times (local g step) few (during_local g step d)
  during_happened most (Hears ∷ rest) times g few d =
      during_happened most rest (suc times) (hear g o).far (omega (arith, few))
      (during_hear times g d)

  during_level : (most : ℕ) (g : Far) → IsLevel page kind size base link p o most g
      → During most g
  during_level most g (inl h) =
      asleep h.0 h.1 (λ once. under_way_grown size what p m.mc.channel m.mc.read
      (flow_of m.mc.address) m.od.items sent.move kind.hands_over base g.carried h.2)
  during_level most g (inr (before, rest, h, few, e)) =
      rw e (during_happened most rest 0 before (omega (arith, few)) (unheard h))

  pub level_reply : (most : ℕ) (g : Far) → IsLevel page kind size base link p o most g
      → (r : List ℕ) → (hear g o).reply ≡ Some r
      → ReplySays page kind trust most size base link p o m what (hear g o)
  level_reply most g l r e = elim (hear_during g (during_level most g l)) [
    | inl w ↦ absurd (asleep_silent g o r w e)
    | inr j ↦ let base_is = base_same kind.hands_over size what j.now base (hear g o).far.carried
        (λ more. j.same (once_more more)) in
        record {
          before = before_by j.says.at j.kind_is
              (isdu_next size what p m.mc.channel m.mc.read (flow_of m.mc.address) m.od.items
              sent.move page trust most (isdu_data size (hear g o).far.isdu) j.isdu sent.begins)
              (rw (← base_is) j.leaves.stood);
          grown = j.grown;
          reply_is = j.says.reply_is;
        }
  ]

-- asleep it holds nothing of a request
abbrev Sleeps : List Carried → Progress → Far → Type 0
Sleeps base p g = (g.awake ≡ false) × (g.isdu ≡ Empty) × IsGrown base p g.carried

-- The master asks in place of a repeat

-- a message on the ISDU channel changes no link, where no command waits
turned_isdu : (page : List ℕ) (link : FarLink) (o : List ℕ) (m : MasterMsg) → link.waits ≡ None
    → m.mc.channel ≡ Isdu → turned_link page link o m ≡ link
turned_isdu page link o m none isdu =
    grind (arith, common_steps)

module _ (page : List ℕ) (kind : Kind) (size : ℕ) (texts : TextLaws size)
    (sized : SegmentsHaveSize) (base : List Carried) (link : FarLink)
    (o : List ℕ) (m : MasterMsg) (r : Request)
    (sent : IsSent page size link NoneHeld o m (Begin r)) where
  begin_written : (g : Far) → length (request_text r) ≤ size
      → IsMove size (Begin r) NoneHeld m.mc.channel m.mc.read (flow_of m.mc.address) m.od.items
      → Stands kind.hands_over size base NoneHeld g.isdu g.counted g.carried
      → Stands kind.hands_over size base (Perhaps r) g.isdu g.counted g.carried
  begin_written g short move stands = grind (arith, common_steps)

  pub level_wonders : length (request_text r) ≤ size → link.waits ≡ None → (most : ℕ)
      → IsOutOnce kind.hands_over size (Begin r) most → (g : Far)
      → IsLevel page kind size base link NoneHeld o most g → (question : List ℕ)
      → IsLevel page kind size base link (Perhaps r) question 0 g
  level_wonders short none most once g l question =
      elim (during_level page kind size texts sized base link NoneHeld o m (Begin r) sent
      UntilSent tt
      most g l) [
        | asleep w i k ↦ inl (w, i, perhaps (hands_whole kind.hands_over size (Begin r)) (k once))
        | unheard h ↦ out_begins (Sleeps base (Perhaps r)) _ question g (before_by (before_at h)
            h.kind_is sent.begins (begin_written g short sent.move h.stands))
        | heard low at k i now same mid ↦ let now_is = same once in
            let mid = rw now_is at mid in
            let isdu = (begins_by size NoneHeld m.mc.channel m.mc.read (flow_of m.mc.address)
            m.od.items r sent.move).1 in
            let link_is = turned_isdu page link o m none isdu in
            out_begins (Sleeps base (Perhaps r)) _ question g (before_by (rw link_is at at) k
            sent.begins (mid.0, (request_long size r, omega (arith, short)), inr mid.1))
      ]
    where
      perhaps : (b : Bool) → IsGrown base (if b then Perhaps r else NoneHeld) g.carried
          → IsGrown base (Perhaps r) g.carried
      perhaps b grown = grind (arith, common_steps)

-- The laws

pub level_laws : (size : ℕ) → TextLaws size → SegmentsHaveSize → LevelLaws size
level_laws size texts sized = record {
  stays = λ page kind base link p o.
      let after = out_after (Sleeps base p) (IsLevelBefore page kind size base link p) o in
      record {
        begins = out_begins (Sleeps base p) (IsLevelBefore page kind size base link p) o;
        steps = λ most g step. after (Own step ∷ []) most most g (omega arith)
            (λ h. grind (arith, common_steps));
        hears = λ most g. after (Hears ∷ []) most (suc most) g (omega arith)
            (λ h. rw (hear_asleep g o h.0, far_after_all) h);
        loses = λ most g. after [] most (suc most) g (omega arith) (λ h. h);
      };
  replies = λ page kind base link p o m what sent most recalls trusts.
      level_reply page kind size texts sized base link p o m what sent recalls trusts most;
  grown = λ page kind base link p o m what sent most once far level.
      during_grown page kind size texts sized base link p o m what sent UntilSent tt
      (during_level page kind size texts sized base link p o m what sent UntilSent tt most far
      level) once;
  gained = λ page kind base link p far h.
      stands_grown kind.hands_over size base p far.counted far.carried far.isdu h.stands;
  wonders = λ page kind base link o m r sent.
      level_wonders page kind size texts sized base link o m r sent;
  settles = λ page kind base link p far settled h. grind (arith, common_steps);
  wakes = λ far. grind (arith, common_steps);
  idle = λ other page kind base link p far is_idle h. grind (arith, common_steps);
}
