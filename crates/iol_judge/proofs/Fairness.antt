-- The law of the judge.
-- For the clauses of `laws::honest_lines_are_never_blamed`.
use Rattle.std.proofs.lemmas.Grind.{common_steps}
use Rattle.std.proofs.Common.{arith, ◌≡◌, ℕ, zero, suc, Bool, true, false, List, refl, sym, ◌∙◌, ap, subst, ◌⊎◌, inl, inr, [], ◌∷◌}
use Rattle.std.specs.Prelude.{Option, Some, None, is_some, Result, Ok, Err, ◌||◌, if◌then◌else◌, option_map}
use Rattle.iol_mseq.specs.Shape.{Shape}
use Rattle.iol_mseq.specs.Replies.{reply_in}
use Rattle.iol_mseq.specs.declared.master.MasterMsg.{MasterMsg}
use Rattle.iol_link.specs.Honest.{IsUnread, HonestExchange, Passage, OutLost, BackLost, Clean, IsAnswer, far_after}
use Rattle.iol_judge.specs.Replies.{Explanation, By, Not, is_read_in, can_be_read, explanation_of, state_after_reply}
use Rattle.std.proofs.lemmas.Bool.{cond_both}
use Rattle.iol_page.specs.Page.{PagesAskForLayouts}
use Rattle.iol_page.specs.declared.page.Layouts.{Layouts}
use Rattle.iol_event.specs.Memory.{IsEventMemory}
use Rattle.iol_far.specs.declared.mode.DeviceMode.{DeviceMode}
use Rattle.iol_far.specs.declared.mode.DeviceMode.TheVariants.{Startup, Preoperate, Operate}
use Rattle.iol_far.specs.Codec.{layout_in, message_in, reply_octets}
use Rattle.iol_far.specs.Far.{Far, HearResult, layout_of, accepted_message, hear, with_reply, far_after_message, reply_to}
use Rattle.iol_far.specs.Local.{LocalStep, local, locals, far_after_wake}
use Rattle.iol_far.specs.Laws.{IsRegular, IsSized, MuchStays, RepliesAreRead}
use Rattle.iol_far.specs.Regular.{RegularStays}
use Rattle.iol_judge.specs.declared.open.Open.{Open}
use Rattle.iol_judge.specs.declared.reason.Reason.{Reason}
use Rattle.iol_judge.specs.declared.taken.NextStates.{NextStates}
use Rattle.iol_judge.specs.declared.verdict.Verdict.{Verdict}
use Rattle.iol_judge.specs.declared.verdict.Verdict.TheVariants.{Honest, NotHonest}
use Rattle.iol_judge.specs.declared.verdict.Wake.{Wake}
use Rattle.iol_judge.specs.declared.verdict.Wake.TheVariants.{Answered, Unanswered}
use Rattle.iol_far.specs.declared.kind.Kind.{Kind}
use Rattle.iol_judge.specs.declared.kinds.Kinds.{Kinds}
use Rattle.iol_judge.specs.Family.{both_kinds, admits_kind}
use Rattle.iol_judge.specs.Numbers.{later}
use Rattle.iol_judge.specs.Observed.{nothing_observed, whole_page, layouts_observed}
use Rattle.iol_judge.specs.State.{KnownState, parts, powered_state, startup_state, woken_state}
use Rattle.iol_judge.specs.Events.{shown_after}
use Rattle.iol_judge.specs.declared.events.ShownEvents.{ShownEvents}
use Rattle.iol_judge.specs.declared.events.ShownEvents.TheVariants.{Held, Any, Fresh, Filled}
use Rattle.iol_judge.specs.Taking.{Taken, mode_layout, taken_by_state}
use Rattle.iol_judge.specs.Judged.{JudgeState, states_with, added_taken, each_in_turn, lost_into, lost_part, explained_into, replied_part, replied_into, concluded_lost, concluded_replied, odd_for_all, judge_without_reply, judge_after_answer, one_more, judge_after_exchange, woken_states, woken_into, judge_after_wake, kinds_left, kinds_with}
use Rattle.iol_judge.specs.Judged as judging
use Rattle.iol_judge.specs.Octets.{Agrees}
use Rattle.iol_judge.specs.Admitted.{Admits, AreUnanswered, IsPossible, IsFair, Passing, Wakes, Passes, judge_after_passing, judge_after_all, is_answered, IsHonest, IsHonestRun, IsWake, NeverBlamed, One}
use Rattle.iol_judge.proofs.Known.{nothing_known}
use Rattle.iol_judge.proofs.Sets.{Gains, Preserves, bound, each_gains, each_preserves, Left, added_preserves, added_admits, both_has, other_has, released_free, Alike, locals_alike, one_alike, woken_admits}
use Rattle.iol_judge.proofs.Hearing.{IsPart, all_have, parts_admit, Knows, knows, Accepting, accepting, Fits, state_fits}
use Rattle.iol_judge.proofs.Answering.{explains, learned_admits, noted_agrees, worked_sent}
use Rattle.iol_judge.proofs.Sending.{AllTexts}

-- A reply that can be read wasn't damaged

module _ (known : Result Layouts Open) (page sent reply : List ℕ) (knows : Knows known page)
    (unread : IsUnread page sent (Some reply)) where
  not_as : (mode : DeviceMode) (layout : Shape) → layout_in page mode ≡ layout
      → (message : Option MasterMsg) → message_in layout sent ≡ message → (elim message [
        | None ↦ false
        | Some message ↦ is_some (reply_in layout message.mc.read reply)
      ]) ≡ true → ⊥
  not_as mode layout is None e h = cc
  not_as mode layout is (Some message) e h =
      let none : reply_in layout message.mc.read reply ≡ None =
      subst (λ (l : Shape). message_in l sent ≡ Some message
      → reply_in l message.mc.read reply ≡ None) is (unread mode message) e in
      let k : false ≡ true = rw none at h in cc

  not_by : (mode : DeviceMode) (found : Result Shape Open) → mode_layout known mode ≡ found
      → is_read_in found sent reply ≡ true → ⊥
  not_by mode (Err why) is h = cc
  not_by mode (Ok layout) is h = not_as mode layout (knows.layout mode layout is) _ refl h

  either : (a b : Bool) → (a ≡ true → ⊥) → (b ≡ true → ⊥) → (a || b) ≡ true → ⊥
  either true b f g h = f refl
  either false b f g h = g h

  readable_is_unaltered : can_be_read known sent reply ≡ true → ⊥
  readable_is_unaltered = either _ _ (either _ _ (not_by Startup _ refl)
      (not_by Preoperate _ refl)) (not_by Operate _ refl)

-- what the crates below say
pub record Laws : Type 0 where
  pub pages : PagesAskForLayouts
  pub texts : AllTexts

-- What hearing does: nothing, or the message is worked

record Works (far : Far) (sent : List ℕ) : Type 0 where
  pub there : Far
  pub message : MasterMsg
  pub accepting : Accepting far there sent
  pub spells : message_in (layout_of there) sent ≡ Some message
  pub heard_is : hear far sent ≡ with_reply (far_after_message there sent message) message

-- the device, once it worked the message
abbrev worked_by : {far : Far} {sent : List ℕ} → Works far sent → Far
worked_by {sent = sent} work = far_after_message work.there sent work.message

abbrev Unheard : Far → List ℕ → Type 0
Unheard far sent = ((hear far sent).far ≡ far) × ((hear far sent).reply ≡ None)

unheard : (far : Far) (sent : List ℕ) → accepted_message far sent ≡ None → Unheard far sent
unheard far sent none = (rw none refl, rw none refl)

hears : (far : Far) (sent : List ℕ) → Unheard far sent ⊎ Works far sent
hears far sent = split far.awake refl
  where
    read : (there : Far) → Accepting far there sent → (message : Option MasterMsg)
        → message_in (layout_of there) sent ≡ message
        → accepted_message far sent ≡ option_map {U = Far × MasterMsg} (λ n. (there, n)) message
        → Unheard far sent ⊎ Works far sent
    read there accepting None e is = inl (unheard far sent is)
    read there accepting (Some message) e is = inr (record {
      there = there;
      message = message;
      accepting = accepting;
      spells = e;
      heard_is = rw is refl;
    })

    split : (b : Bool) → far.awake ≡ b → Unheard far sent ⊎ Works far sent
    split true e =
        let found = accepting far sent e in
        read found.0 found.1 (message_in (layout_of found.0) sent) refl found.1.accepts
    split false e = inl (unheard far sent (rw e refl))

-- the message was lost, or worked without a reply that can be read
abbrev Follows : Far → List ℕ → Far → Type 0
Follows far sent new = (new ≡ far) ⊎ ((work : Works far sent) × (new ≡ worked_by work))

follows_heard : (far : Far) (sent : List ℕ) → Follows far sent (hear far sent).far
follows_heard far sent = elim (hears far sent) [
  | inl none ↦ inl none.0
  | inr work ↦ inr (work, ap (λ (h : HearResult). h.far) work.heard_is)
]

-- what one of its parts makes of the message is what the device does
part_fits : (known : Result Layouts Open) (sent : List ℕ) (far : Far) → AllTexts
    → Knows known far.page → (part : KnownState) → IsPart far sent part → (work : Works far sent)
    → (found : Option Taken) → taken_by_state known part sent ≡ Ok found
    → Fits work.there sent (Some work.message) found
part_fits known sent far texts knows part is_part work found e = rw work.spells at (state_fits known
    far work.there sent part texts knows work.accepting is_part.0 is_part.1 found e)

-- Without a reply that can be read

module _ (known : Result Layouts Open) (sent : List ℕ) (far new : Far)
    (texts : AllTexts) (knows : Knows known far.page) (follows : Follows far sent new) where
  part_preserves : Preserves (lost_part known sent) (Left new)
  part_preserves mid part more h a = grind (arith, common_steps, bound, added_preserves)

  part_gains : (work : Works far sent) → new ≡ worked_by work
      → Gains (lost_part known sent) (IsPart far sent) (Left new)
  unfolding Fits
  part_gains work is mid part more h is_part =
      let s = bound (taken_by_state known part sent) (added_taken mid) h in
      inner s.0 s.2 (part_fits known sent far texts knows part is_part work s.0 s.1)
    where
      inner : (found : Option Taken) → added_taken mid found ≡ Ok more
          → Fits work.there sent (Some work.message) found → Left new more
      inner None h fits = absurd fits
      inner (Some taken) h fits = added_admits texts new mid taken.state more h (rw is fits.2)

  lost_preserves : Preserves (lost_into known sent) (Left new)
  lost_preserves next state more h a =
      let s = bound _ _ h in
      each_preserves part_preserves (parts state sent) s.0 more s.2
      (added_preserves texts new next state s.0 s.1 a)

  lost_gains : Gains (lost_into known sent) (λ state. Admits state far) (Left new)
  lost_gains next state more h a =
      let s = bound (states_with next state)
      (λ mid. each_in_turn (lost_part known sent) mid (parts state sent)) h in
      elim follows [
        | inl is ↦ each_preserves part_preserves (parts state sent) s.0 more s.2
            (rw is (added_admits texts far next state s.0 s.1 a))
        | inr work ↦ each_gains part_preserves (part_gains work.0 work.1) (parts state sent) s.0
            more
            s.2 (parts_admit far sent texts work.0.accepting.hears state a)
      ]

  lost_admits : (states out : List KnownState)
      → each_in_turn (lost_into known sent) [] states ≡ Ok out → Left far states → Left new out
  lost_admits states out h admits = each_gains lost_preserves lost_gains states [] out h admits

concluded_fair : (judged : JudgeState) (new : Far) (found : Result (List KnownState) Open)
    → judged.verdict ≡ Honest → judged.oddities ≡ 0 → Agrees judged.observed new.page
    → ((out : List KnownState) → found ≡ Ok out → Left new out)
    → IsFair (concluded_lost judged found) new
concluded_fair judged new found honest even agrees admits = grind (arith, common_steps)

-- With one

-- where a state was admitted, and nothing odd found, nothing odd is found for all
old_even : (states : List KnownState) (old oddity : Option Reason) (far : Far) → Left far states
    → old ≡ None → odd_for_all states old oddity ≡ None
old_even states old oddity far h e = grind (arith, common_steps)

now_even : (states : List KnownState) (old : Option Reason) → odd_for_all states old None ≡ None
now_even [] old = refl
now_even (state ∷ states) old = refl

module _ (law : Laws) (reads : RepliesAreRead) (judged : JudgeState)
    (honest : judged.verdict ≡ Honest) (even : judged.oddities ≡ 0) (far : Far)
    (agrees : Agrees judged.observed far.page) (admits : Left far judged.states) (sent : List ℕ)
    (work : Works far sent) (sized : IsSized (worked_by work))
    (memory : IsEventMemory (worked_by work).events) where
  abbrev its_reply : List ℕ
  its_reply = reply_octets (reply_to (worked_by work) (layout_of work.there) work.message)

  abbrev known : Result Layouts Open
  known = layouts_observed judged.observed

  -- what a state explains, and a part of it
  abbrev into : NextStates → KnownState → Result NextStates Open
  into = replied_into known judged.odd judged.observed sent its_reply

  abbrev part_into : NextStates → KnownState → Result NextStates Open
  part_into = replied_part known judged.odd judged.observed sent its_reply

  -- and nothing odd is found
  abbrev AdmitsNext : NextStates → Type 0
  AdmitsNext next = Left (worked_by work) next.states.items × (next.oddity ≡ None)

  next_admits : (next : NextStates) (state : KnownState) (oddity : Option Reason)
      (more : NextStates)
      → odd_for_all next.states.items next.oddity oddity ≡ None
      → ((out : List KnownState) → states_with next.states.items state ≡ Ok out
      → Left (worked_by work) out)
      → explained_into next (By state oddity) ≡ Ok more → AdmitsNext more
  next_admits next state oddity more even admits h = grind (arith, common_steps, bound)

  part_preserved : Preserves part_into AdmitsNext
  part_preserved next state more h a =
      let s = bound (taken_by_state known state sent)
      (λ found. explained_into next (explanation_of judged.odd judged.observed found its_reply))
      h in
      inner (explanation_of judged.odd judged.observed s.0 its_reply) s.2
    where
      inner : (by : Explanation) → explained_into next by ≡ Ok more → AdmitsNext more
      inner (By found oddity) h = next_admits next found oddity more (old_even _ _ _ _ a.0 a.1)
          (λ out e. added_preserves law.texts _ next.states.items found out e a.0) h
      inner (Not reason) h =
          let e : ◌≡◌ {A = NextStates} (record next { reason = later next.reason reason })
          more = cc in
          subst AdmitsNext e a

  there_agrees : Agrees judged.observed work.there.page
  there_agrees = rw work.accepting.by.page agrees

  part_gained : Gains part_into (IsPart far sent) AdmitsNext
  unfolding Fits
  part_gained next state more h a =
      let s = bound (taken_by_state known state sent)
      (λ found. explained_into next (explanation_of judged.odd judged.observed found its_reply))
      h in
      inner s.0 (part_fits known sent far law.texts
      (knows law.pages _ _ agrees) state a work s.0 s.1) s.2
    where
      inner : (found : Option Taken) → Fits work.there sent (Some work.message) found
          → explained_into next (explanation_of judged.odd judged.observed found its_reply)
          ≡ Ok more
          → AdmitsNext more
      inner None fits h = absurd fits
      inner (Some found) fits h =
          let new = state_after_reply found.state work.message.mc
          (reply_to (worked_by work) (layout_of work.there) work.message) in
          let by : explanation_of judged.odd judged.observed (Some found) its_reply ≡ By new None =
          explains _ work.there sent _ (law.texts work.there) work.accepting.awake memory
          there_agrees _ found _ fits.0 fits.1 fits.2 (reads (worked_by work) work.message sized) in
          next_admits next new None more (now_even _ _)
          (λ out e. added_admits law.texts _ next.states.items new out e
          (learned_admits _ _ work.message (law.texts work.there) work.accepting.awake memory
          (worked_sent work.there sent work.message) fits.2))
          (sym (ap (λ (x : Explanation). explained_into next x) by) ∙ h)

  replied_preserves : Preserves into AdmitsNext
  replied_preserves next state more h a =
      each_preserves part_preserved (parts state sent) next more h a

  replied_gains : Gains into (λ state. Admits state far) AdmitsNext
  replied_gains next state more h a =
      each_gains part_preserved part_gained (parts state sent) next more
      h (parts_admit far sent law.texts work.accepting.hears state a)

  concluded_next : (found : Result NextStates Open)
      → ((out : NextStates) → found ≡ Ok out → AdmitsNext out)
      → IsFair (concluded_replied judged sent its_reply found) (worked_by work)
  concluded_next (Err why) admits = record { page = there_agrees; state = tt; odd = even }
  concluded_next (Ok out) admits =
      split out.states.items (admits out refl).0 out.oddity (admits out refl).1
    where
      split : (states : List KnownState) → Left (worked_by work) states
          → (oddity : Option Reason) → oddity ≡ None
          → IsFair (concluded_replied judged sent its_reply
          (Ok (record out { states = record { items = states }; oddity = oddity })))
          (worked_by work)
      split [] h oddity e = absurd h
      split (state ∷ states) h (Some reason) e = absurd (cc)
      split (state ∷ states) h None e = record {
        page = noted_agrees _ (worked_by work) sent _ _
            work.spells (layout_of work.there) there_agrees;
        state = rw honest h;
        odd = even;
      }

  replied_fair : IsFair (judging.judge_after_reply judged sent its_reply) (worked_by work)
  replied_fair =
      concluded_next _ (λ out e. each_gains replied_preserves replied_gains _ _ out e admits)

-- A wake-up request

module _ (texts : AllTexts) (wake : Wake) (far new : Far)
    (follows : (new ≡ far_after_wake far) ⊎ ((wake ≡ Unanswered) × (new ≡ far))) where
  woken_preserves : Preserves (woken_into wake) (Left new)
  woken_preserves next state more h a =
      each_preserves (added_preserves texts new) (woken_states wake state) next more h a

  -- the device after the wake-up request is one of those that are added
  woken_one : (state : KnownState) → Admits state far → Left new (woken_states wake state)
  woken_one state admits = grind (arith, common_steps, woken_admits)

  woken_gains : Gains (woken_into wake) (λ state. Admits state far) (Left new)
  woken_gains next state more h a = each_gains (added_preserves texts new) (added_admits texts new)
      _ next more h (woken_one state a)

  all_woken_admits : (states out : List KnownState)
      → each_in_turn (woken_into wake) [] states ≡ Ok out
      → Left far states → Left new out
  all_woken_admits states out h admits =
      each_gains woken_preserves woken_gains states [] out h admits

-- the wake took effect, or wasn't answered and was lost
took_effect : (wake : Wake) (far new : Far) (wakes : Bool) → new
    ≡ (if wakes then far_after_wake far else far) → (is_answered wake ≡ true → wakes ≡ true)
    → (new ≡ far_after_wake far) ⊎ ((wake ≡ Unanswered) × (new ≡ far))
took_effect wake far new wakes is answers = grind (arith, common_steps)

-- what waking leaves as it is, a wake-up request leaves
woken_same : {A : Type 0} (part : Far → A) (far new : Far) (wakes : Bool)
    → part (far_after_wake far) ≡ part far → new ≡ (if wakes then far_after_wake far else far)
    → part new ≡ part far
woken_same part far new true same is = ap part is ∙ same
woken_same part far new false same is = ap part is

wake_fair : AllTexts → (judged : JudgeState) (far : Far) (wake : Wake) (new : Far)
    → IsWake far (is_answered wake) new → IsFair judged far
    → IsFair (judge_after_wake judged wake) new
wake_fair texts judged far wake new h fair =
    grind (
      arith,
      common_steps,
      locals_alike,
      woken_same,
      took_effect,
      all_have,
      released_free,
      concluded_fair,
      all_woken_admits,
      one_alike,
    )

-- Wake-up requests that the judge isn't told

-- a state stands for the device, or it did before some of them
abbrev MayWake : Far → KnownState → Type 0
MayWake far state = Left far (woken_states Unanswered state)

shown_twice : (shown : ShownEvents)
    → shown_after (shown_after shown false) false ≡ shown_after shown false
shown_twice Held = refl
shown_twice Any = refl
shown_twice Fresh = refl
shown_twice (Filled places) = refl

woken_twice : (state : KnownState) → woken_state (woken_state state) ≡ woken_state state
woken_twice state = ap (startup_state state.kinds state.cycle) (shown_twice state.events)

-- one more request leaves them the same
still_woken : (far : Far) (state : KnownState) → MayWake far state
    → Left (far_after_wake far) (woken_state state ∷ powered_state state ∷ [])
still_woken far state (inl here) = woken_admits state far here
still_woken far state (inr (inl woken)) =
    rw woken_twice at (woken_admits (woken_state state) far woken)
still_woken far state (inr (inr (inl powered))) = inr (elim (woken_admits _ far powered) [
  | inl here ↦ inl here
  | inr there ↦ there
])
still_woken far state (inr (inr (inr none))) = absurd none

-- whether the judge is told it or not
one_woken : (wake : Wake) (far new : Far) (state : KnownState)
    → (new ≡ far_after_wake far) ⊎ ((wake ≡ Unanswered) × (new ≡ far)) → MayWake far state
    → Left new (woken_states wake state)
one_woken Answered far new state (inl is) may = rw is (still_woken far state may)
one_woken Unanswered far new state (inl is) may = inr (rw is (still_woken far state may))
one_woken wake far new state (inr (unanswered, same)) may = rw unanswered (rw same may)

module _ (wake : Wake) (far new : Far) (h : IsWake far (is_answered wake) new) where
  effect : (new ≡ far_after_wake (locals far h.steps))
      ⊎ ((wake ≡ Unanswered) × (new ≡ locals far h.steps))
  effect = took_effect wake (locals far h.steps) new h.wakes h.far_is h.answered_is

  same_page : new.page ≡ far.page
  same_page = woken_same (λ (g : Far). g.page) (locals far h.steps) new h.wakes refl h.far_is
      ∙ (locals_alike far h.steps).page

  woken_of : (state : KnownState) → MayWake far state → Left new (woken_states wake state)
  woken_of state may = one_woken wake (locals far h.steps) new state effect
      (one_alike (woken_states Unanswered state) far (locals far h.steps)
      (locals_alike far h.steps) may)

  all_woken_of : AllTexts → (states out : List KnownState)
      → each_in_turn (woken_into wake) [] states ≡ Ok out
      → One (MayWake far) states → Left new out
  all_woken_of texts states out e may = each_gains
      (λ next state more is a. each_preserves (added_preserves texts new) (woken_states wake state)
      next more is a)
      (λ next state more is a. each_gains (added_preserves texts new) (added_admits texts new)
      _ next more is (woken_of state a)) states [] out e may

may_at_first : (states : List KnownState) (far : Far) → Left far states
    → One (MayWake far) states
may_at_first [] far h = absurd h
may_at_first (state ∷ states) far (inl here) = inl (inl here)
may_at_first (state ∷ states) far (inr there) = inr (may_at_first states far there)

may_still : (states : List KnownState) (far new : Far) → IsWake far false new
    → One (MayWake far) states → One (MayWake new) states
may_still [] far new h may = absurd may
may_still (state ∷ states) far new h (inl here) = inl (woken_of Unanswered far new h state here)
may_still (state ∷ states) far new h (inr there) = inr (may_still states far new h there)

-- a row of them, of which the judge isn't told
unseen_may : (states : List KnownState) (count : ℕ) (far new : Far) → AreUnanswered far count new
    → One (MayWake far) states → One (MayWake new) states
unseen_may states zero far new same may = rw same may
unseen_may states (suc count) far new (between, h, rest) may =
    unseen_may states count between new rest (may_still states far between h may)

unseen_page : (count : ℕ) (far new : Far) → AreUnanswered far count new → new.page ≡ far.page
unseen_page zero far new same = ap (λ (g : Far). g.page) same
unseen_page (suc count) far new (between, h, rest) =
    unseen_page count between new rest ∙ same_page Unanswered far between h

unseen_fair : AllTexts → (judged : JudgeState) (far : Far) (count : ℕ) (between : Far)
    (wake : Wake) (new : Far) → AreUnanswered far count between
    → IsWake between (is_answered wake) new → IsFair judged far
    → IsFair (judge_after_wake judged wake) new
unseen_fair texts judged far count between wake new unseen h fair =
    split judged.verdict fair.state
  where
    agrees : Agrees judged.observed between.page
    agrees = rw (unseen_page count far between unseen) fair.page

    split : (verdict : Verdict) → IsPossible verdict judged.states far
        → IsFair (judge_after_wake (record judged { verdict = verdict }) wake) new
    split Honest state = concluded_fair (record judged { verdict = Honest }) new
        (each_in_turn (woken_into wake) [] judged.states) refl fair.odd
        (rw (same_page wake between new h) agrees)
        (λ out e. all_woken_of wake between new h texts judged.states out e
        (unseen_may judged.states count far between unseen
        (may_at_first judged.states far state)))
    split (NotHonest exchange reason) state = absurd state
    split verdict state = wake_fair texts (record judged { verdict = verdict }) between wake new h
        (record { page = agrees; state = tt; odd = fair.odd })

-- The page

none_observed : (far : Far) → Agrees nothing_observed far.page
none_observed far place = nothing_known 10 place _

whole_agrees : (page : List ℕ) → Agrees (whole_page page) page
whole_agrees page place = grind (arith, common_steps)

-- Kinds

with_preserves : (states : List KnownState) (kinds : Kinds) (kind : Kind)
    → admits_kind kinds kind ≡ true
    → admits_kind (kinds_with kinds states) kind ≡ true
with_preserves [] kinds kind h = h
with_preserves (state ∷ states) kinds kind h =
    with_preserves states (both_kinds kinds state.kinds) kind
    (both_has kinds _ kind h)

with_gains : (states : List KnownState) (kinds : Kinds) (far : Far) → Left far states
    → admits_kind (kinds_with kinds states) far.kind ≡ true
with_gains [] kinds far h = absurd h
with_gains (state ∷ states) kinds far (inl here) =
    with_preserves states _ _ (other_has kinds _ _ here.kind)
with_gains (state ∷ states) kinds far (inr there) = with_gains states _ far there

-- a device's kind is among those that are left
fair_kinds : (judged : JudgeState) (far : Far) → IsFair judged far
    → admits_kind (kinds_left judged) far.kind ≡ true
fair_kinds judged far fair = grind (arith, common_steps, all_have, with_gains)

-- An exchange

-- what hearing leaves as it is, an exchange leaves
passed_same : {A : Type 0} (part : Far → A) (passage : Passage) (far : Far) (sent : List ℕ)
    → part (hear far sent).far ≡ part far → part (far_after passage far sent) ≡ part far
passed_same part OutLost far sent same = refl
passed_same part passage far sent same = same

regular_all : RegularStays → (far : Far) (steps : List LocalStep) → IsRegular far
    → IsRegular (locals far steps)
regular_all law far [] h = h
regular_all law far (step ∷ steps) h = regular_all law (local far step) steps (law.steps far step h)

module _ (law : Laws) (stays : RegularStays) (much : MuchStays) (reads : RepliesAreRead) where
  module _ (judged : JudgeState) (honest : judged.verdict ≡ Honest) (even : judged.oddities ≡ 0)
      (far : Far) (regular : IsRegular far) (agrees : Agrees judged.observed far.page)
      (admits : Left far judged.states) (sent : List ℕ) where
    quiet_fair : (new : Far) → Follows far sent new → new.page ≡ far.page
        → IsFair (judge_without_reply judged sent) new
    quiet_fair new follows page =
        concluded_fair judged new (each_in_turn
        (lost_into (layouts_observed judged.observed) sent) []
        judged.states) honest
        even (rw page agrees) (λ out e. lost_admits (layouts_observed judged.observed) sent far new
        law.texts (knows law.pages judged.observed far.page agrees) follows judged.states out e
        admits)

    -- whatever came, where the device answered nothing or the reply was lost
    lost_fair : (new : Far) → Follows far sent new → new.page ≡ far.page
        → (answer : Option (List ℕ)) → IsUnread far.page sent answer
        → IsFair (judge_after_answer judged sent answer) new
    lost_fair new follows page None unread = quiet_fair new follows page
    lost_fair new follows page (Some reply) unread =
        cond_both _ _ _ (λ (j : JudgeState). IsFair j new)
        (λ e. absurd (readable_is_unaltered (layouts_observed judged.observed) far.page sent reply
        (knows law.pages judged.observed far.page agrees) unread e))
        (λ e. quiet_fair new follows page)

    -- the unaltered reply of a device that worked the message
    clean_works : (work : Works far sent)
        → IsFair (judge_after_answer judged sent (with_reply (worked_by work)
        work.message).reply) (worked_by work)
    clean_works work =
        let reply = reply_octets (reply_to (worked_by work) (layout_of work.there) work.message) in
        let new : IsRegular (worked_by work) = rw work.heard_is at (stays.hears far sent regular) in
        cond_both (can_be_read (layouts_observed judged.observed) sent reply)
        (judging.judge_after_reply judged sent reply)
        (judge_without_reply judged sent) (λ (j : JudgeState). IsFair j (worked_by work))
        (λ e. replied_fair law reads judged honest even far agrees admits sent work new.sized
        new.memory) (λ e. quiet_fair (worked_by work) (inr (work, refl)) work.accepting.by.page)

    clean_fair : IsFair (judge_after_answer judged sent (hear far sent).reply) (hear far sent).far
    clean_fair = elim (hears far sent) [
      | inl none ↦ rw none.1 (quiet_fair _ (inl none.0) (much.page_heard far sent))
      | inr work ↦ rw work.heard_is (clean_works work)
    ]

    -- an exchange, once the device did what it does by itself
    passed_fair : (answer : Option (List ℕ)) (passage : Passage) → IsAnswer passage far sent answer
        → IsFair (judge_after_answer judged sent answer) (far_after passage far sent)
    passed_fair answer OutLost received = lost_fair far (inl refl) refl answer received
    passed_fair answer BackLost received = lost_fair _ (follows_heard far sent)
        (much.page_heard far sent) answer received
    passed_fair answer Clean received = rw received clean_fair

  exchange_fair : (judged : JudgeState) (far : Far) (silence : ℕ) (sent : List ℕ)
      (answer : Option (List ℕ)) (new : Far) (silence_new : ℕ)
      → HonestExchange far silence sent answer new silence_new → IsFair judged far
      → IsFair (judge_after_exchange judged sent answer) new
  exchange_fair judged far silence sent answer new silence_new h fair =
      split judged.verdict fair.state
    where
      same : Alike far (locals far h.steps)
      same = locals_alike far h.steps

      agrees : Agrees judged.observed new.page
      agrees = rw (ap (λ (g : Far). g.page) h.far_is ∙ passed_same (λ (g : Far). g.page)
          _ _ sent (much.page_heard (locals far h.steps) sent) ∙ same.page) fair.page

      split : (verdict : Verdict) → IsPossible verdict judged.states far
          → IsFair (judge_after_exchange (record judged { verdict = verdict }) sent answer) new
      split Honest state = rw h.far_is (passed_fair (record judged {
        verdict = Honest;
        exchanges = one_more judged.exchanges;
        oddity = None;
      }) refl fair.odd _ (regular_all stays far h.steps h.regular) (rw same.page fair.page)
          (one_alike judged.states far (locals far h.steps) same state) sent _ _ h.answer_is)
      split (NotHonest exchange reason) state = absurd state
      split verdict state = record { page = agrees; state = tt; odd = fair.odd }

  -- A capture

  passing_fair : (judged : JudgeState) (far : Far) (silence : ℕ) (passing : Passing) (new : Far)
      (silence_new : ℕ) → IsHonest far silence passing new silence_new → IsFair judged far
      → IsFair (judge_after_passing judged passing) new
  passing_fair judged far silence (Wakes wake) new silence_new h fair =
      wake_fair law.texts _ far wake new h.0 fair
  passing_fair judged far silence (Passes sent answer) new silence_new h fair =
      exchange_fair _ far _ sent _ new _ h fair

  -- nothing changes the kind
  kind_stays : (far : Far) (silence : ℕ) (passing : Passing) (new : Far) (silence_new : ℕ)
      → IsHonest far silence passing new silence_new → new.kind ≡ far.kind
  kind_stays far silence passing new silence_new h =
      grind (arith, common_steps, woken_same, passed_same)

  run_all : (judged : JudgeState) (far : Far) → IsFair judged far
      → (silence : ℕ) (capture : List Passing) → IsHonestRun far silence capture
      → (last : Far) × IsFair (judge_after_all judged capture) last × (last.kind ≡ far.kind)
  run_all judged far fair silence [] h = (far, fair, refl)
  run_all judged far fair silence (passing ∷ capture) h =
      let rest = run_all (judge_after_passing judged passing) h.0
      (passing_fair judged far silence passing h.0 h.1 h.2 fair) h.1 capture h.3 in
      (rest.0, rest.1, rest.2 ∙ kind_stays far silence passing h.0 h.1 h.2)

  pub never_blamed : NeverBlamed
  never_blamed = record {
    begins = λ odd far. record { page = none_observed far; state = tt; odd = refl };
    pages = λ judged far fair.
        record { page = whole_agrees far.page; state = fair.state; odd = fair.odd };
    wakes_any = wake_fair law.texts;
    unseen = unseen_fair law.texts;
    wakes = λ judged far wake new h. wake_fair law.texts judged far wake new (record {
      steps = h.steps;
      wakes = h.wakes;
      far_is = h.far_is;
      answered_is = h.answered_is;
    });
    exchanges = exchange_fair;
    runs = λ judged far fair silence capture h exchange reason e.
        let last = run_all judged far fair silence capture h in
        rw e at last.1.state;
    none_odd = λ judged far fair silence capture h.
        (run_all judged far fair silence capture h).1.odd;
    kinds = λ judged far fair silence capture h.
        let last = run_all judged far fair silence capture h in
        rw last.2 at (fair_kinds (judge_after_all judged capture) last.0 last.1);
  }
