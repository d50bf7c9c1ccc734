-- A journal without the entries of tickets that are over says what it said (the clauses `state` and
-- `replayed` of `drain_into`, the parts `in_turn` and `replayed` of `IsSoundBook`): each step, with
-- what isn't kept left out of the standing, is the step of an entry that is kept, or none.
-- For the clauses of `Book::compact`, `compacting::move_outcomes`, `compacting::move_queue` and
--     `compacting::renumber`.
use Rattle.std.proofs.Common.{◌≡◌, ℕ, Bool, true, false, ◌||◌, ◌&&◌, refl, cond, List, [], ◌∷◌, ◌++◌, Option, Some, None, ap, arith, sym}
use Rattle.std.specs.Prelude.{filter, if◌then◌else◌}
use Rattle.std.specs.Option.{option_map, option_map_or}
use Rattle.std.specs.Map.{lookup, remove_entry}
use Rattle.std.proofs.lemmas.Bool.{eq-eqb}
use Rattle.std.proofs.lemmas.Grind.{common_steps}
use Rattle.indexmap.specs.IndexMap.{insert_entry}
use Rattle.iol_isdu.specs.declared.values.Request.{Request}
use Rattle.iol_book.specs.declared.entries.Ticket.{Ticket}
use Rattle.iol_book.specs.declared.entries.Outcome.{Outcome}
use Rattle.iol_book.specs.declared.entries.Outcome.TheVariants.{Done, Unknown, Withdrawn, NoIsdu}
use Rattle.iol_book.specs.declared.entries.Entry.{Entry}
use Rattle.iol_book.specs.declared.entries.Entry.TheVariants.{Submitted, Urgent, Taken, Answered, Withdrawn as WithdrawnEntry, Collected, Abandoned}
use Rattle.iol_book.specs.Lines.{entry_ticket}
use Rattle.iol_book.specs.Replay.{Standing, same_ticket, is_among, is_taken, without, others_without, request_waiting, standing_after, replay_from}
use Rattle.iol_book.specs.Drained.{IsInTurn, AreInTurn}

-- a ticket of a list is found there
pub first-among : {X : Type 0} (w : Ticket × X) (ws : List (Ticket × X))
    → is_among w.0 (w ∷ ws) ≡ true
first-among w ws = rw (eq-eqb w.0.0 w.0.0 refl) refl

pub later-among : {X : Type 0} (t : Ticket) (w : Ticket × X) (ws : List (Ticket × X))
    → is_among t ws ≡ true → is_among t (w ∷ ws) ≡ true
later-among t w ws found = grind (arith, common_steps)

-- the outcomes after that of a ticket
abbrev outcomes_with : Standing → Ticket → Outcome → List (Ticket × Outcome)
outcomes_with s t o =
    if is_taken s t && s.abandoned then s.outcomes else insert_entry same_ticket s.outcomes t o

-- entries that come where they may from this standing on, and what they lead to
pub record LeadsTo (s : Standing) (es : List Entry) (next : Standing) : Type 0 where
  pub turn : AreInTurn s es
  pub stands : replay_from s es ≡ next

leads-at : {a b : Standing} {es : List Entry} {next : Standing} → a ≡ b → LeadsTo b es next
    → LeadsTo a es next
leads-at is h = rw is h

pub leads-where : {s a b : Standing} {es : List Entry} → a ≡ b → LeadsTo s es a
    → LeadsTo s es b
leads-where is h = rw (← is) h

leads-on : {s : Standing} {es : List Entry} {next : Standing} (e : Entry) → IsInTurn s e
    → LeadsTo (standing_after s e) es next → LeadsTo s (e ∷ es) next
leads-on e turn h = record { turn = (turn, h.turn); stands = h.stands }

module _ (k : ℕ → Bool) where
  -- the pairs of tickets that are kept, and the one that is taken if it is kept
  abbrev pub retained_pairs : {X : Type 0} → List (Ticket × X) → List (Ticket × X)
  retained_pairs pairs = filter (λ p. k p.0.0) pairs

  abbrev pub retained_taken : Option (Ticket × Request) → Option (Ticket × Request)
  retained_taken None = None
  retained_taken (Some p) = if k p.0.0 then Some p else None

  -- whether that one was abandoned
  abbrev pub retained_abandoned : Option (Ticket × Request) → Bool → Bool
  retained_abandoned None abandoned = false
  retained_abandoned (Some p) abandoned = k p.0.0 && abandoned

  abbrev pub retained_standing : Standing → Standing
  retained_standing s = record {
    urgent = retained_pairs s.urgent;
    waiting = retained_pairs s.waiting;
    taken = retained_taken s.taken;
    abandoned = retained_abandoned s.taken s.abandoned;
    outcomes = retained_pairs s.outcomes;
  }

  abbrev pub retained_entries : List Entry → List Entry
  retained_entries entries = filter (λ e. k (entry_ticket e).0) entries

  -- all are kept where each ticket of the list is
  pub retained-all : {X : Type 0} (ws : List (Ticket × X))
      → ((t : Ticket) → is_among t ws ≡ true → k t.0 ≡ true) → retained_pairs ws ≡ ws
  retained-all [] h = refl
  retained-all (w ∷ ws) h = rw (h w.0 (first-among w ws)) (ap (λ xs. w ∷ xs)
      (retained-all ws (λ t found. h t (later-among t w ws found))))

  module _ (t : Ticket) {X : Type 0} where
    push : (x : X) (ws : List (Ticket × X)) → retained_pairs (ws ++ (t, x) ∷ [])
        ≡ cond (k t.0) (retained_pairs ws ++ (t, x) ∷ []) (retained_pairs ws)
    push x [] = refl
    push x (w ∷ ws) = grind (arith, common_steps, push x ws)

    -- of a ticket that is kept
    keeps-lookup : (ws : List (Ticket × X)) → k t.0 ≡ true
        → lookup (same_ticket t) (retained_pairs ws) ≡ lookup (same_ticket t) ws
    keeps-lookup [] stays = refl
    keeps-lookup (w ∷ ws) stays = grind (arith, common_steps, keeps-lookup ws stays)

    keeps-remove : (ws : List (Ticket × X)) → k t.0 ≡ true
        → retained_pairs (remove_entry (same_ticket t) ws)
        ≡ remove_entry (same_ticket t) (retained_pairs ws)
    keeps-remove [] stays = refl
    keeps-remove (w ∷ ws) stays = grind (arith, common_steps, keeps-remove ws stays)

    keeps-insert : (x : X) (ws : List (Ticket × X)) → k t.0 ≡ true
        → retained_pairs (insert_entry same_ticket ws t x)
        ≡ insert_entry same_ticket (retained_pairs ws) t x
    keeps-insert x [] stays = rw stays refl
    keeps-insert x (w ∷ ws) stays = grind (arith, common_steps, keeps-insert x ws stays)

    -- of one that is not
    drops-remove : (ws : List (Ticket × X)) → k t.0 ≡ false
        → retained_pairs (remove_entry (same_ticket t) ws) ≡ retained_pairs ws
    drops-remove [] goes = refl
    drops-remove (w ∷ ws) goes = grind (arith, common_steps, drops-remove ws goes)

    drops-insert : (x : X) (ws : List (Ticket × X)) → k t.0 ≡ false
        → retained_pairs (insert_entry same_ticket ws t x) ≡ retained_pairs ws
    drops-insert x [] goes = rw goes refl
    drops-insert x (w ∷ ws) goes = grind (arith, common_steps, drops-insert x ws goes)

    keeps-others : (us ws : List (Ticket × X)) → k t.0 ≡ true
        → retained_pairs (others_without t us ws)
        ≡ others_without t (retained_pairs us) (retained_pairs ws)
    keeps-others us ws stays = rw (keeps-lookup us stays) (by (is_among t us))
      where
        by : (b : Bool) → retained_pairs (cond b ws (without t ws))
            ≡ cond b (retained_pairs ws) (without t (retained_pairs ws))
        by true = refl
        by false = keeps-remove ws stays

    drops-others : (us ws : List (Ticket × X)) → k t.0 ≡ false
        → retained_pairs (others_without t us ws) ≡ retained_pairs ws
    drops-others us ws goes = by (is_among t us)
      where
        by : (b : Bool) → retained_pairs (cond b ws (without t ws)) ≡ retained_pairs ws
        by true = refl
        by false = drops-remove ws goes

  keeps-taken : (t : Ticket) (r : Option Request) → k t.0 ≡ true
      → retained_taken (option_map (λ request. (t, request)) r)
      ≡ option_map (λ request. (t, request)) r
  keeps-taken t None stays = refl
  keeps-taken t (Some r) stays = rw stays refl

  drops-taken : (t : Ticket) (r : Option Request) → k t.0 ≡ false
      → retained_taken (option_map (λ request. (t, request)) r) ≡ None
  drops-taken t None goes = refl
  drops-taken t (Some r) goes = rw goes refl

  -- an outcome of a ticket that is not kept leaves none taken that is
  none-taken : (t : Ticket) (taken : Option (Ticket × Request))
      → option_map_or (λ p. same_ticket t p.0) taken true ≡ true → k t.0 ≡ false
      → None ≡ retained_taken taken
  none-taken t None turn goes = refl
  none-taken t (Some p) turn goes = grind (arith, common_steps)

  same-taken : (t : Ticket) (taken : Option (Ticket × Request))
      → option_map_or (λ p. same_ticket t p.0) taken true ≡ true
      → option_map_or (λ p. same_ticket t p.0) (retained_taken taken) true ≡ true
  same-taken t None turn = refl
  same-taken t (Some p) turn = by (k p.0.0)
    where
      by : (b : Bool) → option_map_or (λ q. same_ticket t q.0) (cond b (Some p) None) true ≡ true
      by true = turn
      by false = refl

  -- none that is kept was abandoned then
  none-retained : (t : Ticket) (taken : Option (Ticket × Request)) (b : Bool)
      → option_map_or (λ p. same_ticket t p.0) taken true ≡ true → k t.0 ≡ false
      → false ≡ retained_abandoned taken b
  none-retained t None b turn goes = refl
  none-retained t (Some p) b turn goes = grind (arith, common_steps)

  new-retained : (taken : Option (Ticket × Request)) → retained_abandoned taken false ≡ false
  new-retained None = refl
  new-retained (Some p) = elim (k p.0.0) as (λ b. (b && false) ≡ false)
      [ true ↦ refl | false ↦ refl ]

  -- whether the ticket is the one that was abandoned
  keeps-dropped : (t : Ticket) (s : Standing) → k t.0 ≡ true
      → (is_taken (retained_standing s) t && retained_abandoned s.taken s.abandoned)
      ≡ (is_taken s t && s.abandoned)
  keeps-dropped t s stays = by s.taken
    where
      by : (taken : Option (Ticket × Request))
          → (is_taken (retained_standing (record s { taken = taken })) t
          && retained_abandoned taken s.abandoned)
          ≡ (is_taken (record s { taken = taken }) t && s.abandoned)
      by None = refl
      by (Some p) = grind (arith, common_steps, stays)

  keeps-outcomes : (t : Ticket) (o : Outcome) (s : Standing) → k t.0 ≡ true
      → retained_pairs (outcomes_with s t o) ≡ outcomes_with (retained_standing s) t o
  keeps-outcomes t o s stays =
      rw (keeps-dropped t s stays) (by (is_taken s t && s.abandoned))
    where
      by : (b : Bool)
          → retained_pairs (cond b s.outcomes (insert_entry same_ticket s.outcomes t o))
          ≡ cond b (retained_pairs s.outcomes)
          (insert_entry same_ticket (retained_pairs s.outcomes) t o)
      by true = refl
      by false = keeps-insert t o s.outcomes stays

  drops-outcomes : (t : Ticket) (o : Outcome) (s : Standing) → k t.0 ≡ false
      → retained_pairs (outcomes_with s t o) ≡ retained_pairs s.outcomes
  drops-outcomes t o s goes = by (is_taken s t && s.abandoned)
    where
      by : (b : Bool)
          → retained_pairs (cond b s.outcomes (insert_entry same_ticket s.outcomes t o))
          ≡ retained_pairs s.outcomes
      by true = refl
      by false = drops-insert t o s.outcomes goes

  -- an abandoned ticket is that one where it is the one that is taken
  keeps-abandoned : (t : Ticket) (taken : Option (Ticket × Request)) (b : Bool) → k t.0 ≡ true
      → retained_abandoned taken (b || option_map_or (λ p. same_ticket t p.0) taken false)
      ≡ (retained_abandoned taken b
      || option_map_or (λ p. same_ticket t p.0) (retained_taken taken) false)
  keeps-abandoned t None b stays = refl
  keeps-abandoned t (Some p) b stays = grind (arith, common_steps)

  drops-abandoned : (t : Ticket) (taken : Option (Ticket × Request)) (b : Bool) → k t.0 ≡ false
      → retained_abandoned taken (b || option_map_or (λ p. same_ticket t p.0) taken false)
      ≡ retained_abandoned taken b
  drops-abandoned t None b goes = refl
  drops-abandoned t (Some p) b goes = grind (arith, common_steps)

  -- what a step does to what is kept
  record RetainedStep (s : Standing) (e : Entry) : Type 0 where
    retained : k (entry_ticket e).0 ≡ true
        → retained_standing (standing_after s e) ≡ standing_after (retained_standing s) e
    turn : k (entry_ticket e).0 ≡ true → IsInTurn (retained_standing s) e
    dropped : k (entry_ticket e).0 ≡ false
        → retained_standing (standing_after s e) ≡ retained_standing s

  -- that of an outcome, which leaves those that wait
  answered-step : (s : Standing) (t : Ticket) (o : Outcome)
      → option_map_or (λ p. same_ticket t p.0) s.taken true ≡ true
      → ((k t.0 ≡ true → retained_standing (record s {
        taken = None;
        abandoned = false;
        outcomes = outcomes_with s t o;
      }) ≡ record (retained_standing s) {
        taken = None;
        abandoned = false;
        outcomes = outcomes_with (retained_standing s) t o;
      }) × (k t.0 ≡ false → retained_standing (record s {
        taken = None;
        abandoned = false;
        outcomes = outcomes_with s t o;
      }) ≡ retained_standing s))
  answered-step s t o turn = (
    λ stays. rw (keeps-outcomes t o s stays) refl,
    λ goes. rw (
      drops-outcomes t o s goes,
      ← none-taken t s.taken turn goes,
      ← none-retained t s.taken s.abandoned turn goes,
    ) refl,
  )

  retained-step : (s : Standing) (e : Entry) → IsInTurn s e → RetainedStep s e
  retained-step s (Submitted t r) h = record {
    retained = λ stays. rw (push t r s.waiting, stays) refl;
    turn = λ stays. tt;
    dropped = λ goes. rw (push t r s.waiting, goes) refl;
  }
  retained-step s (Urgent t r) h = record {
    retained = λ stays. rw (push t r s.urgent, stays) refl;
    turn = λ stays. tt;
    dropped = λ goes. rw (push t r s.urgent, goes) refl;
  }
  retained-step s (Taken t) h = record {
    retained = λ stays. rw (
      keeps-remove t s.urgent stays,
      keeps-others t s.urgent s.waiting stays,
      keeps-taken t (request_waiting s t) stays,
      keeps-lookup t s.urgent stays,
      keeps-lookup t s.waiting stays,
      new-retained (option_map (λ request. (t, request)) (request_waiting s t)),
    ) refl;
    turn = λ stays. rw h refl;
    dropped = λ goes. rw (
      drops-remove t s.urgent goes,
      drops-others t s.urgent s.waiting goes,
      drops-taken t (request_waiting s t) goes,
      new-retained (option_map (λ request. (t, request)) (request_waiting s t)),
      h,
    ) refl;
  }
  retained-step s (Answered t NoIsdu) h = record {
    retained = λ stays. rw (
      keeps-remove t s.urgent stays,
      keeps-others t s.urgent s.waiting stays,
      keeps-outcomes t NoIsdu s stays,
    ) refl;
    turn = λ stays. same-taken t s.taken h;
    dropped = λ goes. rw (
      drops-remove t s.urgent goes,
      drops-others t s.urgent s.waiting goes,
      drops-outcomes t NoIsdu s goes,
      ← none-taken t s.taken h goes,
      ← none-retained t s.taken s.abandoned h goes,
    ) refl;
  }
  retained-step s (Answered t (Done a)) h = let step = answered-step s t (Done a) h in
      record { retained = step.0; turn = λ stays. same-taken t s.taken h; dropped = step.1 }
  retained-step s (Answered t (Unknown c)) h = let step = answered-step s t (Unknown c) h in
      record { retained = step.0; turn = λ stays. same-taken t s.taken h; dropped = step.1 }
  retained-step s (Answered t Withdrawn) h = let step = answered-step s t Withdrawn h in
      record { retained = step.0; turn = λ stays. same-taken t s.taken h; dropped = step.1 }
  retained-step s (WithdrawnEntry t) h = record {
    retained = λ stays. rw (
      keeps-remove t s.urgent stays,
      keeps-others t s.urgent s.waiting stays,
      keeps-insert t Withdrawn s.outcomes stays,
    ) refl;
    turn = λ stays. tt;
    dropped = λ goes. rw (
      drops-remove t s.urgent goes,
      drops-others t s.urgent s.waiting goes,
      drops-insert t Withdrawn s.outcomes goes,
    ) refl;
  }
  retained-step s (Collected t) h = record {
    retained = λ stays. rw (keeps-remove t s.outcomes stays) refl;
    turn = λ stays. tt;
    dropped = λ goes. rw (drops-remove t s.outcomes goes) refl;
  }
  retained-step s (Abandoned t) h = record {
    retained = λ stays. rw (
      keeps-remove t s.urgent stays,
      keeps-others t s.urgent s.waiting stays,
      keeps-remove t s.outcomes stays,
      keeps-abandoned t s.taken s.abandoned stays,
    ) refl;
    turn = λ stays. tt;
    dropped = λ goes. rw (
      drops-remove t s.urgent goes,
      drops-others t s.urgent s.waiting goes,
      drops-remove t s.outcomes goes,
      drops-abandoned t s.taken s.abandoned goes,
    ) refl;
  }

  pub retained-replay : (s : Standing) (es : List Entry) → AreInTurn s es
      → LeadsTo (retained_standing s) (retained_entries es) (retained_standing (replay_from s es))
  retained-replay s [] h = record { turn = tt; stands = refl }
  retained-replay s (e ∷ es) h =
      by (retained-step s e h.0) (retained-replay (standing_after s e) es h.1)
      (k (entry_ticket e).0) refl
    where
      by : RetainedStep s e → LeadsTo (retained_standing (standing_after s e)) (retained_entries es)
          (retained_standing (replay_from s (e ∷ es))) → (b : Bool) → k (entry_ticket e).0 ≡ b
          → LeadsTo (retained_standing s) (cond b (e ∷ retained_entries es) (retained_entries es))
          (retained_standing (replay_from s (e ∷ es)))
      by step rest true is = leads-on e (step.turn is) (leads-at (sym (step.retained is)) rest)
      by step rest false is = leads-at (sym (step.dropped is)) rest

-- a test that answers the same keeps the same
pub same-filter : {X : Type 0} {p q : X → Bool} → ((x : X) → p x ≡ q x) → (xs : List X)
    → filter p xs ≡ filter q xs
same-filter same [] = refl
same-filter same (x ∷ xs) = rw (same x, same-filter same xs) refl
