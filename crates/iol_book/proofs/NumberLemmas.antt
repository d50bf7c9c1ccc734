-- The lines of a book say what they said once the entries of tickets that are over are gone: the
-- part `lines` of `IsSoundBook` after `compact`, and the clauses of `renumber` and of `move_queue`.
-- For the clauses of `compacting::move_outcomes`, `compacting::move_queue`, `compacting::renumber`
--     and `Book::compact`.
use Rattle.std.proofs.Common.{◌≡◌, ℕ, ◌+◌, ◌<◌, ◌≤◌, Bool, true, false, refl, cond, List, [], ◌∷◌, ◌++◌, Option, Some, None, ap, arith, ◌∙◌, length, zero, suc, subst, sym, drop}
use Rattle.std.specs.Prelude.{slice_get, map}
use Rattle.std.specs.Option.{option_map_or, option_to_list}
use Rattle.std.specs.List.Retain.{RetainsInTurn}
use Rattle.std.proofs.lemmas.Bool.{eq-eqb}
use Rattle.std.proofs.lemmas.Grind.{common_steps}
use Rattle.iol_book.specs.declared.entries.Ticket.{Ticket}
use Rattle.iol_book.specs.declared.entries.Entry.{Entry}
use Rattle.iol_book.specs.Replay.{same_ticket, is_among}
use Rattle.iol_book.specs.Lines.{entry_ticket, TicketLines, values_at, AllPass, is_of, taken_at, is_still_open_by, moved_number, line_number_after, with_numbers, lines_after}
use Rattle.iol_book.proofs.LineLemmas.{Says, says-cons}
use Rattle.iol_book.proofs.RestatedLemmas.{retained_entries, first-among, later-among}

-- what a closure does that stays and changes each of a list
pub map-retained : {X F : Type 0} (R : F → X → Bool → F → X → Type 0) (change : X → X) (f : F)
    → ((x : X) (b : Bool) (g : F) (y : X) → R f x b g y
    → (b ≡ true) × (g ≡ f) × (y ≡ change x))
    → (xs ys : List X) → RetainsInTurn R f xs ys → ys ≡ map change xs
map-retained R change f says [] ys h = h
map-retained R change f says (x ∷ xs) ys (b, g, y, step, zs, rest, is) =
    let called = says x b g y step in
    let later = subst (λ g. RetainsInTurn R g xs zs) called.1 rest in
    rw (is, called.0, called.2, map-retained R change f says xs zs later) refl

-- a number that isn't this one stays, and this one is moved
unmoved : (i j n : ℕ) → n < i → moved_number i j n ≡ n
unmoved i j n below = grind (arith, common_steps)

moved_number-later : (i j m n : ℕ) → n ≡ i + suc m → moved_number i j n ≡ n
moved_number-later i j m n is = grind (arith, common_steps)

moved_number-here : (i j n : ℕ) → n ≡ i + 0 → moved_number i j n ≡ j
moved_number-here i j n is = grind (arith, common_steps)

-- entries in front of one, and of more
push-more : (ps : List Entry) (x : Entry) (xs : List Entry)
    → ps ++ x ∷ xs ≡ (ps ++ x ∷ []) ++ xs
push-more [] x xs = refl
push-more (p ∷ ps) x xs = ap (λ es. p ∷ es) (push-more ps x xs)

at-length : (ps : List Entry) (e : Entry) (es : List Entry)
    → slice_get (ps ++ e ∷ es) (length ps) ≡ Some e
at-length [] e es = refl
at-length (p ∷ ps) e es = at-length ps e es

one-longer : (ps : List Entry) (x : Entry) (j : ℕ) → j ≡ length ps
    → j + 1 ≡ length (ps ++ x ∷ [])
one-longer ps x j is = grind (arith, common_steps)

-- plain numbers
below-next : (i j : ℕ) → j ≤ i → j < i + 1
below-next i j h = grind (arith)

next-below : (i n : ℕ) → n < i → n < i + 1
next-below i n h = grind (arith)

both-next : (i j : ℕ) → j ≤ i → j + 1 ≤ i + 1
both-next i j h = grind (arith)

one-next : (i j : ℕ) → j ≤ i → j ≤ i + 1
one-next i j h = grind (arith)

shifted : (i m n : ℕ) → n ≡ i + suc m → n ≡ (i + 1) + m
shifted i m n h = grind (arith)

module _ (k : ℕ → Bool) where
  -- a number that was passed stays
  settled : (es : List Entry) (i j n : ℕ) → n < i
      → line_number_after (λ t. k t.0) i j es n ≡ n
  settled [] i j n below = refl
  settled (e ∷ es) i j n below = by (k (entry_ticket e).0)
      (settled es (i + 1) (j + 1) n (next-below i n below))
      (settled es (i + 1) j n (next-below i n below))
    where
      by : (b : Bool) → line_number_after (λ t. k t.0) (i + 1) (j + 1) es n ≡ n
          → line_number_after (λ t. k t.0) (i + 1) j es n ≡ n
          → cond b (line_number_after (λ t. k t.0) (i + 1) (j + 1) es (moved_number i j n))
          (line_number_after (λ t. k t.0) (i + 1) j es n) ≡ n
      by true retained dropped = rw (unmoved i j n below) retained
      by false retained dropped = dropped

  -- an entry that is kept has its number behind those before it
  number-retained : (es ps : List Entry) (i j m n : ℕ) {e : Entry} → j ≡ length ps → j ≤ i
      → n ≡ i + m → slice_get es m ≡ Some e → k (entry_ticket e).0 ≡ true
      → slice_get (ps ++ retained_entries k es) (line_number_after (λ t. k t.0) i j es n) ≡ Some e
  number-retained [] ps i j m n at within is found stays = absurd (cc)
  number-retained (x ∷ es) ps i j zero n {e} at within is found stays =
      let same : x ≡ e = cc in
      rw (
        same,
        stays,
        moved_number-here i j n is,
        settled es (i + 1) (j + 1) j (below-next i j within),
        at,
      ) (at-length ps e (retained_entries k es))
  number-retained (x ∷ es) ps i j (suc m) n {e} at within is found stays =
      by (k (entry_ticket x).0)
      (number-retained es (ps ++ x ∷ []) (i + 1) (j + 1) m n (one-longer ps x j at)
      (both-next i j within) (shifted i m n is) found stays)
      (number-retained es ps (i + 1) j m n at (one-next i j within) (shifted i m n is) found stays)
    where
      by : (b : Bool) → slice_get ((ps ++ x ∷ []) ++ retained_entries k es)
          (line_number_after (λ t. k t.0) (i + 1) (j + 1) es n) ≡ Some e
          → slice_get (ps ++ retained_entries k es)
          (line_number_after (λ t. k t.0) (i + 1) j es n) ≡ Some e
          → slice_get (ps ++ cond b (x ∷ retained_entries k es) (retained_entries k es))
          (cond b (line_number_after (λ t. k t.0) (i + 1) (j + 1) es (moved_number i j n))
          (line_number_after (λ t. k t.0) (i + 1) j es n)) ≡ Some e
      by true retained dropped =
          rw (moved_number-later i j m n is, push-more ps x (retained_entries k es)) retained
      by false retained dropped = dropped

  line-retained : (t : Ticket) (es : List Entry) (n : ℕ) (found : Option Entry)
      → slice_get es n ≡ found → is_of t found ≡ true → k t.0 ≡ true
      → slice_get (retained_entries k es) (line_number_after (λ u. k u.0) 0 0 es n) ≡ found
  line-retained t es n None is own stays = absurd (cc)
  line-retained t es n (Some e) is own stays =
      number-retained es [] 0 0 n n refl (grind (arith)) (grind (arith)) is
      (grind (arith, common_steps))

  module _ {X : Type 0} {test : Ticket → Option Entry → Bool} {value : Option Entry → X}
      (own : (t : Ticket) (found : Option Entry) → test t found ≡ true → is_of t found ≡ true) where
    -- lines of tickets that are kept say what they said
    pub says-after : (es : List Entry) (ls : TicketLines)
        → ((t : Ticket) → is_among t ls ≡ true → k t.0 ≡ true) → AllPass test es ls
        → Says test value (retained_entries k es) (lines_after (λ t. k t.0) es ls)
        (values_at value es ls)
    says-after es [] held h = record { pass = tt; values_are = refl }
    says-after es (l ∷ ls) held h =
        let same = line-retained l.0 es l.1 (slice_get es l.1) refl (own _ _ h.0)
        (held l.0 (first-among l ls)) in
        says-cons (l.0, line_number_after (λ t. k t.0) 0 0 es l.1) (rw same h.0) (ap value same)
        (says-after es ls (λ t found. held t (later-among t l ls found)) h.1)

  -- and so it is of the one that is taken
  pub taken-after : (es : List Entry) (before after : Option (Ticket × ℕ))
      → option_to_list after ≡ lines_after (λ t. k t.0) es (option_to_list before)
      → ((t : Ticket) → option_map_or (λ own. same_ticket t own.0) before false ≡ true
      → k t.0 ≡ true) → AllPass is_of es (option_to_list before)
      → AllPass is_of (retained_entries k es) (option_to_list after)
      × (taken_at (retained_entries k es) after ≡ taken_at es before)
  taken-after es None None is held h = (tt, refl)
  taken-after es None (Some l) is held h = absurd (cc)
  taken-after es (Some l) None is held h = absurd (cc)
  taken-after es (Some l) (Some new) is held h =
      let same = line-retained l.0 es l.1 (slice_get es l.1) refl h.0
      (held l.0 (eq-eqb l.0.0 l.0.0 refl)) in
      let new_is : new ≡ (l.0, line_number_after (λ t. k t.0) 0 0 es l.1) = cc in
      rw (new_is, same) ((h.0, tt), refl)

-- the numbers of lines don't tell which tickets there are
pub among-numbers : (t : Ticket) (change : ℕ → ℕ) (ls : TicketLines)
    → is_among t (with_numbers change ls) ≡ is_among t ls
among-numbers t change [] = refl
among-numbers t change (l ∷ ls) = grind (arith, common_steps, among-numbers t change ls)

taken-numbers : (t : Ticket) (change : ℕ → ℕ) (before after : Option (Ticket × ℕ))
    → option_to_list after ≡ with_numbers change (option_to_list before)
    → option_map_or (λ own. same_ticket t own.0) after false
    ≡ option_map_or (λ own. same_ticket t own.0) before false
taken-numbers t change None None is = refl
taken-numbers t change None (Some l) is = absurd (cc)
taken-numbers t change (Some l) None is = absurd (cc)
taken-numbers t change (Some l) (Some new) is =
    let new_is : new ≡ (l.0, change l.1) = cc in rw new_is refl

pub open-numbers : (t : Ticket) (change : ℕ → ℕ) (doubt : Option Ticket)
    (us ws os us' ws' os' : TicketLines) (before after : Option (Ticket × ℕ))
    → us' ≡ with_numbers change us → ws' ≡ with_numbers change ws
    → option_to_list after ≡ with_numbers change (option_to_list before)
    → os' ≡ with_numbers change os
    → is_still_open_by doubt us' ws' after os' t ≡ is_still_open_by doubt us ws before os t
open-numbers t change doubt us ws os us' ws' os' before after u w taken o = rw (
  u,
  w,
  o,
  among-numbers t change us,
  among-numbers t change ws,
  among-numbers t change os,
  taken-numbers t change before after taken,
) refl

-- numbers that change twice
numbers-both : (f g : ℕ → ℕ) (ls : TicketLines)
    → with_numbers f (with_numbers g ls) ≡ with_numbers (λ n. f (g n)) ls
numbers-both f g [] = refl
numbers-both f g (l ∷ ls) = ap (λ rest. (l.0, f (g l.1)) ∷ rest) (numbers-both f g ls)

-- numbers that stay
numbers-stay : (ls : TicketLines) → with_numbers (λ n. n) ls ≡ ls
numbers-stay [] = refl
numbers-stay (l ∷ ls) = ap (λ rest. l ∷ rest) (numbers-stay ls)

-- one entry of the loop over the journal: it is kept, so its line is moved, or it isn't
module _ (is_retained : Ticket → Bool) (e : Entry) (es : List Entry) (i j : ℕ) where
  numbers-retained : is_retained (entry_ticket e) ≡ true → (ls : TicketLines)
      → with_numbers (line_number_after is_retained (i + 1) (j + 1) es)
      (with_numbers (moved_number i j) ls)
      ≡ with_numbers (line_number_after is_retained i j (e ∷ es)) ls
  numbers-retained stays ls = rw stays
      (numbers-both (line_number_after is_retained (i + 1) (j + 1) es)
      (moved_number i j) ls)

  numbers-dropped : is_retained (entry_ticket e) ≡ false → (ls : TicketLines)
      → with_numbers (line_number_after is_retained (i + 1) j es) ls
      ≡ with_numbers (line_number_after is_retained i j (e ∷ es)) ls
  numbers-dropped goes ls = rw goes refl

-- what is left of the loop: `now` comes to `first` by the entries from this line on
module _ (is_retained : Ticket → Bool) (es : List Entry) (e : Entry) (i j : ℕ)
    (at : drop i es ≡ e ∷ drop (i + 1) es) (now first : TicketLines)
    (was : with_numbers (line_number_after is_retained i j (drop i es)) now ≡ first) where
  comes : with_numbers (line_number_after is_retained i j (e ∷ drop (i + 1) es)) now ≡ first
  comes = subst (λ xs. with_numbers (line_number_after is_retained i j xs) now ≡ first) at was

  pub comes-retained : (next : TicketLines) (to : ℕ) → is_retained (entry_ticket e) ≡ true
      → next ≡ with_numbers (moved_number i j) now → to ≡ j + 1
      → with_numbers (line_number_after is_retained (i + 1) to (drop (i + 1) es)) next ≡ first
  comes-retained next to stays is counts =
      rw (counts, is) (numbers-retained is_retained e (drop (i + 1) es) i j stays now ∙ comes)

  pub comes-dropped : (next : TicketLines) (to : ℕ) → is_retained (entry_ticket e) ≡ false
      → next ≡ now → to ≡ j
      → with_numbers (line_number_after is_retained (i + 1) to (drop (i + 1) es)) next ≡ first
  comes-dropped next to goes is counts =
      rw (counts, is) (numbers-dropped is_retained e (drop (i + 1) es) i j goes now ∙ comes)

-- behind the last entry they have come there
pub comes-end : (is_retained : Ticket → Bool) (rest : List Entry) (i j : ℕ)
    (now first : TicketLines)
    → rest ≡ [] → with_numbers (line_number_after is_retained i j rest) now ≡ first → now ≡ first
comes-end is_retained rest i j now first none was = sym (numbers-stay now)
    ∙ subst (λ xs. with_numbers (line_number_after is_retained i j xs) now ≡ first) none was
