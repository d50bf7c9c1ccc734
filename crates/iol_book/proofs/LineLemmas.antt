-- What one more entry says: one more step (the part `replayed` of `IsSoundBook`, the clauses
-- `state` and `replayed` of each call). The lines of a journal that a book keeps, and what they
-- say, after one more entry and after edits of its lists: the part `lines`, and the clauses that
-- look a ticket up (`answer` of `collect_into` and of `withdraw`). Last the place of a key in a
-- list of pairs, and the list without it: the clauses of `place_in` and `outcome_at`.
-- For the clauses of `Book::abandon`, `Book::archive`, `Book::collect_into` and 33 more.
use Rattle.std.proofs.Common.{◌≡◌, ℕ, Bool, true, false, List, [], ◌∷◌, ◌++◌, length, Option, None, Some, is_some, refl, ap, cond, suc, zero, arith, ◌+◌, ◌≤◌, ◌<◌, sym, nat_lt, add-one, add_comm, get_or, ◌∙◌, Bor, drop}
use Rattle.std.proofs.lemmas.List.{append_assoc, drop-append-le}
use Rattle.std.specs.Prelude.{slice_get, not, IfSome, IfNone, ◌||◌, find, filter, if◌then◌else◌}
use Rattle.std.specs.Option.{option_map, option_to_list}
use Rattle.std.specs.Map.{lookup, remove_entry}
use Rattle.std.proofs.lemmas.Bool.{eq-eqb}
use Rattle.std.proofs.lemmas.Grind.{common_steps}
use Rattle.std.proofs.lemmas.List.Folds.{find_at}
use Rattle.iol_book.specs.declared.entries.Ticket.{Ticket}
use Rattle.iol_book.specs.declared.entries.Entry.{Entry}
use Rattle.iol_book.specs.declared.entries.Serve.{Serve}
use Rattle.iol_book.specs.declared.entries.Serve.TheVariants.{All, Only, Nobody}
use Rattle.iol_book.specs.Replay.{Standing, nothing, standing_after, replay_from, replay, same_ticket, is_among, without, others_without}
use Rattle.iol_book.specs.BookModel.{is_served}
use Rattle.iol_book.specs.Drained.{IsInTurn, AreInTurn}
use Rattle.iol_book.specs.Lines.{entry_ticket, TicketLines, values_at, AllPass, has_request, has_request_of, is_of, taken_at}
use Rattle.std.specs.List.{remove, position, position_or_len}
use Rattle.iol_book.proofs.JournalLemmas.{octets-pushed}

replay_from-push : (s : Standing) (es : List Entry) (e : Entry)
    → replay_from s (es ++ e ∷ []) ≡ standing_after (replay_from s es) e
replay_from-push s [] e = refl
replay_from-push s (x ∷ es) e = replay_from-push (standing_after s x) es e

pub replay-push : (es : List Entry) (e : Entry)
    → replay (es ++ e ∷ []) ≡ standing_after (replay es) e
replay-push es e = replay_from-push nothing es e

-- one more entry that comes where it may
pub in_turn-push : (s : Standing) (es : List Entry) (e : Entry) → AreInTurn s es
    → IsInTurn (replay_from s es) e → AreInTurn s (es ++ e ∷ [])
in_turn-push s [] e h turn = (turn, tt)
in_turn-push s (x ∷ es) e h turn = (h.0, in_turn-push (standing_after s x) es e h.1 turn)

-- a longer list is as long as one before
pub longer : (es : List Entry) (e : Entry) {n : ℕ} → n ≤ length es → n ≤ length (es ++ e ∷ [])
longer es e h = grind (arith, common_steps)

-- one more entry, behind others of which some are counted elsewhere
pub entered : (earlier : List Entry) (n : ℕ) (es : List Entry) (e : Entry) → n ≤ length es
    → earlier ++ drop n (es ++ e ∷ []) ≡ (earlier ++ drop n es) ++ e ∷ []
entered earlier n es e within = rw (drop-append-le n es (e ∷ []) within)
    (sym (append_assoc earlier (drop n es) (e ∷ [])))

-- the usual lemmas, it, and how many octets there are then, for the state that a call leaves
pub ruleset entry_steps = (arith, common_steps, replay-push, octets-pushed)

-- the line of the entry that is new
get-new : (es : List Entry) (e : Entry) → slice_get (es ++ e ∷ []) (length es) ≡ Some e
get-new [] e = refl
get-new (x ∷ es) e = get-new es e

-- a line that passes stays what it is
get-more : (test : Option Entry → Bool) (none : test None ≡ false) (e : Entry) (es : List Entry)
    (i : ℕ) → test (slice_get es i) ≡ true → slice_get (es ++ e ∷ []) i ≡ slice_get es i
get-more test none e [] i passes = absurd (cc)
get-more test none e (x ∷ es) zero passes = refl
get-more test none e (x ∷ es) (suc i) passes = get-more test none e es i passes

-- lines that pass, and what they say
pub record Says {X : Type 0} (test : Ticket → Option Entry → Bool) (value : Option Entry → X)
    (es : List Entry) (ls : TicketLines) (xs : List (Ticket × X)) : Type 0 where
  pub pass : AllPass test es ls
  pub values_are : values_at value es ls ≡ xs

module _ {X : Type 0} {test : Ticket → Option Entry → Bool} {value : Option Entry → X} where
  pub says-cons : {es : List Entry} {ls : TicketLines} {xs : List (Ticket × X)} (l : Ticket × ℕ)
      {x : X}
      → test l.0 (slice_get es l.1) ≡ true → value (slice_get es l.1) ≡ x
      → Says test value es ls xs → Says test value es (l ∷ ls) ((l.0, x) ∷ xs)
  says-cons l passes is h = record
      { pass = (passes, h.pass); values_are = rw (is, h.values_are) refl }

  -- after one more entry the lines say what they said
  pub says-more : (es : List Entry) (e : Entry) (ls : TicketLines)
      → ((t : Ticket) → test t None ≡ false)
      → AllPass test es ls → Says test value (es ++ e ∷ []) ls (values_at value es ls)
  says-more es e [] none h = record { pass = tt; values_are = refl }
  says-more es e (l ∷ ls) none h = let same = get-more (test l.0) (none l.0) e es l.1 h.0 in
      says-cons l (rw same h.0) (ap value same) (says-more es e ls none h.1)

  -- and one line more says that entry
  pub says-new : (es : List Entry) (e : Entry) (ls : TicketLines) (t : Ticket)
      → ((t : Ticket) → test t None ≡ false) → test t (Some e) ≡ true → AllPass test es ls
      → Says test value (es ++ e ∷ []) (ls ++ (t, length es) ∷ [])
      (values_at value es ls ++ (t, value (Some e)) ∷ [])
  says-new es e [] t none new h = let same = get-new es e in
      says-cons (t, length es) (rw same new) (ap value same)
      (record { pass = tt; values_are = refl })
  says-new es e (l ∷ ls) t none new h = let same = get-more (test l.0) (none l.0) e es l.1 h.0 in
      says-cons l (rw same h.0) (ap value same) (says-new es e ls t none new h.1)

module _ {X : Type 0} {test : Ticket → Option Entry → Bool} {value : Option Entry → X}
    {es : List Entry} where
  -- so it is of a list without one
  pub says-without : {ls : TicketLines} {xs : List (Ticket × X)} (t : Ticket)
      → Says test value es ls xs
      → Says test value es (without t ls) (without t xs)
  says-without {ls = []} t h = rw (← h.values_are) (record { pass = tt; values_are = refl })
  says-without {ls = l ∷ ls} t h =
      let rest : Says test value es ls (values_at value es ls) =
      record { pass = h.pass.1; values_are = refl } in
      rw (← h.values_are) (elim (same_ticket t l.0) as (λ b.
      Says test value es (cond b ls (l ∷ without t ls))
      (cond b (values_at value es ls)
      ((l.0, value (slice_get es l.1)) ∷ without t (values_at value es ls))))
      [ true ↦ rest | false ↦ says-cons l h.pass.0 refl (says-without {ls = ls} t rest) ])

-- what the lines say of a ticket
pub lookup-values : {X : Type 0} (value : Option Entry → X) (es : List Entry) (t : Ticket)
    (ls : TicketLines) → lookup (same_ticket t) (values_at value es ls)
    ≡ option_map (λ i. value (slice_get es i)) (lookup (same_ticket t) ls)
lookup-values value es t [] = refl
lookup-values value es t (l ∷ ls) = grind (arith, common_steps, lookup-values value es t ls)

pub among-values : {X : Type 0} (value : Option Entry → X) (es : List Entry) (t : Ticket)
    (ls : TicketLines) → is_among t (values_at value es ls) ≡ is_among t ls
among-values value es t ls = grind (arith, common_steps, lookup-values value es t ls)

-- a line with the ticket's request is one of its lines
pub request-own : (t : Ticket) (found : Option Entry) → has_request_of t found ≡ true
    → is_of t found ≡ true
request-own t found h = grind (arith, common_steps)

pub request-found : (t : Ticket) (found : Option Entry) → has_request_of t found ≡ true
    → has_request found ≡ true
request-found t found h = grind (arith, common_steps)

-- what the checks of a book's calls need beside the usual lemmas
pub ruleset line_steps = (replay-push, lookup-values, among-values)

-- the others without a ticket, by their lines
pub says-others : {X : Type 0} {test : Ticket → Option Entry → Bool} {value : Option Entry → X}
    {es : List Entry} {us ws : TicketLines} {ys xs : List (Ticket × X)} (t : Ticket)
    → Says test value es us ys → Says test value es ws xs
    → Says test value es (others_without t us ws) (others_without t ys xs)
says-others {test} {value} {es} {us} {ws} {xs} t u h =
    rw (← u.values_are, among-values value es t us)
    (elim (is_among t us) as (λ b. Says test value es (cond b ws (without t ws))
    (cond b xs (without t xs)))
    [ true ↦ h | false ↦ says-without t h ])

-- the first element that passes heads those that do
pub find-first : {X : Type 0} (test : X → Bool) (xs : List X)
    → find test xs ≡ slice_get (filter test xs) 0
find-first test [] = refl
find-first {X} test (x ∷ xs) = by (test x) (find-first test xs)
  where
    by : (b : Bool) → find test xs ≡ slice_get (filter test xs) 0
        → cond b (Some x) (find test xs)
        ≡ slice_get (cond b (x ∷ filter test xs) (filter test xs)) 0
    by true rest = refl
    by false rest = rest

-- it is at the first place of one that does
found-length : {X : Type 0} (test : X → Bool) (xs : List X)
    → nat_lt (position_or_len test xs) (length xs) ≡ is_some (find test xs)
found-length test [] = grind (arith, common_steps)
found-length test (x ∷ xs) = grind (arith, common_steps, found-length test xs)

pub found-place : {X : Type 0} (test : X → Bool) (xs : List X) (r : Option ℕ)
    → r ≡ position test xs → IfSome r (λ i. find test xs ≡ slice_get xs i)
found-place test xs None e = tt
found-place test xs (Some i) e = grind (arith, common_steps, find_at test xs)

pub place-within : {X : Type 0} (test : X → Bool) (xs : List X) (r : Option ℕ)
    → r ≡ position test xs → IfSome r (λ i. i < length xs)
place-within test xs None e = tt
place-within test xs (Some i) e = grind (arith, common_steps)

pub none-found : {X : Type 0} (test : X → Bool) (xs : List X) (r : Option ℕ)
    → r ≡ position test xs → IfNone r (find test xs ≡ None)
none-found test xs None e = grind (arith, common_steps, found-length test xs)
none-found test xs (Some i) e = tt

-- The first of two lists that is served

-- a ticket that is served is none that isn't
pub unserved : (serve : Serve) (t u : Ticket) → is_served serve t ≡ true
    → is_served serve u ≡ false → same_ticket t u ≡ false
unserved All t u on off = absurd (let never : true ≡ false = off in cc)
unserved (Only own) t u on off = grind (arith, common_steps)
unserved Nobody t u on off = absurd (let never : false ≡ true = on in cc)

-- it is found under its ticket
pub record WaitsIn {X : Type 0} (us ws : List (Ticket × X)) (p : Ticket × X) : Type 0 where
  pub among : (is_among p.0 us || is_among p.0 ws) ≡ true
  pub request : Some p.1 ≡ (if is_among p.0 us then lookup (same_ticket p.0) us
      else lookup (same_ticket p.0) ws)

module _ {X : Type 0} (serve : Serve) where
  -- the first pair of a list whose ticket is served
  abbrev pub served_in : List (Ticket × X) → Option (Ticket × X)
  served_in ws = find (λ w. is_served serve w.0) ws

  pub found-served : (ws : List (Ticket × X)) (p : Ticket × X) → served_in ws ≡ Some p
      → is_served serve p.0 ≡ true
  found-served [] p found = absurd (cc)
  found-served (w ∷ ws) p found = by (is_served serve w.0) refl (found-served ws p) found
    where
      by : (b : Bool) → is_served serve w.0 ≡ b
          → (served_in ws ≡ Some p → is_served serve p.0 ≡ true)
          → cond b (Some w) (served_in ws) ≡ Some p → is_served serve p.0 ≡ true
      by true on rest is = let e : w ≡ p = cc in rw (← e) on
      by false off rest is = rest is

  pub found-waits : (us ws : List (Ticket × X)) (p : Ticket × X) → served_in (us ++ ws) ≡ Some p
      → WaitsIn us ws p
  found-waits [] [] p found = absurd (cc)
  found-waits [] (w ∷ ws) p found = by (is_served serve w.0) refl (found-waits [] ws p) found
    where
      by : (b : Bool) → is_served serve w.0 ≡ b → (served_in ws ≡ Some p → WaitsIn [] ws p)
          → cond b (Some w) (served_in ws) ≡ Some p → WaitsIn [] (w ∷ ws) p
      by true on rest is = let e : w ≡ p = cc in rw (← e) (record {
        among = grind (arith, common_steps);
        request = grind (arith, common_steps);
      })
      by false off rest is =
          let apart = unserved serve p.0 w.0 (found-served ws p is) off in
          record { among = rw apart (rest is).among; request = rw apart (rest is).request }
  found-waits (u ∷ us) ws p found = by (is_served serve u.0) refl (found-waits us ws p) found
    where
      by : (b : Bool) → is_served serve u.0 ≡ b
          → (served_in (us ++ ws) ≡ Some p → WaitsIn us ws p)
          → cond b (Some u) (served_in (us ++ ws)) ≡ Some p → WaitsIn (u ∷ us) ws p
      by true on rest is = let e : u ≡ p = cc in rw (← e) (record {
        among = grind (arith, common_steps);
        request = grind (arith, common_steps);
      })
      by false off rest is =
          let apart = unserved serve p.0 u.0 (found-served (us ++ ws) p is) off in
          record { among = rw apart (rest is).among; request = rw apart (rest is).request }

-- its line passes
pub found-passes : (serve : Serve) (test : Ticket → Option Entry → Bool) (es : List Entry)
    (us ws : TicketLines) (p : Ticket × ℕ) → served_in serve (us ++ ws) ≡ Some p
    → AllPass test es us → AllPass test es ws → test p.0 (slice_get es p.1) ≡ true
found-passes serve test es [] [] p found hu hw = absurd (cc)
found-passes serve test es [] (w ∷ ws) p found hu hw = by (is_served serve w.0)
    (λ is. found-passes serve test es [] ws p is hu hw.1) found
  where
    by : (b : Bool) → (served_in serve ws ≡ Some p → test p.0 (slice_get es p.1) ≡ true)
        → cond b (Some w) (served_in serve ws) ≡ Some p → test p.0 (slice_get es p.1) ≡ true
    by true rest is = let e : w ≡ p = cc in rw (← e) hw.0
    by false rest is = rest is
found-passes serve test es (u ∷ us) ws p found hu hw = by (is_served serve u.0)
    (λ is. found-passes serve test es us ws p is hu.1 hw) found
  where
    by : (b : Bool) → (served_in serve (us ++ ws) ≡ Some p → test p.0 (slice_get es p.1) ≡ true)
        → cond b (Some u) (served_in serve (us ++ ws)) ≡ Some p
        → test p.0 (slice_get es p.1) ≡ true
    by true rest is = let e : u ≡ p = cc in rw (← e) hu.0
    by false rest is = rest is

-- so it has a request
pub found-request : (serve : Serve) (es : List Entry) (us ws : TicketLines) (p : Ticket × ℕ)
    → served_in serve (us ++ ws) ≡ Some p → AllPass has_request_of es us
    → AllPass has_request_of es ws → has_request (slice_get es p.1) ≡ true
found-request serve es us ws p found hu hw =
    request-found p.0 _ (found-passes serve has_request_of es us ws p found hu hw)

-- and what it says is what is found of what they say
pub served-values : {X : Type 0} (serve : Serve) (value : Option Entry → X) (es : List Entry)
    (us ws : TicketLines)
    → served_in serve (values_at value es us ++ values_at value es ws)
    ≡ option_map (λ line. (line.0, value (slice_get es line.1))) (served_in serve (us ++ ws))
served-values serve value es [] [] = refl
served-values {X} serve value es [] (w ∷ ws) =
    by (is_served serve w.0) (served-values serve value es [] ws)
  where
    by : (b : Bool) → served_in serve (values_at value es ws)
        ≡ option_map (λ line. (line.0, value (slice_get es line.1))) (served_in serve ws)
        → cond b (Some (w.0, value (slice_get es w.1))) (served_in serve (values_at value es ws))
        ≡ option_map (λ line. (line.0, value (slice_get es line.1)))
        (cond b (Some w) (served_in serve ws))
    by true rest = refl
    by false rest = rest
served-values {X} serve value es (u ∷ us) ws =
    by (is_served serve u.0) (served-values serve value es us ws)
  where
    by : (b : Bool) → served_in serve (values_at value es us ++ values_at value es ws)
        ≡ option_map (λ line. (line.0, value (slice_get es line.1))) (served_in serve (us ++ ws))
        → cond b (Some (u.0, value (slice_get es u.1)))
        (served_in serve (values_at value es us ++ values_at value es ws))
        ≡ option_map (λ line. (line.0, value (slice_get es line.1)))
        (cond b (Some u) (served_in serve (us ++ ws)))
    by true rest = refl
    by false rest = rest

-- the one that is taken stays in the journal, and is the same
pub taken-more : (e : Entry) (es : List Entry) (taken : Option (Ticket × ℕ))
    → AllPass is_of es (option_to_list taken)
    → AllPass is_of (es ++ e ∷ []) (option_to_list taken)
    × (taken_at (es ++ e ∷ []) taken ≡ taken_at es taken)
taken-more e es None h = (tt, refl)
taken-more e es (Some line) h = let same = get-more (is_of line.0) refl e es line.1 h.0 in
    ((rw same h.0, tt), rw same refl)

-- an entry is one of its ticket's
pub own-entry : (e : Entry) → is_of (entry_ticket e) (Some e) ≡ true
own-entry e = eq-eqb (entry_ticket e).0 (entry_ticket e).0 refl

module _ {K X : Type 0} (test : K → Bool) where
  -- without the first pair whose key passes
  pub remove-position_or_len : (ws : List (K × X))
      → remove ws (position_or_len (λ w. test w.0) ws) ≡ remove_entry test ws
  remove-position_or_len [] = grind (arith, common_steps)
  remove-position_or_len (w ∷ ws) =
      by (test w.0) (position_or_len (λ w. test w.0) ws) (remove_entry test ws)
      (remove-position_or_len ws)
    where
      by : (b : Bool) (i : ℕ) (rest : List (K × X)) → remove ws i ≡ rest
          → remove (w ∷ ws) (cond (not b) (1 + i) 0) ≡ cond b ws (w ∷ rest)
      by true i rest e = refl
      by false i rest e = rw (add_comm 1 i, add-one) (ap (λ xs. w ∷ xs) e)

  -- there is such a pair where its place is in the list
  pub found-position_or_len : (ws : List (K × X))
      → nat_lt (position_or_len (λ w. test w.0) ws) (length ws) ≡ is_some (lookup test ws)
  found-position_or_len [] = grind (arith, common_steps)
  found-position_or_len (w ∷ ws) = grind (arith, common_steps, found-position_or_len ws)

  pub is_some-position : (ws : List (K × X)) (r : Option ℕ) → r ≡ position (λ w. test w.0) ws
      → is_some r ≡ is_some (lookup test ws)
  is_some-position ws r e = grind (arith, common_steps, found-position_or_len ws)

  -- without such a pair it is the same list
  pub remove-absent : (ws : List (K × X)) → is_some (lookup test ws) ≡ false
      → remove_entry test ws ≡ ws
  remove-absent [] none = refl
  remove-absent (w ∷ ws) none = grind (arith, common_steps, remove-absent ws)

  pub none-position : (ws : List (K × X)) (r : Option ℕ) → r ≡ position (λ w. test w.0) ws
      → IfNone r (remove_entry test ws ≡ ws)
  none-position ws None e = remove-absent ws (sym (is_some-position ws None e))
  none-position ws (Some i) e = tt

  pub remove-position : (ws : List (K × X)) (r : Option ℕ) → r ≡ position (λ w. test w.0) ws
      → IfSome r (λ i. remove ws i ≡ remove_entry test ws)
  remove-position ws None e = tt
  remove-position ws (Some i) e = grind (arith, common_steps, remove-position_or_len ws)

  -- its value is the one that is found
  lookup-position_or_len : (ws : List (K × X)) (d : K × X) → is_some (lookup test ws) ≡ true
      → lookup test ws ≡ Some (get_or ws (position_or_len (λ w. test w.0) ws) d).1
  lookup-position_or_len [] d found = grind (arith, common_steps)
  lookup-position_or_len (w ∷ ws) d found = grind (arith, common_steps, lookup-position_or_len ws d)

  pub lookup-position : (ws : List (K × X)) (r : Option ℕ) → r ≡ position (λ w. test w.0) ws
      → IfSome r (λ i. (d : K × X) → lookup test ws ≡ Some (get_or ws i d).1)
  lookup-position ws None e = tt
  lookup-position ws (Some i) e = λ d. grind
      (arith, common_steps, lookup-position_or_len ws d, is_some-position ws (Some i) e)
