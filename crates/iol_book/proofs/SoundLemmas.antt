-- A book is sound after each of its calls: the invariant of `Book`. First how often a number stands
-- among the outstanding tickets, before and after an entry: why each ticket still names one
-- request (`numbered` of `IsSoundBook`), and which have no outcome (the clause `answer` of
-- `collect_into`). Then that the step of an entry is what its call does to the standing (the clause
-- `state` of each call), and last a lemma of each call, from what the call did to the fields.
-- For the clauses of `Book::abandon`, `Book::archive`, `Book::collect_into` and 25 more.
use Rattle.std.proofs.Common.{◌≡◌, ℕ, ◌+◌, ◌≤◌, Bool, true, false, ◌||◌, refl, cond, List, [], ◌∷◌, ◌++◌, Option, Some, None, ap, arith, is_some, nat_eq, length, drop, sym, subst, ◌∙◌, IsTrue}
use Rattle.std.specs.Prelude.{slice_get}
use Rattle.std.specs.Option.{option_map, option_map_or, option_to_list}
use Rattle.std.proofs.lemmas.Bool.{eq-eqb}
use Rattle.std.proofs.lemmas.Grind.{common_steps}
use Rattle.std.specs.Map.{lookup, remove_entry}
use Rattle.indexmap.specs.IndexMap.{insert_entry}
use Rattle.iol_isdu.specs.declared.values.Request.{Request}
use Rattle.iol_book.specs.declared.journal.Journal.{Journal}
use Rattle.iol_book.specs.declared.entries.Ticket.{Ticket}
use Rattle.iol_book.specs.declared.entries.Outcome.{Outcome}
use Rattle.iol_book.specs.declared.entries.Outcome.TheVariants.{Done, Unknown, Withdrawn, NoIsdu}
use Rattle.iol_book.specs.declared.entries.Entry.TheVariants.{Submitted, Urgent, Taken, Answered, Withdrawn as WithdrawnEntry, Collected, Abandoned}
use Rattle.iol_book.specs.Replay.{Standing, nothing, standing_after, replay_from, same_ticket, waiting_after, is_among, is_taken, without, others_without, request_waiting, without_waiting}
use Rattle.iol_book.specs.JournalModel.{octet_sum}
use Rattle.std.specs.Vec.{vec_capacity}
use Rattle.iol_book.specs.BookModel.{waits, is_served, next_taken, IsReplayed, outstanding_count, entries_owed, octets_owed}
use Rattle.iol_book.specs.Limits.{has_journal}
use Rattle.iol_book.specs.Drained.{IsInTurn}
use Rattle.iol_book.specs.Numbers.{times, times_in, IsNumbered}
use Rattle.std.specs.VecDeque.{deque_capacity}
use Rattle.std.specs.declared.collections.VecDeque.{VecDeque}
use Rattle.std.specs.declared.vec.Vec.{Vec}
use Rattle.iol_book.specs.declared.entries.Entry.{Entry}
use Rattle.iol_book.specs.declared.book.Book.TheInside.{Inside}
use Rattle.iol_book.specs.BookInside.{IsSoundBook, HasRoom, JournalParts, IsForgotten, all_entries, journal_parts, book_state, whole_state, standing_of}
use Rattle.iol_book.specs.Lines.{TicketLines, AllPass, has_request_of, is_of, entry_request, outcome_in, taken_at}
use Rattle.iol_book.proofs.LineLemmas.{remove-absent, replay-push, Says, says-more, says-new, says-without, says-others, among-values, WaitsIn, find-first, served_in, found-waits, found-passes, served-values, taken-more, request-own, own-entry, in_turn-push, longer, entered}

abbrev pub one_if : Bool → ℕ
one_if b = cond b 1 0

module _ {X : Type 0} (n : ℕ) (t : Ticket) where
  pub times_in-push : (x : X) (ws : List (Ticket × X))
      → times_in n (ws ++ (t, x) ∷ []) ≡ times_in n ws + one_if (nat_eq n t.0)
  times_in-push x [] = grind (arith, common_steps)
  times_in-push x (w ∷ ws) = grind (arith, common_steps, times_in-push x ws)

  pub times_in-insert_entry : (x : X) (ws : List (Ticket × X))
      → times_in n (insert_entry same_ticket ws t x) ≤ times_in n ws + one_if (nat_eq n t.0)
  times_in-insert_entry x [] = grind (arith, common_steps)
  times_in-insert_entry x (w ∷ ws) = grind (arith, common_steps, times_in-insert_entry x ws)

  pub times_in-remove_entry : (ws : List (Ticket × X))
      → times_in n (remove_entry (same_ticket t) ws) ≤ times_in n ws
  times_in-remove_entry [] = grind (arith, common_steps)
  times_in-remove_entry (w ∷ ws) = grind (arith, common_steps, times_in-remove_entry ws)

  pub times_in-removed : (ws : List (Ticket × X)) → is_some (lookup (same_ticket t) ws) ≡ true
      → times_in n (remove_entry (same_ticket t) ws) + one_if (nat_eq n t.0) ≤ times_in n ws
  times_in-removed [] found = grind (arith, common_steps)
  times_in-removed (w ∷ ws) found = grind (arith, common_steps, times_in-removed ws)

  -- without such a pair there is no value to find
  pub lookup-none : (ws : List (Ticket × X)) → times_in t.0 ws ≡ 0
      → lookup (same_ticket t) ws ≡ None
  lookup-none [] none = refl
  lookup-none (w ∷ ws) none = grind (arith, common_steps, lookup-none ws)

  -- and none to remove
  pub remove_entry-none : (ws : List (Ticket × X)) → times_in t.0 ws ≡ 0
      → remove_entry (same_ticket t) ws ≡ ws
  remove_entry-none ws none = remove-absent (same_ticket t) ws (ap is_some (lookup-none ws none))

  -- so a new one comes behind the others
  pub insert_entry-none : (x : X) (ws : List (Ticket × X)) → lookup (same_ticket t) ws ≡ None
      → insert_entry same_ticket ws t x ≡ ws ++ (t, x) ∷ []
  insert_entry-none x [] none = refl
  insert_entry-none x (w ∷ ws) none = grind (arith, common_steps, insert_entry-none x ws)

-- a request that waits leaves its list
pub times_in-leaves : (n : ℕ) (t : Ticket) (us ws : List (Ticket × Request))
    → (is_among t us || is_among t ws) ≡ true
    → times_in n (without t us) + times_in n (others_without t us ws) + one_if (nat_eq n t.0)
    ≤ times_in n us + times_in n ws
times_in-leaves n t us ws found = grind (
  arith,
  common_steps,
  times_in-removed n t us,
  times_in-removed n t ws,
  times_in-remove_entry n t us,
)

-- a standing in which no number stands more often than in one that is numbered is numbered too
pub numbered-fewer : {last : ℕ} {s next : Standing} → ((n : ℕ) → times n next ≤ times n s)
    → IsNumbered last s → IsNumbered last next
numbered-fewer fewer h = record {
  once = λ n. omega (arith, fewer n, h.once n);
  issued = λ n above. omega (arith, fewer n, h.issued n above);
}

-- and so is one in which the next number stands as well
pub numbered-more : {last : ℕ} {s next : Standing}
    → ((n : ℕ) → times n next ≡ times n s + one_if (nat_eq n (last + 1)))
    → IsNumbered last s → IsNumbered (last + 1) next
numbered-more more h = record {
  once = λ n. grind (arith, common_steps, more n, h.once n, h.issued n);
  issued = λ n above. grind (arith, common_steps, more n, h.issued n);
}

-- one that is found is there
among-once : {X : Type 0} (t : Ticket) (ws : List (Ticket × X)) → is_among t ws ≡ true
    → 1 ≤ times_in t.0 ws
among-once t ws found = grind (arith, common_steps, times_in-removed t.0 t ws)

-- a ticket that is taken is there once
taken-once : (t : Ticket) (taken : Option (Ticket × Request))
    → option_map_or (λ p. same_ticket t p.0) taken false ≡ true
    → 1 ≤ times_in t.0 (option_to_list taken)
taken-once t None found = absurd (cc)
taken-once t (Some p) found = grind (arith, common_steps)

module _ {last : ℕ} {s : Standing} (h : IsNumbered last s) where
  -- the requests that wait and the one that is taken have no outcome yet
  pub taken-unanswered : (t : Ticket) → is_taken s t ≡ true
      → lookup (same_ticket t) s.outcomes ≡ None
  taken-unanswered t found = lookup-none t.0 t s.outcomes
      (grind (arith, common_steps, h.once t.0, taken-once t s.taken found))

  pub waiting-unanswered : (t : Ticket) → waits s t ≡ true
      → lookup (same_ticket t) s.outcomes ≡ None
  waiting-unanswered t found = lookup-none t.0 t s.outcomes
      (grind (arith, common_steps, h.once t.0, times_in-leaves t.0 t s.urgent s.waiting found))

  -- a ticket stands at one place
  pub taken-alone : (t : Ticket) → is_taken s t ≡ true → (is_among t s.urgent ≡ false)
      × ((is_among t s.waiting ≡ false) × (is_among t s.outcomes ≡ false))
  taken-alone t found =
      let once = taken-once t s.taken found in (
        grind (arith, common_steps, h.once t.0, once, among-once t s.urgent),
        (
          grind (arith, common_steps, h.once t.0, once, among-once t s.waiting),
          grind (arith, common_steps, h.once t.0, once, among-once t s.outcomes),
        ),
      )

  pub waiting-alone : (t : Ticket) → waits s t ≡ true
      → (is_taken s t ≡ false) × (is_among t s.outcomes ≡ false)
  waiting-alone t found =
      let once = times_in-leaves t.0 t s.urgent s.waiting found in (
        grind (arith, common_steps, h.once t.0, once, taken-once t s.taken),
        grind (arith, common_steps, h.once t.0, once, among-once t s.outcomes),
      )

  pub outcome-alone : (t : Ticket) → is_among t s.outcomes ≡ true → (is_taken s t ≡ false)
      × ((is_among t s.urgent ≡ false) × (is_among t s.waiting ≡ false))
  outcome-alone t found =
      let once = among-once t s.outcomes found in (
        grind (arith, common_steps, h.once t.0, once, taken-once t s.taken),
        (
          grind (arith, common_steps, h.once t.0, once, among-once t s.urgent),
          grind (arith, common_steps, h.once t.0, once, among-once t s.waiting),
        ),
      )

  -- the request that is taken waits no longer
  pub taken-waits : (p : Ticket × Request) (o : Outcome) → s.taken ≡ Some p
      → waiting_after p.0 o s ≡ s
  taken-waits p NoIsdu e = grind (
    arith,
    common_steps,
    e,
    h.once p.0.0,
    remove_entry-none p.0.0 p.0 s.urgent,
    remove_entry-none p.0.0 p.0 s.waiting,
  )
  taken-waits p (Done a) e = refl
  taken-waits p (Unknown c) e = refl
  taken-waits p Withdrawn e = refl

-- how often a number stands after each step
module _ (n : ℕ) (s : Standing) where
  pub times-submitted : (t : Ticket) (r : Request)
      → times n (standing_after s (Submitted t r)) ≡ times n s + one_if (nat_eq n t.0)
  times-submitted t r = grind (arith, common_steps, times_in-push n t r s.waiting)

  pub times-urgent : (t : Ticket) (r : Request)
      → times n (standing_after s (Urgent t r)) ≡ times n s + one_if (nat_eq n t.0)
  times-urgent t r = grind (arith, common_steps, times_in-push n t r s.urgent)

  pub times-posted : (p : Ticket × Request) (o : Outcome) → s.taken ≡ Some p
      → times n (record s {
        taken = None;
        abandoned = false;
        outcomes = cond s.abandoned s.outcomes (insert_entry same_ticket s.outcomes p.0 o);
      }) ≤ times n s
  times-posted p o e = grind (arith, common_steps, e, times_in-insert_entry n p.0 o s.outcomes)

  pub times-taken : (p : Ticket × Request) → s.taken ≡ None → waits s p.0 ≡ true
      → times n (record (without_waiting s p.0) { taken = Some p; abandoned = false }) ≤ times n s
  times-taken p none found = grind
      (arith, common_steps, none, times_in-leaves n p.0 s.urgent s.waiting found)

  -- a request that waited has an outcome
  pub times-left : (t : Ticket) (o : Outcome) → waits s t ≡ true
      → times n (record (without_waiting s t) {
        outcomes = insert_entry same_ticket s.outcomes t o;
      }) ≤ times n s
  times-left t o found = grind (
    arith,
    common_steps,
    times_in-leaves n t s.urgent s.waiting found,
    times_in-insert_entry n t o s.outcomes,
  )

  pub times-collected : (t : Ticket) → times n (standing_after s (Collected t)) ≤ times n s
  times-collected t = grind (arith, common_steps, times_in-remove_entry n t s.outcomes)

  times-abandoned : (t : Ticket) → times n (standing_after s (Abandoned t)) ≤ times n s
  times-abandoned t = grind (
    arith,
    common_steps,
    times_in-remove_entry n t s.urgent,
    times_in-remove_entry n t s.waiting,
    times_in-remove_entry n t s.outcomes,
  )

-- the one that is taken is taken under its ticket
held-taken : (s : Standing) (p : Ticket × Request) → s.taken ≡ Some p → is_taken s p.0 ≡ true
held-taken s p e = rw (e, eq-eqb p.0.0 p.0.0 refl) refl

-- what is taken, denied and posted is what the step of the entry says
module _ (s : Standing) (p : Ticket × Request) where
  pub taken-step : Some p.1 ≡ request_waiting s p.0
      → record (without_waiting s p.0) { taken = Some p; abandoned = false }
      ≡ standing_after s (Taken p.0)
  taken-step request = rw (← request) refl

  pub denied-step : s.taken ≡ None
      → record (without_waiting s p.0) {
        abandoned = false;
        outcomes = insert_entry same_ticket s.outcomes p.0 NoIsdu;
      } ≡ standing_after s (Answered p.0 NoIsdu)
  denied-step none = rw none refl

  pub posted-step : {last : ℕ} (o : Outcome) → s.taken ≡ Some p → IsNumbered last s
      → record s {
        taken = None;
        abandoned = false;
        outcomes = cond s.abandoned s.outcomes (insert_entry same_ticket s.outcomes p.0 o);
      } ≡ standing_after s (Answered p.0 o)
  posted-step o e h = rw (taken-waits h p o e, held-taken s p e) refl

-- Where none is taken none was abandoned

step-free : (s : Standing) (e : Entry) → (s.taken ≡ None → s.abandoned ≡ false)
    → (standing_after s e).taken ≡ None → (standing_after s e).abandoned ≡ false
step-free s (Taken t) free none = refl
step-free s (Answered t o) free none = refl
step-free s (Abandoned t) free none = rw (free none, none) refl
step-free s (Submitted t r) free none = free none
step-free s (Urgent t r) free none = free none
step-free s (WithdrawnEntry t) free none = free none
step-free s (Collected t) free none = free none

replay-free : (s : Standing) (es : List Entry) → (s.taken ≡ None → s.abandoned ≡ false)
    → (replay_from s es).taken ≡ None → (replay_from s es).abandoned ≡ false
replay-free s [] free none = free none
replay-free s (e ∷ es) free none = replay-free (standing_after s e) es (step-free s e free) none

pub none_abandoned : {A : Type 0} {fields : Inside A} → IsSoundBook fields
    → (standing_of fields).taken ≡ None → fields.abandoned ≡ false
none_abandoned {fields = fields} sound none = ap (λ s. s.abandoned) sound.replayed
    ∙ replay-free nothing fields.journal.items (λ _. refl)
    (sym (ap (λ s. s.taken) sound.replayed) ∙ none)

-- the outcome of the one that is taken comes where it may
posted-turn : (s : Standing) (o : Outcome) (t : Ticket) (r : Request) → s.taken ≡ Some (t, r)
    → IsInTurn s (Answered t o)
posted-turn s o t r held = rw held (own-entry (Answered t o))

none-taken : {X : Type 0} (taken : Option X) → is_some taken ≡ false → taken ≡ None
none-taken None free = refl
none-taken (Some x) free = absurd (cc)

-- where none waits nothing leaves its queue
pub sound-same_queues : {A : Type 0} {fields : Inside A} → IsSoundBook fields
    → (urgent waiting : VecDeque (Ticket × ℕ) A) → urgent.items ≡ fields.urgent.items
    → waiting.items ≡ fields.waiting.items
    → deque_capacity urgent ≡ deque_capacity fields.urgent
    → deque_capacity waiting ≡ deque_capacity fields.waiting
    → IsSoundBook (record fields { urgent = urgent; waiting = waiting })
sound-same_queues sound urgent waiting us ws urgent_room waiting_room = record {
  lines = rw (us, ws) sound.lines;
  replayed = rw (us, ws) sound.replayed;
  in_turn = sound.in_turn;
  head = sound.head;
  numbered = rw (us, ws) sound.numbered;
  forgotten = sound.forgotten;
  room = record {
    urgent_room = rw urgent_room sound.room.urgent_room;
    queue_room = rw waiting_room sound.room.queue_room;
    outcome_room = rw (us, ws) sound.room.outcome_room;
    entry_room = rw (us, ws) sound.room.entry_room;
    octet_room = rw (us, ws) sound.room.octet_room;
    within = sound.room.within;
    limit = sound.room.limit;
  };
}

-- the request that is next, by its line
abbrev request_by : {A : Type 0} → Inside A → Ticket × ℕ → Ticket × Request
request_by fields line = (line.0, entry_request (slice_get fields.journal.items line.1))

values-by : {A : Type 0} (fields : Inside A)
    → served_in fields.serve ((standing_of fields).urgent ++ (standing_of fields).waiting)
    ≡ option_map (request_by fields)
    (served_in fields.serve (fields.urgent.items ++ fields.waiting.items))
values-by fields = served-values fields.serve entry_request fields.journal.items
    fields.urgent.items fields.waiting.items

pub next-line : {A : Type 0} (fields : Inside A) (line : Option (Ticket × ℕ))
    → is_some fields.taken ≡ false
    → line ≡ served_in fields.serve (fields.urgent.items ++ fields.waiting.items)
    → next_taken (book_state fields) ≡ option_map (request_by fields) line
next-line fields line free is = rw (none-taken fields.taken free) (sym (find-first
    (λ w. is_served fields.serve w.0)
    ((standing_of fields).urgent ++ (standing_of fields).waiting)) ∙ (values-by fields
    ∙ ap (option_map (request_by fields)) (sym is)))

-- it waits
pub next-waits : {A : Type 0} (fields : Inside A) {p : Ticket × ℕ}
    → served_in fields.serve (fields.urgent.items ++ fields.waiting.items) ≡ Some p
    → WaitsIn (standing_of fields).urgent (standing_of fields).waiting (request_by fields p)
next-waits fields {p} found = found-waits fields.serve (standing_of fields).urgent
    (standing_of fields).waiting (request_by fields p)
    (values-by fields ∙ ap (option_map (request_by fields)) found)

-- for nothing there is room
none-fit : (n room : ℕ) → n ≡ 0 → n ≤ room
none-fit n room none = grind (arith)

-- one more entry, of which nothing is forgotten
forgotten-push : (parts : JournalParts) (e : Entry) → IsForgotten parts
    → IsForgotten (record parts { in_memory = parts.in_memory ++ e ∷ [] })
forgotten-push parts e h = record {
  overlap = longer parts.in_memory e h.overlap;
  stands = rw (
    entered parts.forgotten parts.overlap parts.in_memory e h.overlap,
    replay-push (all_entries parts) e,
    replay-push parts.in_memory e,
  ) (ap (λ s. standing_after s e) h.stands);
  retained = h.retained;
  unretained = h.unretained;
}

-- but for the entries in memory the parts of the journal are what they were
abbrev HasPartsOf : {A : Type 0} → Inside A → Inside A → Type 0
HasPartsOf old new =
    journal_parts new ≡ record (journal_parts old) { in_memory = new.journal.items }

module _ {A : Type 0} {fields : Inside A} (sound : IsSoundBook fields) where
  -- all entries say where each ticket stands
  pub whole-replayed : IsReplayed (whole_state fields)
  whole-replayed = sound.replayed ∙ sym sound.forgotten.stands

  -- one more is one more of all
  pub whole-push : (e : Entry)
      → fields.forgotten.entries ++ drop fields.overlap (fields.journal.items ++ e ∷ [])
      ≡ (fields.forgotten.entries ++ drop fields.overlap fields.journal.items) ++ e ∷ []
  whole-push e = entered fields.forgotten.entries fields.overlap fields.journal.items e
      sound.forgotten.overlap

  -- and where the journal is kept, all are in memory
  pub whole-retained : IsTrue (has_journal fields.limit)
      → all_entries (journal_parts fields) ≡ fields.journal.items
  whole-retained h = let none = sound.forgotten.retained h in rw (none.0, none.1) refl

-- it is sound where it has room, which each call shows by itself
abbrev IsSoundWithRoom : {A : Type 0} → Inside A → Type 0
IsSoundWithRoom fields = HasRoom fields → IsSoundBook fields

-- the lines of a book are in this journal, and say this standing
record Tells {A : Type 0} (entries : List Entry) (fields : Inside A) (next : Standing)
    : Type 0 where
  pub urgent : Says has_request_of entry_request entries fields.urgent.items next.urgent
  pub waiting : Says has_request_of entry_request entries fields.waiting.items next.waiting
  pub taken : AllPass is_of entries (option_to_list fields.taken)
      × (taken_at entries fields.taken ≡ next.taken)
  pub abandoned : fields.abandoned ≡ next.abandoned
  pub outcomes : Says is_of outcome_in entries fields.outcomes.items next.outcomes

module _ {A : Type 0} {old : Inside A} (sound : IsSoundBook old) where
  module _ {entries : List Entry} (e : Entry) (n : entries ≡ old.journal.items ++ e ∷ []) where
    -- a book whose lines say what one more entry leaves is sound
    sound-entered : (new : Inside A) (next : Standing) → new.journal.items ≡ entries
        → HasPartsOf old new → IsInTurn (standing_of old) e
        → next ≡ standing_after (standing_of old) e → IsNumbered new.last next → HasRoom new
        → Tells new.journal.items new next → IsSoundBook new
    sound-entered new next same parts turn steps numbered room tells = record {
      lines = record {
        urgent_requests = tells.urgent.pass;
        waiting_requests = tells.waiting.pass;
        taken_within = tells.taken.0;
        outcomes_within = tells.outcomes.pass;
      };
      replayed = stands ∙ steps ∙ rw (same, n, replay-push old.journal.items e)
          (ap (λ s. standing_after s e) sound.replayed);
      in_turn = rw (same, n) (in_turn-push nothing old.journal.items e sound.in_turn
          (rw (← sound.replayed) turn));
      head = rw (ap (λ (p : JournalParts). p.restated) parts, same, n)
          (longer old.journal.items e sound.head);
      numbered = rw stands numbered;
      forgotten = subst (λ p. IsForgotten p) (sym (parts
          ∙ ap (λ es. record (journal_parts old) { in_memory = es }) (same ∙ n)))
          (forgotten-push (journal_parts old) e sound.forgotten);
      room = room;
    }
      where
        stands : standing_of new ≡ next
        stands = rw (
          tells.urgent.values_are,
          tells.waiting.values_are,
          tells.taken.1,
          tells.abandoned,
          tells.outcomes.values_are,
        ) refl

    -- after one more entry the lines say what they said
    retained : Tells entries old (standing_of old)
    retained = rw n (record {
      urgent = says-more _ e _ (λ _. refl) sound.lines.urgent_requests;
      waiting = says-more _ e _ (λ _. refl) sound.lines.waiting_requests;
      taken = taken-more e _ old.taken sound.lines.taken_within;
      abandoned = refl;
      outcomes = says-more _ e _ (λ _. refl) sound.lines.outcomes_within;
    })

    -- one more outcome, of a ticket that has none
    outcomes-new : {os : TicketLines} (t : Ticket) → is_of t (Some e) ≡ true
        → os ≡ old.outcomes.items ++ (t, length old.journal.items) ∷ []
        → lookup (same_ticket t) (standing_of old).outcomes ≡ None
        → Says is_of outcome_in entries os
        (insert_entry same_ticket (standing_of old).outcomes t (outcome_in (Some e)))
    outcomes-new t own o free = rw (insert_entry-none 0 t (outcome_in (Some e)) _ free, n, o)
        (says-new _ e _ t (λ _. refl) own sound.lines.outcomes_within)

  pub sound-submitted : (journal : Journal A) (last : ℕ) (waiting : VecDeque (Ticket × ℕ) A)
      (t : Ticket) (r : Request) → journal.items ≡ old.journal.items ++ Submitted t r ∷ []
      → last ≡ old.last + 1 → t.0 ≡ old.last + 1
      → waiting.items ≡ old.waiting.items ++ (t, length old.journal.items) ∷ []
      → IsSoundWithRoom (record old { journal = journal; last = last; waiting = waiting })
  sound-submitted journal last waiting t r n later number w room =
      let same = retained (Submitted t r) n in
      sound-entered (Submitted t r) n _ _ refl refl tt refl (rw later (numbered-more
      (λ i. rw (← number) (times-submitted i (standing_of old) t r)) sound.numbered)) room (record {
        urgent = same.urgent;
        waiting = rw (n, w) (says-new _ (Submitted t r) _ t (λ _. refl)
            (own-entry (Submitted t r)) sound.lines.waiting_requests);
        taken = same.taken;
        abandoned = same.abandoned;
        outcomes = same.outcomes;
      })

  pub sound-urgent : (journal : Journal A) (last : ℕ) (urgent : VecDeque (Ticket × ℕ) A)
      (t : Ticket) (r : Request) → journal.items ≡ old.journal.items ++ Urgent t r ∷ []
      → last ≡ old.last + 1 → t.0 ≡ old.last + 1
      → urgent.items ≡ old.urgent.items ++ (t, length old.journal.items) ∷ []
      → IsSoundWithRoom (record old { journal = journal; last = last; urgent = urgent })
  sound-urgent journal last urgent t r n later number u room =
      let same = retained (Urgent t r) n in
      sound-entered (Urgent t r) n _ _ refl refl tt refl (rw later (numbered-more
      (λ i. rw (← number) (times-urgent i (standing_of old) t r)) sound.numbered)) room (record {
        urgent = rw (n, u) (says-new _ (Urgent t r) _ t (λ _. refl) (own-entry (Urgent t r))
            sound.lines.urgent_requests);
        waiting = same.waiting;
        taken = same.taken;
        abandoned = same.abandoned;
        outcomes = same.outcomes;
      })

  pub sound-collected : (journal : Journal A) (outcomes : Vec (Ticket × ℕ) A) (t : Ticket)
      → journal.items ≡ old.journal.items ++ Collected t ∷ []
      → outcomes.items ≡ without t old.outcomes.items
      → IsSoundWithRoom (record old { journal = journal; outcomes = outcomes })
  sound-collected journal outcomes t n o room = let same = retained (Collected t) n in
      sound-entered (Collected t) n _ _ refl refl tt refl
      (numbered-fewer (λ i. times-collected i (standing_of old) t) sound.numbered) room (record {
        urgent = same.urgent;
        waiting = same.waiting;
        taken = same.taken;
        abandoned = same.abandoned;
        outcomes = rw o (says-without t same.outcomes);
      })

  -- what is said of one that is taken, and is answered
  posted-tells : (new : Inside A) (p : Ticket × ℕ) (o : Outcome)
      → new.journal.items ≡ old.journal.items ++ Answered p.0 o ∷ [] → old.taken ≡ Some p
      → new.taken ≡ None → new.abandoned ≡ false → new.urgent ≡ old.urgent
      → new.waiting ≡ old.waiting → HasPartsOf old new → new.last ≡ old.last
      → Says is_of outcome_in new.journal.items new.outcomes.items
      (cond old.abandoned (standing_of old).outcomes
      (insert_entry same_ticket (standing_of old).outcomes p.0 o)) → IsSoundWithRoom new
  posted-tells new p o n held none free us ws parts last outcomes room =
      let same = retained (Answered p.0 o) n in
      let was = ap (λ found. taken_at old.journal.items found) held in
      sound-entered (Answered p.0 o) n new _ refl parts (posted-turn (standing_of old) o p.0 _ was)
      (posted-step (standing_of old) _ o was sound.numbered)
      (rw last (numbered-fewer (λ i. times-posted i (standing_of old) _ o was) sound.numbered))
      room (record {
        urgent = rw us same.urgent;
        waiting = rw ws same.waiting;
        taken = rw none (tt, refl);
        abandoned = free;
        outcomes = outcomes;
      })

  pub sound-posted : (journal : Journal A) (taken : Option (Ticket × ℕ)) (abandoned : Bool)
      (outcomes : Vec (Ticket × ℕ) A) (unsure : Bool) (p : Ticket × ℕ) (o : Outcome)
      → old.abandoned ≡ false
      → journal.items ≡ old.journal.items ++ Answered p.0 o ∷ []
      → old.taken ≡ Some p → taken ≡ None → abandoned ≡ false
      → outcomes.items ≡ old.outcomes.items ++ (p.0, length old.journal.items) ∷ []
      → IsSoundWithRoom (record old {
        journal = journal;
        taken = taken;
        abandoned = abandoned;
        outcomes = outcomes;
        unsure = unsure;
      })
  sound-posted journal taken abandoned outcomes unsure p o awaited n held none free add room =
      let unanswered = taken-unanswered sound.numbered p.0 (grind (arith, common_steps, held)) in
      posted-tells _ p o n held none free refl refl refl refl
      (rw awaited (outcomes-new (Answered p.0 o) n p.0 (own-entry (Answered p.0 o)) add
      unanswered)) room

  -- of one that was abandoned
  pub sound-dropped : (journal : Journal A) (taken : Option (Ticket × ℕ)) (abandoned : Bool)
      (unsure : Bool) (p : Ticket × ℕ) (o : Outcome)
      → old.abandoned ≡ true
      → journal.items ≡ old.journal.items ++ Answered p.0 o ∷ []
      → old.taken ≡ Some p → taken ≡ None → abandoned ≡ false
      → IsSoundWithRoom (record old {
        journal = journal;
        taken = taken;
        abandoned = abandoned;
        unsure = unsure;
      })
  sound-dropped journal taken abandoned unsure p o is_abandoned n held none free room =
      posted-tells _ p o n held none free refl refl refl refl
      (rw is_abandoned (retained (Answered p.0 o) n).outcomes) room

  -- the first that is served leaves its queue
  pub sound-taken : (journal : Journal A) (urgent waiting : VecDeque (Ticket × ℕ) A)
      {p : Ticket × ℕ} → served_in old.serve (old.urgent.items ++ old.waiting.items) ≡ Some p
      → old.taken ≡ None → urgent.items ≡ without p.0 old.urgent.items
      → waiting.items ≡ others_without p.0 old.urgent.items old.waiting.items
      → journal.items ≡ old.journal.items ++ Taken p.0 ∷ []
      → IsSoundWithRoom (record old {
        journal = journal;
        urgent = urgent;
        waiting = waiting;
        taken = Some p;
        abandoned = false;
      })
  sound-taken journal urgent waiting {p} found none u w n room =
      let same = retained (Taken p.0) n in
      let waits = next-waits old found in
      let within : AllPass is_of old.journal.items (p ∷ []) = (
        request-own p.0 _ (found-passes old.serve has_request_of old.journal.items
            old.urgent.items old.waiting.items p found sound.lines.urgent_requests
            sound.lines.waiting_requests),
        tt,
      ) in
      sound-entered (Taken p.0) n _ _ refl refl
      (ap (λ found. taken_at old.journal.items found) none)
      (taken-step (standing_of old) (request_by old p) waits.request)
      (numbered-fewer (λ i. times-taken i (standing_of old) (request_by old p)
      (ap (λ found. taken_at old.journal.items found) none) waits.among) sound.numbered) room
      (record {
        urgent = rw u (says-without p.0 same.urgent);
        waiting = rw w (says-others p.0 same.urgent same.waiting);
        taken = rw n (taken-more (Taken p.0) _ (Some p) within);
        abandoned = refl;
        outcomes = same.outcomes;
      })

  -- one that is abandoned is nowhere but among those taken
  sound-abandoned : (new : Inside A) (t : Ticket)
      → new.journal.items ≡ old.journal.items ++ Abandoned t ∷ []
      → new.urgent.items ≡ without t old.urgent.items
      → new.waiting.items ≡ others_without t old.urgent.items old.waiting.items
      → new.outcomes.items ≡ without t old.outcomes.items → new.taken ≡ old.taken
      → new.abandoned ≡ (old.abandoned || is_taken (standing_of old) t)
      → HasPartsOf old new → new.last ≡ old.last → IsSoundWithRoom new
  sound-abandoned new t n u w o taken abandoned parts last room = let same =
      retained (Abandoned t) n in
      sound-entered (Abandoned t) n new _ refl parts tt refl
      (rw last (numbered-fewer (λ i. times-abandoned i (standing_of old) t) sound.numbered)) room
      (record {
        urgent = rw (n, u) (says-without t (rw n at same.urgent));
        waiting = rw (n, w) (says-others t (rw n at same.urgent) (rw n at same.waiting));
        taken = rw (n, taken) (rw n at same.taken);
        abandoned = abandoned;
        outcomes = rw (n, o) (says-without t (rw n at same.outcomes));
      })

  -- what isn't in a list stays away
  absent : (t : Ticket) (lines : TicketLines) → is_among t lines ≡ false
      → lines ≡ without t lines
  absent t lines none = sym (remove-absent (same_ticket t) lines none)

  absent-others : (t : Ticket) → is_among t old.urgent.items ≡ false
      → is_among t old.waiting.items ≡ false
      → old.waiting.items ≡ others_without t old.urgent.items old.waiting.items
  absent-others t u w = rw u (absent t old.waiting.items w)

  no-urgent : (t : Ticket) → is_among t (standing_of old).urgent ≡ false
      → is_among t old.urgent.items ≡ false
  no-urgent t none = sym (among-values entry_request old.journal.items t old.urgent.items) ∙ none

  no-other : (t : Ticket) → is_among t (standing_of old).waiting ≡ false
      → is_among t old.waiting.items ≡ false
  no-other t none = sym (among-values entry_request old.journal.items t old.waiting.items) ∙ none

  no-outcome : (t : Ticket) → is_among t (standing_of old).outcomes ≡ false
      → is_among t old.outcomes.items ≡ false
  no-outcome t none = sym (among-values outcome_in old.journal.items t old.outcomes.items) ∙ none

  pub abandoned-taken : (journal : Journal A) (abandoned : Bool) (t : Ticket)
      → is_taken (standing_of old) t ≡ true → abandoned ≡ true
      → journal.items ≡ old.journal.items ++ Abandoned t ∷ []
      → IsSoundWithRoom (record old { journal = journal; abandoned = abandoned })
  abandoned-taken journal abandoned t found is n room =
      let (u, (w, o)) = taken-alone sound.numbered t found in
      sound-abandoned _ t n (absent t _ (no-urgent t u)) (absent-others t (no-urgent t u)
      (no-other t w)) (absent t _ (no-outcome t o)) refl
      (rw (is, found) (elim old.abandoned as (λ b. true ≡ (b || true))
      [ true ↦ refl | false ↦ refl ])) refl refl room

  pub abandoned-waiting : (journal : Journal A) (urgent waiting : VecDeque (Ticket × ℕ) A)
      (t : Ticket) → waits (standing_of old) t ≡ true
      → urgent.items ≡ without t old.urgent.items
      → waiting.items ≡ others_without t old.urgent.items old.waiting.items
      → journal.items ≡ old.journal.items ++ Abandoned t ∷ []
      → IsSoundWithRoom
      (record old { journal = journal; urgent = urgent; waiting = waiting })
  abandoned-waiting journal urgent waiting t found u w n room =
      let (free, o) = waiting-alone sound.numbered t found in
      sound-abandoned _ t n u w (absent t _ (no-outcome t o)) refl
      (rw free (elim old.abandoned as (λ b. b ≡ (b || false)) [ true ↦ refl | false ↦ refl ]))
      refl refl room

  pub abandoned-outcome : (journal : Journal A) (outcomes : Vec (Ticket × ℕ) A) (t : Ticket)
      → is_among t (standing_of old).outcomes ≡ true
      → outcomes.items ≡ without t old.outcomes.items
      → journal.items ≡ old.journal.items ++ Abandoned t ∷ []
      → IsSoundWithRoom (record old { journal = journal; outcomes = outcomes })
  abandoned-outcome journal outcomes t found o n room =
      let (free, (u, w)) = outcome-alone sound.numbered t found in
      sound-abandoned _ t n (absent t _ (no-urgent t u)) (absent-others t (no-urgent t u)
      (no-other t w)) o refl
      (rw free (elim old.abandoned as (λ b. b ≡ (b || false)) [ true ↦ refl | false ↦ refl ]))
      refl refl room

  -- a request that waited leaves its queue, and has an outcome: it was withdrawn, or denied
  pub sound-left : (journal : Journal A) (urgent waiting : VecDeque (Ticket × ℕ) A)
      (outcomes : Vec (Ticket × ℕ) A) (e : Entry) (t : Ticket)
      → journal.items ≡ old.journal.items ++ e ∷ []
      → is_of t (Some e) ≡ true → IsInTurn (standing_of old) e
      → (is_among t old.urgent.items || is_among t old.waiting.items) ≡ true
      → record (without_waiting (standing_of old) t) {
        outcomes = insert_entry same_ticket (standing_of old).outcomes t (outcome_in (Some e));
      } ≡ standing_after (standing_of old) e → urgent.items ≡ without t old.urgent.items
      → waiting.items ≡ others_without t old.urgent.items old.waiting.items
      → outcomes.items ≡ old.outcomes.items ++ (t, length old.journal.items) ∷ []
      → IsSoundWithRoom (record old {
        journal = journal;
        urgent = urgent;
        waiting = waiting;
        outcomes = outcomes;
      })
  sound-left journal urgent waiting outcomes e t n own turn found is u w o room =
      let same = retained e n in
      let waited : waits (standing_of old) t ≡ true = rw (
        among-values entry_request old.journal.items t old.urgent.items,
        among-values entry_request old.journal.items t old.waiting.items,
      ) found in
      sound-entered e n _ _ refl refl turn is (numbered-fewer (λ i.
      times-left i (standing_of old) t (outcome_in (Some e)) waited) sound.numbered) room (record {
        urgent = rw u (says-without t same.urgent);
        waiting = rw w (says-others t same.urgent same.waiting);
        taken = same.taken;
        abandoned = same.abandoned;
        outcomes = outcomes-new e n t own o (waiting-unanswered sound.numbered t waited);
      })

  -- where nothing is outstanding a blank journal says as much
  pub sound-archived : (journal : Journal A) → journal ≡ record {
    items = [];
    places = 0;
    octet_places = 0;
  } → old.urgent.items ≡ [] → old.waiting.items ≡ [] → old.taken ≡ None
      → old.outcomes.items ≡ [] → IsTrue (has_journal old.limit)
      → IsSoundBook (record old { journal = journal; restated = 0 })
  sound-archived journal blank us ws free os there =
      let awaited = none_abandoned sound (rw free refl) in
      let forgotten = sound.forgotten.retained there in
      let next = standing_of (record old { journal = journal; restated = 0 }) in record {
        lines = rw (blank, us, ws, free, os) (record {
          urgent_requests = tt;
          waiting_requests = tt;
          taken_within = tt;
          outcomes_within = tt;
        });
        replayed = rw (blank, us, ws, free, os, awaited) refl;
        in_turn = rw blank tt;
        head = grind (arith);
        numbered = rw (blank, us, ws, free, os) (record {
          once = λ n. grind (arith, common_steps);
          issued = λ n above. refl;
        });
        forgotten = record {
          overlap = rw forgotten.1 (grind (arith));
          stands = rw (forgotten.0, forgotten.1) refl;
          retained = sound.forgotten.retained;
          unretained = λ unretained. refl;
        };
        room = record {
          urgent_room = sound.room.urgent_room;
          queue_room = sound.room.queue_room;
          outcome_room = none-fit (outstanding_count next) (vec_capacity old.outcomes)
              (simp (blank, us, ws, free, os) refl);
          entry_room = none-fit (length journal.items + entries_owed next) journal.places
              (simp (blank, us, ws, free, os) refl);
          octet_room = none-fit (octet_sum journal.items + octets_owed next) journal.octet_places
              (simp (blank, us, ws, free) refl);
          within = rw blank (record {
            entries_within = grind (arith);
            octets_within = grind (arith);
          });
          limit = sound.room.limit;
        };
      }
