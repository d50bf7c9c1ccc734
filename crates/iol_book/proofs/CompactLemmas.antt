-- A book is sound once the entries of tickets that are over are gone, and stands as it stood: the
-- invariant of `Book` after `compact`, and its clause `state`.
-- For the clauses of `Book::compact`.
use Rattle.std.proofs.Common.{◌≡◌, ℕ, ◌+◌, ◌≤◌, Bool, true, false, refl, List, Option, None, Some, ap, arith, ◌∙◌, sym, subst, length, IsTrue, IsFalse}
use Rattle.std.specs.Prelude.{filter}
use Rattle.std.specs.Option.{option_map_or, option_to_list}
use Rattle.std.specs.Vec.{vec_capacity}
use Rattle.std.specs.VecDeque.{deque_capacity}
use Rattle.std.proofs.lemmas.Bool.{eq-eqb}
use Rattle.std.proofs.lemmas.List.{append-nil}
use Rattle.std.proofs.Math.Seq.{drop-length}
use Rattle.std.proofs.lemmas.Grind.{common_steps}
use Rattle.iol_book.specs.declared.entries.Ticket.{Ticket}
use Rattle.iol_book.specs.declared.entries.Entry.{Entry}
use Rattle.iol_book.specs.declared.book.Book.TheInside.{Inside}
use Rattle.iol_book.specs.Replay.{nothing, same_ticket, is_among, replay}
use Rattle.iol_book.specs.Lines.{entry_ticket, TicketLines, line_number_after, values_at, entry_request, outcome_in, AllPass, has_request_of, is_of, taken_at, is_still_open_by, lines_after}
use Rattle.iol_book.specs.Drained.{in_doubt, is_still_open, restated_entries, book_after_drain}
use Rattle.iol_book.specs.BookModel.{BookState, outstanding_count, entries_owed, octets_owed}
use Rattle.iol_book.specs.Numbers.{IsNumbered}
use Rattle.iol_book.specs.BookInside.{IsSoundBook, IsForgotten, all_entries, journal_parts, book_state, whole_state, standing_of}
use Rattle.iol_book.specs.Limits.{has_journal}
use Rattle.iol_book.specs.JournalModel.{octet_sum}
use Rattle.iol_book.proofs.JournalLemmas.{filter-fewer, filter-less}
use Rattle.iol_book.proofs.LineLemmas.{Says, among-values, request-own}
use Rattle.iol_book.proofs.RestatedLemmas.{retained_pairs, retained_entries, retained_standing, retained_taken, retained_abandoned, retained-all, retained-replay, LeadsTo, leads-where, same-filter}
use Rattle.iol_book.proofs.SoundLemmas.{none_abandoned, whole-retained}
use Rattle.iol_book.proofs.NumberLemmas.{says-after, taken-after, open-numbers}

-- the line of the one that is taken is its ticket's
taken-own : (entries : List Entry) (t : Ticket) (taken : Option (Ticket × ℕ))
    → option_map_or (λ p. same_ticket t p.0) (taken_at entries taken) false
    ≡ option_map_or (λ own. same_ticket t own.0) taken false
taken-own entries t None = refl
taken-own entries t (Some line) = refl

-- it is kept where its ticket is
taken-retained : (k : ℕ → Bool) (entries : List Entry) (taken : Option (Ticket × ℕ))
    → ((t : Ticket) → option_map_or (λ own. same_ticket t own.0) taken false ≡ true
    → k t.0 ≡ true) → retained_taken k (taken_at entries taken) ≡ taken_at entries taken
taken-retained k entries None held = refl
taken-retained k entries (Some line) held =
    rw (held line.0 (eq-eqb line.0.0 line.0.0 refl)) refl

-- and so is that it was abandoned
abandoned-retained : (k : ℕ → Bool) (entries : List Entry) (taken : Option (Ticket × ℕ))
    (abandoned : Bool)
    → ((t : Ticket) → option_map_or (λ own. same_ticket t own.0) taken false ≡ true
    → k t.0 ≡ true) → (taken_at entries taken ≡ None → abandoned ≡ false)
    → retained_abandoned k (taken_at entries taken) abandoned ≡ abandoned
abandoned-retained k entries None abandoned held free = sym (free refl)
abandoned-retained k entries (Some line) abandoned held free =
    rw (held line.0 (eq-eqb line.0.0 line.0.0 refl)) refl

-- what is the same part by part is the same
same-state : (a b : BookState) → a.journal ≡ b.journal → a.restated ≡ b.restated
    → a.last ≡ b.last → a.standing ≡ b.standing → a.unsure ≡ b.unsure → a.limit ≡ b.limit
    → a.queue ≡ b.queue → a.serve ≡ b.serve → a ≡ b
same-state a b journal restated last standing unsure limit queue serve = λ i. record {
  journal = journal i;
  restated = restated i;
  last = last i;
  standing = standing i;
  unsure = unsure i;
  limit = limit i;
  queue = queue i;
  serve = serve i;
}

-- a journal is kept or not
retained-unretained : (limit : ℕ) → IsTrue (has_journal limit) → IsFalse (has_journal limit) → ⊥
retained-unretained limit retained unretained = absurd (cc)

-- fewer entries, or octets, have room where more had it
fewer-fit : (fewer more owed room same : ℕ) → fewer ≤ more → more + owed ≤ room → same ≡ room
    → fewer + owed ≤ same
fewer-fit fewer more owed room same h fits is = grind (arith)

module _ {A : Type 0} {old : Inside A} (sound : IsSoundBook old) (doubt : Option Ticket) where
  -- whether a ticket of this number is outstanding or in doubt
  abbrev pub is_retained : ℕ → Bool
  is_retained n = is_still_open_by doubt old.urgent.items old.waiting.items old.taken
      old.outcomes.items
      (record { 0 = n })

  urgent-held : (t : Ticket) → is_among t old.urgent.items ≡ true → is_retained t.0 ≡ true
  urgent-held t found = rw found refl

  waiting-held : (t : Ticket) → is_among t old.waiting.items ≡ true → is_retained t.0 ≡ true
  waiting-held t found = grind (arith, common_steps)

  taken-held : (t : Ticket) → option_map_or (λ own. same_ticket t own.0) old.taken false ≡ true
      → is_retained t.0 ≡ true
  taken-held t found = rw found (grind (arith, common_steps))

  outcome-held : (t : Ticket) → is_among t old.outcomes.items ≡ true → is_retained t.0 ≡ true
  outcome-held t found = grind (arith, common_steps)

  -- so all that is outstanding is kept
  all-retained : retained_standing is_retained (standing_of old) ≡ standing_of old
  all-retained =
      let urgent : retained_pairs is_retained (standing_of old).urgent ≡ (standing_of old).urgent =
      retained-all is_retained (standing_of old).urgent (λ t found. urgent-held t
      (rw (among-values entry_request old.journal.items t old.urgent.items) at found)) in
      let waiting : retained_pairs is_retained (standing_of old).waiting
      ≡ (standing_of old).waiting =
      retained-all is_retained (standing_of old).waiting (λ t found. waiting-held t
      (rw (among-values entry_request old.journal.items t old.waiting.items) at found)) in
      let outcomes : retained_pairs is_retained (standing_of old).outcomes
      ≡ (standing_of old).outcomes =
      retained-all is_retained (standing_of old).outcomes (λ t found. outcome-held t
      (rw (among-values outcome_in old.journal.items t old.outcomes.items) at found)) in
      let taken : retained_taken is_retained (standing_of old).taken ≡ (standing_of old).taken =
      taken-retained is_retained old.journal.items old.taken taken-held in
      let abandoned : retained_abandoned is_retained (standing_of old).taken old.abandoned
      ≡ old.abandoned = abandoned-retained is_retained old.journal.items old.taken old.abandoned
      taken-held (none_abandoned sound) in
      λ i. record {
        urgent = urgent i;
        waiting = waiting i;
        taken = taken i;
        abandoned = abandoned i;
        outcomes = outcomes i;
      }

  -- the entries that are left come where they may, and say the same
  leads : LeadsTo nothing (retained_entries is_retained old.journal.items) (standing_of old)
  leads = leads-where (ap (λ s. retained_standing is_retained s) (sym sound.replayed)
      ∙ all-retained)
      (retained-replay is_retained nothing old.journal.items sound.in_turn)

  -- the entries that are left, by the lines with their numbers of after
  pub entries-left : (us ws os : TicketLines) (taken : Option (Ticket × ℕ)) (entries : List Entry)
      → us ≡ lines_after (λ t. is_retained t.0) old.journal.items old.urgent.items
      → ws ≡ lines_after (λ t. is_retained t.0) old.journal.items old.waiting.items
      → option_to_list taken
      ≡ lines_after (λ t. is_retained t.0) old.journal.items (option_to_list old.taken)
      → os ≡ lines_after (λ t. is_retained t.0) old.journal.items old.outcomes.items
      → entries ≡ filter (λ e. is_still_open_by doubt us ws taken os (entry_ticket e))
      old.journal.items → entries ≡ retained_entries is_retained old.journal.items
  entries-left us ws os taken entries u w t o left = left ∙ same-filter
      (λ e. open-numbers (entry_ticket e)
      (line_number_after (λ t. is_retained t.0) 0 0 old.journal.items) doubt old.urgent.items
      old.waiting.items old.outcomes.items us ws os old.taken taken u w t o) old.journal.items

  -- of a journal that is kept nothing is forgotten
  pub forgotten-none : (new : Inside A) → IsTrue (has_journal old.limit)
      → journal_parts new ≡ record (journal_parts old) {
        restated = new.restated;
        in_memory = new.journal.items;
      } → IsForgotten (journal_parts new)
  forgotten-none new retained parts = let none = sound.forgotten.retained retained in
      subst (λ p. IsForgotten p) (sym parts) (record {
        overlap = rw none.1 (grind (arith));
        stands = rw (none.0, none.1) refl;
        retained = λ _. none;
        unretained = λ un. absurd (retained-unretained old.limit retained un);
      })

  -- of another one what isn't kept is
  pub record Forgets (new : Inside A) : Type 0 where
    pub unretained : IsFalse (has_journal old.limit)
    pub entries : new.forgotten.entries ≡ all_entries (journal_parts old)
    pub overlap : new.overlap ≡ length new.journal.items
    pub restated : new.restated ≡ old.restated
    pub limit : new.limit ≡ old.limit

  pub all-forgotten : {new : Inside A} → Forgets new
      → all_entries (journal_parts new) ≡ all_entries (journal_parts old)
  all-forgotten {new} forgets = rw (
    forgets.entries,
    forgets.overlap,
    drop-length new.journal.items,
    append-nil (all_entries (journal_parts old)),
  ) refl

  pub forgotten-more : {new : Inside A}
      → new.journal.items ≡ retained_entries is_retained old.journal.items
      → Forgets new → IsForgotten (journal_parts new)
  forgotten-more {new} left forgets = record {
    overlap = rw forgets.overlap (grind (arith));
    stands = ap (λ es. replay es) (all-forgotten forgets) ∙ (sound.forgotten.stands
        ∙ (sym sound.replayed ∙ rw left (sym leads.stands)));
    retained = λ retained. absurd (retained-unretained old.limit (rw forgets.limit at retained)
        forgets.unretained);
    unretained = λ un. forgets.restated ∙ sound.forgotten.unretained forgets.unretained;
  }

  -- what a drain does to the fields
  pub record Drains (new : Inside A) : Type 0 where
    pub journal : new.journal.items ≡ retained_entries is_retained old.journal.items
    pub head : new.restated ≤ length new.journal.items
    pub forgotten : IsForgotten (journal_parts new)
    pub urgent : new.urgent.items ≡ lines_after (λ t. is_retained t.0) old.journal.items
        old.urgent.items
    pub waiting : new.waiting.items ≡ lines_after (λ t. is_retained t.0) old.journal.items
        old.waiting.items
    pub taken : option_to_list new.taken ≡ lines_after (λ t. is_retained t.0) old.journal.items
        (option_to_list old.taken)
    pub abandoned : new.abandoned ≡ old.abandoned
    pub outcomes : new.outcomes.items ≡ lines_after (λ t. is_retained t.0) old.journal.items
        old.outcomes.items
    pub places : new.journal.places ≡ old.journal.places
    pub octet_places : new.journal.octet_places ≡ old.journal.octet_places
    pub urgent_room : deque_capacity new.urgent ≡ deque_capacity old.urgent
    pub queue_room : deque_capacity new.waiting ≡ deque_capacity old.waiting
    pub outcome_room : vec_capacity new.outcomes ≡ vec_capacity old.outcomes
    pub last : new.last ≡ old.last
    pub unsure : new.unsure ≡ old.unsure
    pub limit : new.limit ≡ old.limit
    pub queue : new.queue ≡ old.queue
    pub serve : new.serve ≡ old.serve

  module _ {new : Inside A} (does : Drains new) where
    urgent-says : Says has_request_of entry_request (retained_entries is_retained old.journal.items)
        (lines_after (λ t. is_retained t.0) old.journal.items old.urgent.items)
        (standing_of old).urgent
    urgent-says = says-after is_retained request-own old.journal.items old.urgent.items urgent-held
        sound.lines.urgent_requests

    waiting-says : Says has_request_of entry_request
        (retained_entries is_retained old.journal.items)
        (lines_after (λ t. is_retained t.0) old.journal.items old.waiting.items)
        (standing_of old).waiting
    waiting-says = says-after is_retained request-own old.journal.items old.waiting.items
        waiting-held
        sound.lines.waiting_requests

    outcomes-say : Says is_of outcome_in (retained_entries is_retained old.journal.items)
        (lines_after (λ t. is_retained t.0) old.journal.items old.outcomes.items)
        (standing_of old).outcomes
    outcomes-say = says-after is_retained (λ t found h. h) old.journal.items old.outcomes.items
        outcome-held sound.lines.outcomes_within

    taken-says : AllPass is_of (retained_entries is_retained old.journal.items)
        (option_to_list new.taken)
        × (taken_at (retained_entries is_retained old.journal.items) new.taken
        ≡ taken_at old.journal.items old.taken)
    taken-says = taken-after is_retained old.journal.items old.taken new.taken does.taken taken-held
        sound.lines.taken_within

    -- the book stands as it stood
    pub drained-stands : standing_of new ≡ standing_of old
    drained-stands =
        let urgent : values_at entry_request new.journal.items new.urgent.items
        ≡ (standing_of old).urgent = rw (does.journal, does.urgent) urgent-says.values_are in
        let waiting : values_at entry_request new.journal.items new.waiting.items
        ≡ (standing_of old).waiting = rw (does.journal, does.waiting) waiting-says.values_are in
        let outcomes : values_at outcome_in new.journal.items new.outcomes.items
        ≡ (standing_of old).outcomes = rw (does.journal, does.outcomes) outcomes-say.values_are in
        let taken : taken_at new.journal.items new.taken ≡ (standing_of old).taken =
        rw does.journal taken-says.1 in
        λ i. record {
          urgent = urgent i;
          waiting = waiting i;
          taken = taken i;
          abandoned = does.abandoned i;
          outcomes = outcomes i;
        }

    pub sound-drained : IsSoundBook new
    sound-drained = record {
      lines = rw (does.journal, does.urgent, does.waiting, does.outcomes) (record {
        urgent_requests = urgent-says.pass;
        waiting_requests = waiting-says.pass;
        taken_within = taken-says.0;
        outcomes_within = outcomes-say.pass;
      });
      replayed = drained-stands ∙ rw does.journal (sym leads.stands);
      in_turn = rw does.journal leads.turn;
      head = does.head;
      forgotten = does.forgotten;
      numbered = subst (λ s. IsNumbered new.last s) (sym drained-stands)
          (rw does.last sound.numbered);
      room = record {
        urgent_room = rw (does.queue, does.urgent_room) sound.room.urgent_room;
        queue_room = rw (does.queue, does.queue_room) sound.room.queue_room;
        outcome_room = subst (λ s. outstanding_count s ≤ vec_capacity new.outcomes)
            (sym drained-stands) (rw does.outcome_room sound.room.outcome_room);
        entry_room = subst (λ s. length new.journal.items + entries_owed s
            ≤ new.journal.places) (sym drained-stands) (fewer-fit (length new.journal.items)
            (length old.journal.items) (entries_owed (standing_of old))
            old.journal.places new.journal.places
            (rw does.journal (filter-fewer _ old.journal.items))
            sound.room.entry_room does.places);
        octet_room = subst (λ s. octet_sum new.journal.items + octets_owed s
            ≤ new.journal.octet_places) (sym drained-stands) (fewer-fit
            (octet_sum new.journal.items) (octet_sum old.journal.items)
            (octets_owed (standing_of old)) old.journal.octet_places new.journal.octet_places
            (rw does.journal (filter-less _ old.journal.items))
            sound.room.octet_room does.octet_places);
        within = record {
          entries_within = rw (does.limit, does.places) sound.room.within.entries_within;
          octets_within = rw (does.limit, does.octet_places) sound.room.within.octets_within;
        };
        limit = rw does.limit sound.room.limit;
      };
    }

    -- by the lines it is known which tickets are outstanding
    open-same : (t : Ticket) → is_retained t.0 ≡ is_still_open (standing_of old) doubt t
    open-same t = rw (
      among-values entry_request old.journal.items t old.urgent.items,
      among-values entry_request old.journal.items t old.waiting.items,
      among-values outcome_in old.journal.items t old.outcomes.items,
      taken-own old.journal.items t old.taken,
    ) refl

    entries-same : doubt ≡ in_doubt old.unsure old.journal.items
        → retained_entries is_retained old.journal.items
        ≡ restated_entries old.unsure old.journal.items
    entries-same is = same-filter (λ e. open-same (entry_ticket e)
        ∙ (ap (λ s. is_still_open s doubt (entry_ticket e)) sound.replayed
        ∙ ap (λ d. is_still_open (replay old.journal.items) d (entry_ticket e)) is))
        old.journal.items

    drains-state : doubt ≡ in_doubt old.unsure old.journal.items
        → new.restated ≡ length new.journal.items
        → book_state new ≡ book_after_drain (book_state old)
    drains-state is head =
        let entries : new.journal.items ≡ restated_entries old.unsure old.journal.items =
        does.journal ∙ entries-same is in
        same-state (book_state new) (book_after_drain (book_state old)) entries
        (head ∙ ap (λ es. length es) entries) does.last drained-stands does.unsure does.limit
        does.queue does.serve

  -- so it is of a journal that is kept
  pub drained-state : {new : Inside A} → IsSoundBook new → Drains new
      → doubt ≡ in_doubt old.unsure old.journal.items
      → new.restated ≡ length new.journal.items → IsTrue (has_journal old.limit)
      → whole_state new ≡ book_after_drain (whole_state old)
  drained-state next does is head retained = rw (
    whole-retained sound retained,
    whole-retained next (rw does.limit retained),
  ) (drains-state does is head)

  -- and of another one nothing is seen
  pub forgotten-state : {new : Inside A} → IsSoundBook new → Drains new → Forgets new
      → whole_state new ≡ whole_state old
  forgotten-state {new} next does forgets = same-state (whole_state new) (whole_state old)
      (all-forgotten forgets) forgets.restated does.last (drained-stands does) does.unsure
      does.limit does.queue does.serve
