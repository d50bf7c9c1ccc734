-- What callers see of a book's fields, and what holds of them.
use Rattle.std.specs.Prelude.{◌≡◌, ℕ, ◌+◌, ◌-◌, ◌/◌, ◌≤◌, ◌++◌, List, [], min, length, drop, IsTrue, IsFalse}
use Rattle.std.specs.Vec.{vec_capacity}
use Rattle.std.specs.VecDeque.{deque_capacity}
use Rattle.iol_book.specs.declared.entries.Entry.{Entry}
use Rattle.iol_book.specs.Replay.{Standing, nothing, replay}
use Rattle.iol_book.specs.JournalModel.{octet_sum, IsWithin}
use Rattle.iol_book.specs.Lines.{AreLines, standing_at}
use Rattle.iol_book.specs.BookModel.{BookState, BookMemory, BookValue, IsReplayed, outstanding_count, entries_owed, octets_owed}
use Rattle.iol_book.specs.Drained.{AreInTurn}
use Rattle.iol_book.specs.Limits.{request_entries, most_per_request, most_entries, has_journal, entries_in_memory}
use Rattle.iol_book.specs.Numbers.{IsNumbered}
use Rattle.iol_book.specs.declared.book.Book.TheInside.{Inside}

-- where the entries of a journal are
pub record JournalParts : Type 0 where
  -- those that are in no memory any more
  pub forgotten : List Entry
  -- those in memory, of which so many at their beginning are among the forgotten, too
  pub in_memory : List Entry
  pub overlap : ℕ
  -- how many were handed out
  pub restated : ℕ
  -- the most that there may be, where the journal is kept
  pub limit : ℕ

-- all entries: those that are forgotten, and those in memory that aren't among them
abbrev pub all_entries : JournalParts → List Entry
all_entries parts = parts.forgotten ++ drop parts.overlap parts.in_memory

-- what is forgotten of a journal
-- BOOK-16
pub record IsForgotten (parts : JournalParts) : Type 0 where
  -- what is in memory of it too is there
  pub overlap : parts.overlap ≤ length parts.in_memory
  -- the entries in memory say what all of them say
  pub stands : replay (all_entries parts) ≡ replay parts.in_memory
  -- of a journal that is kept nothing is
  pub retained : IsTrue (has_journal parts.limit) → (parts.forgotten ≡ []) × (parts.overlap ≡ 0)
  -- and of another one nothing was ever handed out
  pub unretained : IsFalse (has_journal parts.limit) → parts.restated ≡ 0

module _ {A : Type 0} where
  -- what the queues, the request that is taken and the list of outcomes hold
  abbrev pub standing_of : Inside A → Standing
  standing_of fields = standing_at fields.journal.items fields.urgent.items fields.waiting.items
      fields.taken fields.abandoned fields.outcomes.items

  -- the book by the entries in memory, without that memory
  abbrev pub book_state : Inside A → BookState
  book_state fields = record {
    journal = fields.journal.items;
    restated = fields.restated;
    last = fields.last;
    standing = standing_of fields;
    unsure = fields.unsure;
    limit = fields.limit;
    queue = fields.queue;
    serve = fields.serve;
  }

  -- where its entries are
  abbrev pub journal_parts : Inside A → JournalParts
  journal_parts fields = record {
    forgotten = fields.forgotten.entries;
    in_memory = fields.journal.items;
    overlap = fields.overlap;
    restated = fields.restated;
    limit = fields.limit;
  }

  -- the book by all of them
  abbrev pub whole_state : Inside A → BookState
  whole_state fields = record (book_state fields) { journal = all_entries (journal_parts fields) }

  -- for how many submits the places for outcomes and for entries are there already
  abbrev pub room_of : Inside A → ℕ
  room_of fields = min (vec_capacity fields.outcomes - outstanding_count (standing_of fields))
      (min ((fields.journal.places
      - (length fields.journal.items + entries_owed (standing_of fields))) / request_entries)
      ((fields.journal.octet_places - (octet_sum fields.journal.items
      + octets_owed (standing_of fields))) / most_per_request))

  -- how much its journal and its queues hold without a growth
  abbrev pub memory_of : Inside A → BookMemory
  memory_of fields = record {
    entries = fields.journal.places;
    octets = fields.journal.octet_places;
    urgent = deque_capacity fields.urgent;
    others = deque_capacity fields.waiting;
  }

  -- a book as callers see it
  abbrev pub book_view : Inside A → BookValue
  book_view fields = record {
    state = whole_state fields;
    room = room_of fields;
    memory = memory_of fields;
  }

  -- what it has room for already, so that no call but a submit takes memory
  pub record HasRoom (fields : Inside A) : Type 0 where
    -- each of the two queues has room for as many requests as may be outstanding
    pub urgent_room : fields.queue ≤ deque_capacity fields.urgent
    pub queue_room : fields.queue ≤ deque_capacity fields.waiting
    -- each outstanding ticket has a place for its outcome
    pub outcome_room : outstanding_count (standing_of fields) ≤ vec_capacity fields.outcomes
    -- each outstanding ticket has places for the entries that it will still get
    pub entry_room : length fields.journal.items + entries_owed (standing_of fields)
        ≤ fields.journal.places
    -- each that has no outcome yet has places for the octets of its answer
    pub octet_room : octet_sum fields.journal.items + octets_owed (standing_of fields)
        ≤ fields.journal.octet_places
    -- and there is memory for no more than the limit
    pub within : IsWithin (entries_in_memory fields.limit) fields.journal
    -- which is a million entries at most
    pub limit : fields.limit ≤ most_entries

  -- what holds of the fields of every book
  pub record IsSoundBook (fields : Inside A) : Type 0 where
    -- each line that is kept is in the journal
    pub lines : AreLines fields.journal.items fields.urgent.items fields.waiting.items fields.taken
        fields.outcomes.items
    -- the journal alone says where every ticket stands
    pub replayed : IsReplayed (book_state fields)
    -- and each entry came where it may
    pub in_turn : AreInTurn nothing fields.journal.items
    -- what was restated is there
    pub head : fields.restated ≤ length fields.journal.items
    -- each ticket names one request
    pub numbered : IsNumbered fields.last (standing_of fields)
    -- what is forgotten is known by what is in memory
    pub forgotten : IsForgotten (journal_parts fields)
    pub room : HasRoom fields
