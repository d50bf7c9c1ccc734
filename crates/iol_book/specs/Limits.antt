-- In which ranges a book is opened.
use Rattle.std.specs.Prelude.{ℕ, Bool, ◌≤◌, nat_lt, IsTrue, if◌then◌else◌}

-- the most entries of one request: submitted, taken, answered and collected
-- BOOK-3
abbrev pub request_entries : ℕ
request_entries = 4

-- the octets of one parameter, at most
abbrev pub most_data : ℕ
most_data = 232

-- the octets of one request and of its answer, at most
abbrev pub most_per_request : ℕ
most_per_request = 464

-- the most entries that a journal may ever have
abbrev pub most_entries : ℕ
most_entries = 1000000

-- whether a journal with this limit is kept; with the limit 0 none is
abbrev pub has_journal : ℕ → Bool
has_journal limit = nat_lt 0 limit

-- the most entries of a book's journal: room for one request at least, where one is kept
-- BOOK-11
abbrev pub IsJournalLimit : ℕ → Type 0
IsJournalLimit entries = (IsTrue (has_journal entries) → request_entries ≤ entries)
    × (entries ≤ most_entries)

-- for how many entries there may be memory
abbrev pub entries_in_memory : ℕ → ℕ
entries_in_memory limit = if has_journal limit then limit else most_entries

-- the busy reply at which a request is cut off: never the first
-- BOOK-11
abbrev pub IsBusyLimit : ℕ → Type 0
IsBusyLimit replies = (2 ≤ replies) × (replies ≤ 65535)

-- how many tickets may be outstanding: 1 to 64, so that each port takes requests, and its two
-- queues are short
-- BOOK-11
abbrev pub IsQueueLimit : ℕ → Type 0
IsQueueLimit places = (1 ≤ places) × (places ≤ 64)
