-- What a drain leaves of a journal: the entries of the tickets that are outstanding or in doubt.
use Rattle.std.specs.Prelude.{◌≡◌, Bool, true, false, ◌||◌, List, [], ◌∷◌, Option, None, Some, filter, length, if◌then◌else◌, ⊤, IsTrue}
use Rattle.std.specs.Option.{option_map_or}
use Rattle.iol_book.specs.declared.entries.Ticket.{Ticket}
use Rattle.iol_book.specs.declared.entries.Entry.{Entry}
use Rattle.iol_book.specs.declared.entries.Entry.TheVariants.{Taken, Answered}
use Rattle.iol_book.specs.Lines.{entry_ticket}
use Rattle.iol_book.specs.Replay.{Standing, same_ticket, is_taken, standing_after, replay}
use Rattle.iol_book.specs.JournalModel.{JournalValue, LacksPlaces}
use Rattle.iol_book.specs.Limits.{has_journal}
use Rattle.iol_book.specs.BookModel.{BookState, waits, has_outcome}

-- the ticket that was taken last, of these entries or else before them
abbrev pub last_taken : Option Ticket → List Entry → Option Ticket
last_taken before [] = before
last_taken before (Taken ticket ∷ entries) = last_taken (Some ticket) entries
last_taken before (entry ∷ entries) = last_taken before entries

-- The ticket in doubt: while the device may still carry out a request that was cut off, it is the
-- one that was taken last
abbrev pub in_doubt : Bool → List Entry → Option Ticket
in_doubt unsure entries = if unsure then last_taken None entries else None

-- whether a ticket is outstanding or in doubt
abbrev pub is_still_open : Standing → Option Ticket → Ticket → Bool
is_still_open standing doubt ticket = waits standing ticket || (is_taken standing ticket
    || (has_outcome standing ticket || option_map_or (same_ticket ticket) doubt false))

-- the entries of such tickets, in their order
abbrev pub restated_entries : Bool → List Entry → List Entry
restated_entries unsure entries =
    filter (λ entry. is_still_open (replay entries) (in_doubt unsure entries) (entry_ticket entry))
    entries

-- the book after a drain: its journal begins with what is restated
-- BOOK-13
abbrev pub book_after_drain : BookState → BookState
book_after_drain book = record book {
  journal = restated_entries book.unsure book.journal;
  restated = length (restated_entries book.unsure book.journal);
}

-- a journal that is kept doesn't fit into the list that should take it
abbrev pub LacksRoomFor : BookState → JournalValue → Type 0
LacksRoomFor book list = IsTrue (has_journal book.limit) → LacksPlaces list book.journal

-- One is taken while none is. An outcome is that of the one that is taken, or comes while none is
abbrev pub IsInTurn : Standing → Entry → Type 0
IsInTurn standing (Taken ticket) = standing.taken ≡ None
IsInTurn standing (Answered ticket outcome) =
    option_map_or (λ taken. same_ticket ticket taken.0) standing.taken true ≡ true
IsInTurn standing entry = ⊤

-- each entry comes where it may
abbrev pub AreInTurn : Standing → List Entry → Type 0
AreInTurn standing [] = ⊤
AreInTurn standing (entry ∷ entries) =
    IsInTurn standing entry × AreInTurn (standing_after standing entry) entries
