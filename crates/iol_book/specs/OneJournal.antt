-- Journals that drains handed out are one journal, joined without what each begins with.
use Rattle.std.specs.Prelude.{◌≡◌, ◌≤◌, List, ◌++◌, length, drop}
use Rattle.iol_isdu.specs.declared.values.Request.{Request}
use Rattle.iol_book.specs.declared.entries.Ticket.{Ticket}
use Rattle.iol_book.specs.declared.entries.Serve.{Serve}
use Rattle.iol_book.specs.declared.entries.Outcome.{Outcome}
use Rattle.iol_book.specs.declared.entries.Entry.{Entry}
use Rattle.iol_book.specs.BookModel.{BookState, book_after_submit, book_after_urgent, book_after_take, book_after_denial, book_after_post, book_after_collect, book_after_withdrawal, book_after_abandon, book_after_serve, book_after_wake}
use Rattle.iol_book.specs.Drained.{book_after_drain}

-- the entries that no drain handed out
abbrev pub entries_since : BookState → List Entry
entries_since book = drop book.restated book.journal

-- the book that there would be without drains, of which those before handed these entries out
abbrev pub whole_book : List Entry → BookState → BookState
whole_book earlier book =
    record book { journal = earlier ++ entries_since book; restated = 0 }

-- A drain leaves that book as it is, and what any other call does to the book it does to that one
pub record JoinsInto (earlier : List Entry) (book : BookState) : Type 0 where
  pub drain : whole_book (earlier ++ entries_since book) (book_after_drain book)
      ≡ whole_book earlier book
  pub submit : (request : Request) → whole_book earlier (book_after_submit book request)
      ≡ book_after_submit (whole_book earlier book) request
  pub urgent : (request : Request) → whole_book earlier (book_after_urgent book request)
      ≡ book_after_urgent (whole_book earlier book) request
  pub take : (taken : Ticket × Request) → whole_book earlier (book_after_take book taken)
      ≡ book_after_take (whole_book earlier book) taken
  pub denial : (ticket : Ticket) → whole_book earlier (book_after_denial book ticket)
      ≡ book_after_denial (whole_book earlier book) ticket
  pub post : (outcome : Outcome) → whole_book earlier (book_after_post book outcome)
      ≡ book_after_post (whole_book earlier book) outcome
  pub collect : (ticket : Ticket) → whole_book earlier (book_after_collect book ticket)
      ≡ book_after_collect (whole_book earlier book) ticket
  pub withdrawal : (ticket : Ticket) → whole_book earlier (book_after_withdrawal book ticket)
      ≡ book_after_withdrawal (whole_book earlier book) ticket
  pub abandon : (ticket : Ticket) → whole_book earlier (book_after_abandon book ticket)
      ≡ book_after_abandon (whole_book earlier book) ticket
  pub serve : (which : Serve) → whole_book earlier (book_after_serve book which)
      ≡ book_after_serve (whole_book earlier book) which
  pub reset : whole_book earlier (book_after_wake book)
      ≡ book_after_wake (whole_book earlier book)

-- so it is of any entries that were handed out before, and any book whose journal has what was
-- restated
-- BOOK-13
abbrev pub DrainsJoin : Type 0
DrainsJoin = (earlier : List Entry) (book : BookState) → book.restated ≤ length book.journal
    → JoinsInto earlier book
