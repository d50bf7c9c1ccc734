-- Journals that drains handed out are one: the law `drains_join`.
-- For the clauses of `laws::drains_join`.
use Rattle.std.proofs.Common.{◌≡◌, ◌≤◌, Bool, true, false, cond, refl, List, [], ◌∷◌, ◌++◌, length, drop, Option, Some, None, is_some, ◌||◌}
use Rattle.std.specs.Prelude.{is_ok}
use Rattle.std.proofs.lemmas.List.{append-nil}
use Rattle.std.proofs.Math.Seq.{drop-length}
use Rattle.iol_isdu.specs.declared.values.Request.{Request}
use Rattle.iol_book.specs.declared.entries.Ticket.{Ticket}
use Rattle.iol_book.specs.declared.entries.Outcome.{Outcome}
use Rattle.iol_book.specs.declared.entries.Outcome.TheVariants.{NoIsdu}
use Rattle.iol_book.specs.declared.entries.Entry.{Entry}
use Rattle.iol_book.specs.declared.entries.Entry.TheVariants.{Submitted, Urgent, Taken, Answered, Withdrawn as WithdrawnEntry, Collected, Abandoned}
use Rattle.iol_book.specs.BookModel.{BookState, book_with_entry, next_ticket, ended_with, leaves_unsure, book_after_collect, book_after_post, book_after_withdrawal, book_after_abandon, collect_answer, withdraw_refusal, abandon_refusal}
use Rattle.iol_book.specs.Drained.{restated_entries}
use Rattle.iol_book.proofs.LineLemmas.{entered}
use Rattle.iol_book.specs.OneJournal.{entries_since, whole_book, JoinsInto, DrainsJoin}

module _ (earlier : List Entry) (book : BookState)
    (head : book.restated ≤ length book.journal) where
  -- one more entry
  one-more : (entry : Entry) → earlier ++ drop book.restated (book.journal ++ entry ∷ [])
      ≡ (earlier ++ entries_since book) ++ entry ∷ []
  one-more entry = entered earlier book.restated book.journal entry head

  posted : (outcome : Outcome) → whole_book earlier (book_after_post book outcome)
      ≡ book_after_post (whole_book earlier book) outcome
  posted outcome = by book.standing.taken
    where
      by : (taken : Option (Ticket × Request)) → whole_book earlier
          (record (ended_with book taken outcome) {
            unsure = book.unsure || leaves_unsure outcome;
          }) ≡ record (ended_with (whole_book earlier book) taken outcome) {
            unsure = book.unsure || leaves_unsure outcome;
          }
      by None = refl
      by (Some taken) = rw (one-more (Answered taken.0 outcome)) refl

  collected : (ticket : Ticket) → whole_book earlier (book_after_collect book ticket)
      ≡ book_after_collect (whole_book earlier book) ticket
  collected ticket = by (is_ok (collect_answer book.standing ticket))
    where
      by : (b : Bool)
          → whole_book earlier (cond b (book_with_entry book (Collected ticket)) book)
          ≡ cond b (book_with_entry (whole_book earlier book) (Collected ticket))
          (whole_book earlier book)
      by true = rw (one-more (Collected ticket)) refl
      by false = refl

  withdrawn : (ticket : Ticket) → whole_book earlier (book_after_withdrawal book ticket)
      ≡ book_after_withdrawal (whole_book earlier book) ticket
  withdrawn ticket = by (is_some (withdraw_refusal book.standing ticket))
    where
      by : (b : Bool)
          → whole_book earlier (cond b book (book_with_entry book (WithdrawnEntry ticket)))
          ≡ cond b (whole_book earlier book)
          (book_with_entry (whole_book earlier book) (WithdrawnEntry ticket))
      by true = refl
      by false = rw (one-more (WithdrawnEntry ticket)) refl

  abandoned : (ticket : Ticket) → whole_book earlier (book_after_abandon book ticket)
      ≡ book_after_abandon (whole_book earlier book) ticket
  abandoned ticket = by (is_some (abandon_refusal book.standing ticket))
    where
      by : (b : Bool) → whole_book earlier (cond b book (book_with_entry book (Abandoned ticket)))
          ≡ cond b (whole_book earlier book)
          (book_with_entry (whole_book earlier book) (Abandoned ticket))
      by true = refl
      by false = rw (one-more (Abandoned ticket)) refl

  joins : JoinsInto earlier book
  joins = record {
    drain = rw (
      drop-length (restated_entries book.unsure book.journal),
      append-nil (earlier ++ entries_since book),
    ) refl;
    submit = λ request. rw (one-more (Submitted (next_ticket book) request)) refl;
    urgent = λ request. rw (one-more (Urgent (next_ticket book) request)) refl;
    take = λ taken. rw (one-more (Taken taken.0)) refl;
    denial = λ ticket. rw (one-more (Answered ticket NoIsdu)) refl;
    post = posted;
    collect = collected;
    withdrawal = withdrawn;
    abandon = abandoned;
    serve = λ which. refl;
    reset = refl;
  }

pub drains_join : DrainsJoin
drains_join earlier book head = joins earlier book head
