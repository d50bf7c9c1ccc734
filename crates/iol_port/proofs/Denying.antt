-- What a turn denies: a request that waited, and only where the device has no ISDU.
-- For the clauses of `PortCore::turn`.
use Rattle.std.proofs.Common.{◌≡◌, ◌⊎◌, ◌∷◌, ◌++◌, [], List, Bool, true, false, cond, Option, Some, None, refl, ◌∙◌, inl, inr, arith}
use Rattle.std.proofs.lemmas.Bool.Decides.{nat_tests}
use Rattle.std.proofs.lemmas.Grind.{common_steps}
use Rattle.std.specs.Map.{lookup}
use Rattle.indexmap.specs.IndexMap.{insert_entry}
use Rattle.iol_isdu.specs.declared.values.Request.{Request}
use Rattle.iol_book.specs.declared.entries.Ticket.{Ticket}
use Rattle.iol_book.specs.declared.entries.Outcome.{Outcome}
use Rattle.iol_book.specs.declared.entries.Outcome.TheVariants.{NoIsdu}
use Rattle.iol_book.specs.Replay.{same_ticket}
use Rattle.iol_book.specs.BookModel.{BookState, next_taken, book_after_denial, book_after_post}
use Rattle.iol_app.specs.declared.report.Said.{Said}
use Rattle.iol_app.specs.Abstract.Steps.{Reset, through_steps}
use Rattle.iol_app.specs.Abstract.OfMaster.{steps_for_book}
use Rattle.iol_port.specs.Asks.{lacks_isdu}
use Rattle.iol_port.specs.EveryWire.{book_after_taking, HasNoIsdu, IsDenied}
use Rattle.iol_port.specs.View.{PortParts, Asks}
use Rattle.iol_port.proofs.PairLists.{ticket_is}
use Rattle.iol_port.proofs.Replaying.{next_is}
use Rattle.iol_port.specs.Steps.{book_after}

-- the outcome of a ticket, once one is entered
lookup-entered : (outs : List (Ticket × Outcome)) (t k : Ticket) (o : Outcome)
    → lookup (same_ticket k) (insert_entry same_ticket outs t o)
    ≡ cond (same_ticket k t) (Some o) (lookup (same_ticket k) outs)
lookup-entered [] t k o = refl
lookup-entered (e ∷ es) t k o = grind (arith, common_steps, lookup-entered es t k o)

-- What a turn says enters none

posted_none : (b : BookState) (o : Outcome) (k : Ticket) → (o ≡ NoIsdu → ⊥)
    → HasNoIsdu (book_after_post b o) k → HasNoIsdu b k
posted_none b o k differs premise = grind (arith, common_steps, lookup-entered)

report_none : (report : Said) (b : BookState) (k : Ticket)
    → HasNoIsdu (through_steps book_after (steps_for_book report) b) k → HasNoIsdu b k
report_none report b k premise = grind (arith, common_steps, posted_none)

module _ (old next : PortParts) (mid : BookState) (reset : Bool) (report : Said)
    (asks : Asks report mid.standing.taken)
    (book : next.book.state ≡ through_steps book_after
    (cond reset (Reset ∷ []) [] ++ steps_for_book report) mid)
    (k : Ticket) (has : HasNoIsdu next.book.state k) where
  abbrev b : BookState
  b = old.book.state

  mid_has : HasNoIsdu mid k
  mid_has = let now = rw book at has in grind (arith, common_steps, report_none)

  -- where this turn denied one, it is that of the ticket, or another
  denied_one : (t : Ticket) (q : Request) → next_taken b ≡ Some (t, q)
      → old.core.session.isdu ≡ Some false → reset ≡ false → mid ≡ book_after_denial b t
      → HasNoIsdu b k ⊎ IsDenied old next k
  denied_one t q head isdu_is asleep is = by (same_ticket t k) refl
    where
      by : (c : Bool) → same_ticket t k ≡ c → HasNoIsdu b k ⊎ IsDenied old next k
      by true e =
          let first = next_is b t q head in
          let none : mid.standing.taken ≡ None = rw is first.free in
          let quiet : through_steps book_after (cond reset (Reset ∷ []) [] ++ steps_for_book report)
          mid ≡ mid =
          let asks_none = rw none at asks in rw asleep (grind (arith, common_steps)) in
          inr (rw (ticket_is t k e) (record {
            isdu_is = isdu_is;
            waited = first.waits;
            free = first.free;
            book = book ∙ quiet ∙ is;
          }))
      by false e =
          let apart : same_ticket k t ≡ false = grind (arith, nat_tests) in
          inl (rw (lookup-entered b.standing.outcomes t k NoIsdu, apart) at (rw is at mid_has))

  pub turn_denies : (ready : Bool)
      → mid ≡ book_after_taking ready (lacks_isdu old.core.session.isdu)
      (next_taken b) b
      → (ready ≡ true → reset ≡ false) → HasNoIsdu b k ⊎ IsDenied old next k
  turn_denies ready mid_is asleep =
      by (next_taken b) ready (lacks_isdu old.core.session.isdu) refl refl refl mid_is
    where
      by : (head : Option (Ticket × Request)) (r lacks : Bool) → next_taken b ≡ head
          → ready ≡ r → lacks_isdu old.core.session.isdu ≡ lacks
          → mid ≡ book_after_taking r lacks head b → HasNoIsdu b k ⊎ IsDenied old next k
      by (Some (t, q)) true true head is_ready isdu_is is =
          denied_one t q head (grind arith) (asleep is_ready) is
      by _ _ _ head is_ready isdu_is is = inl (rw is at mid_has)
