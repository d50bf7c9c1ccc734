-- The journal, and the one that it makes with what drains handed out before: what one more entry
-- does to both, and what a drain leaves.
-- For the clauses of `laws::denied_requests_stay_out`, `laws::each_done_has_its_pair`,
--     `laws::late_requests_end` and 10 more.
use Rattle.std.proofs.Common.{◌≡◌, Bool, true, false, List, [], ◌∷◌, ◌++◌, Option, None, Some, ◌||◌, cond, drop, length, refl, ap, sym, ◌∙◌, arith, filter}
use Rattle.std.proofs.lemmas.List.{append_assoc, append-nil, drop-append-le, length-append}
use Rattle.std.proofs.Math.Seq.{drop-length}
use Rattle.std.proofs.lemmas.Grind.{common_steps}
use Rattle.iol_isdu.specs.declared.values.Request.{Request}
use Rattle.iol_book.specs.declared.entries.Ticket.{Ticket}
use Rattle.iol_book.specs.declared.entries.Outcome.{Outcome}
use Rattle.iol_book.specs.declared.entries.Outcome.TheVariants.{NoIsdu}
use Rattle.iol_book.specs.declared.entries.Entry.{Entry}
use Rattle.iol_book.specs.declared.entries.Entry.TheVariants.{Taken, Answered}
use Rattle.iol_book.specs.Lines.{entry_ticket}
use Rattle.iol_book.specs.Replay.{Standing, nothing, standing_after, replay, replay_from}
use Rattle.iol_book.specs.BookModel.{BookState, IsReplayed, book_after_take, book_after_denial, book_after_post, ended_with, leaves_unsure, next_taken}
use Rattle.iol_book.specs.Takings.{Taking, taking_of, taking_with_outcome, first_with, takings, takings_after, takings_from}
use Rattle.iol_book.specs.Drained.{last_taken, restated_entries, book_after_drain}
use Rattle.iol_book.specs.OneJournal.{entries_since}
use Rattle.iol_port.specs.Sound.{SaysWhere}
use Rattle.iol_port.proofs.Replaying.{LeavesWaiting, replay_from-push, next_is, took_replayed, denied_replayed, posted_replayed}

takings_from-push : (s : Standing) (ts : List Taking) (es : List Entry) (e : Entry)
    → takings_from s ts (es ++ e ∷ []) ≡ takings_after (replay_from s es) e (takings_from s ts es)
takings_from-push s ts [] e = refl
takings_from-push s ts (x ∷ es) e =
    takings_from-push (standing_after s x) (takings_after s x ts) es e

-- One more entry, and the standing is the replay of the journal with it

module _ {drained : List Entry} {b : BookState} (next : BookState) (e : Entry)
    (is : next.journal ≡ b.journal ++ e ∷ []) (unchanged : next.restated ≡ b.restated)
    (replayed : IsReplayed next) (says : SaysWhere drained b) where
  whole_grows : drained ++ entries_since next ≡ (drained ++ entries_since b) ++ e ∷ []
  whole_grows = rw (is, unchanged, drop-append-le b.restated b.journal (e ∷ []) says.head)
      (sym (append_assoc drained (entries_since b) (e ∷ [])))

  stands : next.standing ≡ standing_after b.standing e
  stands = replayed ∙ (ap replay is ∙ (replay_from-push nothing b.journal e
      ∙ ap (λ s. standing_after s e) (sym says.replayed)))

  pub grown_says : SaysWhere drained next
  grown_says = record {
    replayed = replayed;
    whole = stands ∙ (ap (λ s. standing_after s e) says.whole
        ∙ sym (ap replay whole_grows ∙ replay_from-push nothing (drained ++ entries_since b) e));
    head = rw (is, unchanged) (omega (arith, length-append b.journal (e ∷ []), says.head));
  }

  pub grown_takings : takings (drained ++ entries_since next)
      ≡ takings_after b.standing e (takings (drained ++ entries_since b))
  grown_takings = rw says.whole (ap takings whole_grows
      ∙ takings_from-push nothing [] (drained ++ entries_since b) e)

-- One that is taken, denied or ended

module _ {drained : List Entry} (b : BookState) (says : SaysWhere drained b) where
  module _ (t : Ticket) (q : Request) (next : next_taken b ≡ Some (t, q)) where
    pub took_says : SaysWhere drained (book_after_take b (t, q))
    took_says = grown_says (book_after_take b (t, q)) (Taken t) refl refl
        (took_replayed b t q next says.replayed) says

    pub took_takings : takings (drained ++ entries_since (book_after_take b (t, q)))
        ≡ taking_of t q ∷ takings (drained ++ entries_since b)
    took_takings = rw (next_is b t q next).found at (grown_takings
        (book_after_take b (t, q)) (Taken t) refl refl (took_replayed b t q next says.replayed)
        says)

    pub denied_says : SaysWhere drained (book_after_denial b t)
    denied_says =
        grown_says (book_after_denial b t) (Answered t NoIsdu) refl refl
        (denied_replayed b t q next says.replayed) says

    pub denied_takings : takings (drained ++ entries_since (book_after_denial b t))
        ≡ takings (drained ++ entries_since b)
    denied_takings = rw (next_is b t q next).free at (grown_takings (book_after_denial b t)
        (Answered t NoIsdu) refl refl (denied_replayed b t q next says.replayed) says)

  module _ (p : Ticket × Request) (o : Outcome) (leaves : LeavesWaiting o)
      (taken : b.standing.taken ≡ Some p) where
    abbrev ended : BookState
    ended = record (ended_with b (Some p) o) { unsure = b.unsure || leaves_unsure o }

    ended_replayed : IsReplayed ended
    ended_replayed = rw taken at (posted_replayed b o leaves says.replayed)

    pub posted_says : SaysWhere drained (book_after_post b o)
    posted_says = rw taken (grown_says ended (Answered p.0 o) refl refl ended_replayed says)

    pub posted_takings : takings (drained ++ entries_since (book_after_post b o))
        ≡ first_with (taking_with_outcome o) (takings (drained ++ entries_since b))
    posted_takings = rw taken
        (rw taken at (grown_takings ended (Answered p.0 o) refl refl ended_replayed says))

-- Which ticket was taken last

pub last_pushed : (before : Option Ticket) (es : List Entry) (e : Entry)
    → last_taken before (es ++ e ∷ []) ≡ last_taken (last_taken before es) (e ∷ [])
last_pushed before [] e = refl
last_pushed before (Taken t ∷ es) e = last_pushed (Some t) es e
last_pushed before (_ ∷ es) e = last_pushed before es e

pub posted_last : (b : BookState) (p : Ticket × Request) (o : Outcome) → b.standing.taken ≡ Some p
    → last_taken None (book_after_post b o).journal ≡ last_taken None b.journal
posted_last b p o taken = rw taken (last_pushed None b.journal (Answered p.0 o))

-- it is that of the entries that stay, if its own stay
pub last_stays : (is_open : Ticket → Bool) (t : Ticket) → is_open t ≡ true
    → (before other : Option Ticket) (es : List Entry) → last_taken before es ≡ Some t
    → (before ≡ Some t → other ≡ Some t)
    → last_taken other (filter (λ e. is_open (entry_ticket e)) es) ≡ Some t
last_stays is_open t is before other [] last same = same last
last_stays is_open t is before other (Taken u ∷ es) last same =
    by (last_stays is_open t is (Some u) (Some u) es last (λ e. e))
    (λ closed. last_stays is_open t is (Some u) other es last
    (λ e. absurd (grind (arith, common_steps, closed, e)))) (is_open u) refl
  where
    by : last_taken (Some u) (filter (λ e. is_open (entry_ticket e)) es) ≡ Some t
        → (is_open u ≡ false
        → last_taken other (filter (λ e. is_open (entry_ticket e)) es) ≡ Some t)
        → (b : Bool) → is_open u ≡ b
        → last_taken other (cond b (Taken u ∷ filter (λ e. is_open (entry_ticket e)) es)
        (filter (λ e. is_open (entry_ticket e)) es)) ≡ Some t
    by stays leaves true _ = stays
    by stays leaves false closed = leaves closed
last_stays is_open t is before other (_ ∷ es) last same =
    grind (arith, common_steps, last_stays is_open t is before other es last same)

-- A drain

pub drained_whole : (drained : List Entry) (b : BookState)
    → (drained ++ entries_since b) ++ entries_since (book_after_drain b)
    ≡ drained ++ entries_since b
drained_whole drained b = rw (
  drop-length (restated_entries b.unsure b.journal),
  append-nil (drained ++ entries_since b),
) refl

pub drained_says : (drained : List Entry) (b : BookState) → IsReplayed (book_after_drain b)
    → SaysWhere drained b → SaysWhere (drained ++ entries_since b) (book_after_drain b)
drained_says drained b replayed says = record {
  replayed = replayed;
  whole = says.whole ∙ ap replay (sym (drained_whole drained b));
  head = omega arith;
}
