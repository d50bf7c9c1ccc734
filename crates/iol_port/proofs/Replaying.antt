-- each change of a book keeps it the replay of its journal
-- For the clauses of `PortCore::turn`, `laws::denied_requests_stay_out`,
--     `laws::each_done_has_its_pair` and 11 more.
use Rattle.std.proofs.Common.{◌≡◌, Bool, true, List, [], ◌∷◌, ◌++◌, Option, None, Some, cond, is_some, refl, sym, ap, ◌∙◌, arith, ◌||◌, ◌⊎◌, inl, inr}
use Rattle.std.proofs.lemmas.Bool.{eq-eqb}
use Rattle.std.proofs.lemmas.Grind.{common_steps}
use Rattle.std.specs.Prelude.{IsTrue, false, slice_get}
use Rattle.std.specs.Option.{option_map}
use Rattle.iol_isdu.specs.declared.values.Request.{Request}
use Rattle.iol_isdu.specs.declared.values.Answer.{Answer}
use Rattle.iol_book.specs.declared.entries.Ticket.{Ticket}
use Rattle.iol_book.specs.declared.entries.Outcome.{Outcome}
use Rattle.iol_book.specs.declared.entries.Outcome.TheVariants.{NoIsdu}
use Rattle.iol_book.specs.declared.entries.Entry.{Entry}
use Rattle.iol_book.specs.declared.entries.Entry.TheVariants.{Submitted, Urgent, Taken, Answered, Withdrawn, Collected, Abandoned}
use Rattle.iol_book.specs.Replay.{Standing, nothing, request_waiting, is_taken, waiting_after, standing_after, replay_from}
use Rattle.iol_book.specs.BookModel.{BookState, IsReplayed, book_with_entry, leaves_unsure, book_after_take, book_after_denial, ended_with, book_after_post, is_served, served_waiting, next_taken, may_archive, waits}
use Rattle.iol_book.proofs.LineLemmas.{find-first, found-waits}
use Rattle.iol_app.specs.Abstract.Steps.{PortStep, Moment, Terms, may_misread, through_steps, MayAll}
use Rattle.iol_app.specs.Abstract.Session.{Session, MayAnswer, MaySession, session_after}
use Rattle.iol_port.specs.Owners.{Owners, owners_after, IsReportedAs}
use Rattle.iol_port.specs.Steps.{MayBook, book_after}

pub replay_from-push : (s : Standing) (entries : List Entry) (entry : Entry)
    → replay_from s (entries ++ entry ∷ []) ≡ standing_after (replay_from s entries) entry
replay_from-push s [] entry = refl
replay_from-push s (e ∷ entries) entry = replay_from-push (standing_after s e) entries entry

pub entered_replayed : (book : BookState) (entry : Entry) → IsReplayed book
    → IsReplayed (book_with_entry book entry)
entered_replayed book entry h = rw replay_from-push (ap (λ s. standing_after s entry) h)

-- where one is taken next, none is taken, and it is the one that waits under its ticket
pub record IsNext (s : Standing) (t : Ticket) (q : Request) : Type 0 where
  pub free : s.taken ≡ None
  pub found : request_waiting s t ≡ Some q
  pub waits : waits s t ≡ true

pub next_is : (b : BookState) (t : Ticket) (q : Request) → next_taken b ≡ Some (t, q)
    → IsNext b.standing t q
next_is b t q h = by b.standing.taken refl h
  where
    by : (taken : Option (Ticket × Request)) → b.standing.taken ≡ taken
        → cond (is_some taken) None (slice_get (served_waiting b) 0) ≡ Some (t, q)
        → IsNext b.standing t q
    by None free found =
        let is = found-waits b.serve b.standing.urgent b.standing.waiting (t, q) (find-first
        (λ p. is_served b.serve p.0) (b.standing.urgent ++ b.standing.waiting) ∙ found) in
        record { free = free; found = sym is.request; waits = is.among }
    by (Some p) free found = absurd (cc)

pub took_replayed : (book : BookState) (t : Ticket) (q : Request)
    → next_taken book ≡ Some (t, q) → IsReplayed book → IsReplayed (book_after_take book (t, q))
took_replayed book t q next h =
    rw (next_is book t q next).found at (entered_replayed book (Taken t) h)

-- of an outcome that isn't NoIsdu: those that wait stay
abbrev pub LeavesWaiting : Outcome → Type 0
LeavesWaiting o = (t : Ticket) (s : Standing) → waiting_after t o s ≡ s

pub posted_replayed : (book : BookState) (o : Outcome) → LeavesWaiting o → IsReplayed book
    → IsReplayed (book_after_post book o)
posted_replayed book o leaves h = by_taken book.standing.taken refl
  where
    by_taken : (taken : Option (Ticket × Request)) → book.standing.taken ≡ taken
        → IsReplayed (record (ended_with book taken o) { unsure = book.unsure || leaves_unsure o })
    by_taken None held = h
    by_taken (Some t) held =
        let own : is_taken book.standing t.0 ≡ true = rw (held, eq-eqb t.0.0 t.0.0 refl) refl in
        rw (leaves t.0 book.standing, own) at (entered_replayed book (Answered t.0 o) h)

-- the ticket that is next is that of a request
pub next_ticket_is : (next : Option (Ticket × Request)) (t : Ticket)
    → option_map (λ p. p.0) next ≡ Some t → (q : Request) × (next ≡ Some (t, q))
next_ticket_is None t h = absurd (cc)
next_ticket_is (Some p) t h = (p.1, grind (arith, common_steps))

-- a denied request was the next one
pub denied_replayed : (book : BookState) (t : Ticket) (q : Request)
    → next_taken book ≡ Some (t, q) → IsReplayed book → IsReplayed (book_after_denial book t)
denied_replayed book t q next h =
    let is = next_is book t q next in
    rw is.free (rw is.free at (entered_replayed book (Answered t NoIsdu) h))

-- where none is taken none was abandoned
step_free : (s : Standing) (entry : Entry) → (s.taken ≡ None → s.abandoned ≡ false)
    → (standing_after s entry).taken ≡ None → (standing_after s entry).abandoned ≡ false
step_free s (Taken t) free none = refl
step_free s (Answered t o) free none = refl
step_free s (Abandoned t) free none = rw (free none, none) refl
step_free s (Submitted t q) free none = free none
step_free s (Urgent t q) free none = free none
step_free s (Withdrawn t) free none = free none
step_free s (Collected t) free none = free none

replay_free : (s : Standing) (entries : List Entry) → (s.taken ≡ None → s.abandoned ≡ false)
    → (replay_from s entries).taken ≡ None → (replay_from s entries).abandoned ≡ false
replay_free s [] free none = free none
replay_free s (e ∷ entries) free none =
    replay_free (standing_after s e) entries (step_free s e free) none

unabandoned : (book : BookState) → IsReplayed book → book.standing.taken ≡ None
    → book.standing.abandoned ≡ false
unabandoned book h none = ap (λ s. s.abandoned) h
    ∙ replay_free nothing book.journal (λ _. refl) (sym (ap (λ s. s.taken) h) ∙ none)

-- nothing is outstanding in a book that may be archived, and it is sure
pub free_archive : (book : BookState) → IsReplayed book → may_archive book ≡ true
    → (book.standing ≡ nothing) × (book.unsure ≡ false)
free_archive book h may = grind (arith, common_steps, unabandoned book h)

reported_as : (misreads : Bool) (reported a : Answer) → IsTrue misreads ⊎ (a ≡ reported)
    → IsReportedAs misreads reported a
reported_as misreads reported a may = grind (arith, common_steps)

-- an answer that may be told: the device gave one, for which it may be told
pub reported_for : (terms : Terms) (reported : Answer) (carried : Option Answer)
    → MayAnswer terms reported carried
    → (a : Answer) × (carried ≡ Some a) × IsReportedAs (may_misread terms) reported a
reported_for terms reported carried (inl is) =
    (reported, is, reported_as (may_misread terms) reported reported (inr refl))
reported_for terms reported None (inr (misreads, some)) = absurd (cc)
reported_for terms reported (Some a) (inr (misreads, some)) =
    (a, refl, reported_as (may_misread terms) reported a (inl misreads))

-- what each step keeps, a list of steps keeps
pub steps_keep : (P : BookState → Session → Owners → Type 0) (m : Moment)
    → ((step : PortStep) (b : BookState) (s : Session) (l : Owners) → MayBook step b
    → MaySession m step s → P b s l → P (book_after step b) (session_after step s)
    (owners_after step l))
    → (steps : List PortStep) (b : BookState) (s : Session) (l : Owners)
    → MayAll MayBook book_after steps b
    → MayAll (MaySession m) session_after steps s → P b s l
    → P (through_steps book_after steps b) (through_steps session_after steps s)
    (through_steps owners_after steps l)
steps_keep P m keeps [] b s l next may holds = holds
steps_keep P m keeps (step ∷ steps) b s l next may holds =
    steps_keep P m keeps steps _ _ _ next.1 may.1 (keeps step b s l next.0 may.0 holds)
