-- The owners in a whole run: it stays sound, their requests were submitted in the run, and none
-- that
-- was cut off before a reset of the device, or for good, has more answers then.
-- For the clauses of `laws::denied_requests_stay_out`, `laws::each_done_has_its_pair`,
--     `laws::late_requests_end` and 10 more.
use Rattle.std.proofs.Common.{◌≡◌, ◌⊎◌, ◌∷◌, ◌++◌, [], List, ℕ, ◌+◌, ◌≤◌, Bool, true, false, Option, Some, None, append-nil, refl, sym, ap, ◌∙◌, inl, inr, subst, arith}
use Rattle.std.proofs.lemmas.Bool.{eq-eqb}
use Rattle.std.proofs.lemmas.Bool.Decides.{nat_tests}
use Rattle.std.proofs.lemmas.Grind.{common_steps}
use Rattle.iol_isdu.specs.declared.values.Request.{Request}
use Rattle.iol_isdu.specs.declared.values.Answer.{Answer}
use Rattle.iol_far.specs.declared.carried.Carried.{Carried}
use Rattle.iol_far.specs.Isdu.{handed_request}
use Rattle.iol_isdu.specs.declared.values.Cause.{Cause}
use Rattle.iol_isdu.specs.declared.values.Cause.TheVariants.{Restarted}
use Rattle.iol_book.specs.declared.entries.Ticket.{Ticket}
use Rattle.iol_book.specs.declared.entries.Entry.{Entry}
use Rattle.iol_book.specs.declared.entries.Entry.TheVariants.{Submitted, Collected, Withdrawn, Urgent, Abandoned}
use Rattle.iol_book.specs.declared.entries.Outcome.{Outcome}
use Rattle.iol_book.specs.declared.entries.Outcome.TheVariants as outcome
use Rattle.iol_book.specs.Replay.{Standing, same_ticket, request_waiting, without, others_without}
use Rattle.iol_book.specs.BookModel.{BookState, book_with_entry, next_ticket, next_taken, book_after_post}
use Rattle.iol_book.specs.Takings.{takings, takings_after, first_with}
use Rattle.iol_book.specs.Drained.{last_taken}
use Rattle.iol_book.specs.OneJournal.{entries_since}
use Rattle.iol_app.specs.Abstract.Steps.{PortStep, Take, Deny, Carry, Done, Unknown, LateCarry, Moment, through_steps}
use Rattle.iol_app.specs.Abstract.Session.{Job, Session, MaySession, session_after}
use Rattle.iol_app.specs.Abstract.OfMaster.{restart_steps}
use Rattle.iol_port.specs.declared.call.Call.TheVariants as call
use Rattle.iol_port.specs.declared.call.Answered.{Answered}
use Rattle.iol_port.specs.declared.call.Answered.TheVariants as answered
use Rattle.iol_port.specs.Owners.{Owner, Owners, all, pairs_of, owner_with_answer, owner_with_outcome, owners_after, owners_after_late, IsOneOf, Fits, HasEnded, allowance_of, times_of}
use Rattle.iol_port.specs.Steps.{ticket_of, MayBook, book_after}
use Rattle.iol_port.specs.Run.{PortState, Piece, Whole, PieceOf, Pieces, port_at_opening, job_request}
use Rattle.iol_port.specs.Sound.{Each, IsOutcome, LastIsOpen, IsRecordedLast, PortIsSound, times_ever}
use Rattle.iol_port.specs.CarriesOut.{CarriesOut, GrewBy, IsSubmitted, IsCutOff, Happens, EachDoneHasItsPair, LeavesOut, IsBelow, LateEnds, CutForGoodStaysOut}
use Rattle.iol_port.specs.Denials.{CarriesNone, IsDeniedWithoutIsdu}
use Rattle.iol_port.specs.Promises.{OpensSound, PiecesSound, RunsSound}
use Rattle.iol_port.proofs.PieceLemmas.{Did, Stays, Submits, Urges, Collects, Withdraws, Cancels, Abandons, Serves, Restarts, Archives, Drains, Moves, piece_did, outcome_reported, pieces_join}
use Rattle.iol_port.proofs.Replaying.{entered_replayed, free_archive, next_is, steps_keep}
use Rattle.iol_port.proofs.Joining.{grown_says, grown_takings, last_pushed}
use Rattle.iol_port.proofs.PairLists.{each_removed, each_push, each_inserted, each_looked, waiting_push, waiting_left, counted}
use Rattle.iol_port.proofs.OwnersGoOn.{go_on_then, go_on_each, outcome_on, closed, closed_of, closed_in, grew_by, before_stays}
use Rattle.iol_port.proofs.OwnerSteps.{Goes, goes_then, goes_itself, goes_book, serves_goes, marked_goes, restart_goes, archive_goes, drain_goes, step_goes}

-- The pieces

-- the one port leads on to the other
pub record Leads (a b : PortState) : Type 0 where
  pub terms_are : allowance_of b.terms ≡ allowance_of a.terms
  pub goes : Goes (allowance_of a.terms) a.session a.owners b.book b.session b.owners

leads_then : {a b c : PortState} → Leads a b → Leads b c → Leads a c
leads_then one two = record {
  terms_are = two.terms_are ∙ one.terms_are;
  goes = goes_then one.goes (rw one.terms_are at two.goes);
}

leads_sound : {a b : PortState} → Leads a b → PortIsSound b
leads_sound leads = rw leads.terms_are leads.goes.sound

-- one more entry, which takes none
entry_goes : (a : PortState) (e : Entry) {last : ℕ}
    → takings_after a.book.standing e (takings (a.owners.drained ++ entries_since a.book))
    ≡ takings (a.owners.drained ++ entries_since a.book)
    → last_taken (last_taken None a.book.journal) (e ∷ []) ≡ last_taken None a.book.journal
    → (book_with_entry a.book e).standing.taken ≡ a.book.standing.taken
    → ((n : ℕ) → times_ever n (record (book_with_entry a.book e) { last = last }) a.owners
    ≤ times_ever n a.book a.owners)
    → Each (IsOutcome (allowance_of a.terms).isdu (all a.owners))
    (book_with_entry a.book e).standing.outcomes → PortIsSound a
    → Goes (allowance_of a.terms) a.session a.owners
    (record (book_with_entry a.book e) { last = last })
    a.session a.owners
entry_goes a e {last} none same taken fewer outcomes sound =
    let next : BookState = record (book_with_entry a.book e) { last = last } in
    let replayed = entered_replayed a.book e sound.says.replayed in
    goes_book {l = a.owners} (grown_says next e refl refl replayed sound.says) taken refl
    (grown_takings next e refl refl replayed sound.says ∙ none)
    (last_pushed None a.book.journal e ∙ same) fewer outcomes sound

piece_leads : (a b : PortState) (c : Piece) (reply : Answered) → PieceOf a c reply b → PortIsSound a
    → Leads a b
piece_leads a b c reply is sound = by b (piece_did a b c reply is)
  where
    open a.book.standing use {urgent, waiting, outcomes}

    Stands : Ticket → Outcome → Type 0
    Stands t out = IsOutcome (allowance_of a.terms).isdu (all a.owners) t out

    by : (b : PortState) → Did a c reply b → Leads a b
    by _ (Submits q e reply_is) = let t : Ticket = next_ticket a.book in record {
      terms_are = refl;
      goes = entry_goes a (Submitted t q) refl refl refl
          (λ n. grind (arith, nat_tests, waiting_push n waiting (t, q))) sound.outcomes sound;
    }
    by _ (Urges q e reply_is) = let t : Ticket = next_ticket a.book in record {
      terms_are = refl;
      goes = entry_goes a (Urgent t q) refl refl refl
          (λ n. grind (arith, nat_tests, waiting_push n urgent (t, q))) sound.outcomes sound;
    }
    by _ (Collects t is) = rw is record {
      terms_are = refl;
      goes = entry_goes a (Collected t) refl refl refl (λ n. omega arith)
          (each_removed Stands (same_ticket t) outcomes sound.outcomes) sound;
    }
    by _ (Withdraws t is) = rw is record {
      terms_are = refl;
      goes = entry_goes a (Withdrawn t) refl refl refl
          (λ n. omega (arith, waiting_left n t a.book.standing))
          (each_inserted Stands outcomes t outcome.Withdrawn tt sound.outcomes) sound;
    }
    by _ (Abandons t is) = rw is record {
      terms_are = refl;
      goes = entry_goes a (Abandoned t) refl refl refl
          (λ n. omega (arith, waiting_left n t a.book.standing))
          (each_removed Stands (same_ticket t) outcomes sound.outcomes) sound;
    }
    by _ (Serves which) = record { terms_are = refl; goes = serves_goes which sound }
    by _ (Cancels t e r) = record {
      terms_are = refl;
      goes = marked_goes a.session a.session.job a.session.late a.owners a.owners.late
          a.owners.current sound;
    }
    by _ Restarts = record {
      terms_are = refl;
      goes = restart_goes a.session a.session.job a.session.late a.owners a.owners.late
          a.owners.current sound;
    }
    by _ (Archives may) = record {
      terms_are = refl;
      goes = archive_goes a.session a.session.job a.session.late a.owners a.owners.late
          a.owners.current (free_archive a.book sound.says.replayed may) sound;
    }
    by _ (Drains replayed) = record {
      terms_are = refl;
      goes = drain_goes a.session a.session.job a.session.late a.owners a.owners.late
          a.owners.current replayed sound;
    }
    by _ (Moves m steps w) = rw (← w.book.1, ← w.session.1, ← w.owners) record {
      terms_are = ap allowance_of w.terms;
      goes = rw w.at at (steps_keep (Goes (allowance_of m.terms) a.session a.owners) m
          (λ step d s l next may g. goes_then g
          (step_goes m step d s s.job s.late l l.late l.current
          next may g.sound))
          steps a.book a.session a.owners w.book.0 w.session.0 (goes_itself (rw w.at sound)));
    }
    by _ (Stays queued images expected) = record { terms_are = refl; goes = goes_itself sound }

-- A run, and what was told in it

run_leads : (a b : PortState) (pieces : List Piece) (replies : List Answered)
    → Pieces a pieces replies b → PortIsSound a
    → Leads a b × ((t : Ticket) (out : Outcome)
    → Happens pieces replies (Whole (call.Collect t)) (answered.Outcome out)
    → IsOutcome (allowance_of a.terms).isdu (all b.owners) t out)
run_leads a b [] [] run sound =
    (rw run (record { terms_are = refl; goes = goes_itself sound }), λ t out no. absurd no)
run_leads a b (c ∷ pieces) (reply ∷ replies) (mid, first, rest) sound =
    let one = piece_leads a mid c reply first sound in
    let (more, outcome_is) = run_leads mid b pieces replies rest (leads_sound one) in (
      leads_then one more,
      λ t out happens. elim happens [
        | inl is ↦ outcome_on _ (go_on_then one.goes.on more.goes.on) t out
            (each_looked _ a.book.standing.outcomes t out
            (outcome_reported a mid t out (rw (is.0, is.1) at first)) sound.outcomes)
        | inr later ↦ subst (λ isdu. IsOutcome isdu (all b.owners) t out)
            (ap (λ x. x.isdu) one.terms_are) (outcome_is t out later)
      ],
    )
run_leads a b _ _ run sound = absurd run

pub pieces_sound : PiecesSound
pieces_sound a b pieces replies run sound = leads_sound (run_leads a b pieces replies run sound).0

pub runs_sound : RunsSound
runs_sound a b calls replies run sound = pieces_sound a b _ replies run sound

-- of what the device was handed before, if anything
held_opens : (repeats : Request → Bool) (late : Option Request)
    → LastIsOpen late repeats None late None [] []
held_opens repeats None = refl
held_opens repeats (Some q) = (refl, refl, refl, refl)

held_last : (late : Option Request) → IsRecordedLast None late None []
held_last None = tt
held_last (Some q) = tt

pub opened_sound : OpensSound
opened_sound devices limits far silence = record {
  says = record { replayed = refl; whole = refl; head = omega arith };
  fits = record {
    takings_are = refl;
    record_is = sym (append-nil far.carried);
    fit = λ owner i. absurd i;
    ended = λ owner i. absurd i;
  };
  opens = held_opens _ (handed_request far.isdu);
  last = held_last (handed_request far.isdu);
  sure = λ _. refl;
  once = λ n. grind (arith, nat_tests);
  above = λ n low. grind (arith, nat_tests);
  outcomes = tt;
}

-- What waits or was taken was submitted

abbrev Asked : (Ticket → Request → Type 0) → BookState → Owners → Type 0
Asked P b l = Each P b.standing.urgent × Each P b.standing.waiting
    × ((x : Owner) → IsOneOf x (all l) → P x.taking.ticket x.taking.request)

module _ (P : Ticket → Request → Type 0) where
  -- the request of a ticket waits no longer
  asked_left : (t : Ticket) (s : Standing) → Each P s.urgent × Each P s.waiting
      → Each P (without t s.urgent) × Each P (others_without t s.urgent s.waiting)
  asked_left t s asked = grind (arith, each_removed P (same_ticket t))

  asked_next : (b : BookState) (t : Ticket) (q : Request) → next_taken b ≡ Some (t, q)
      → Each P b.standing.urgent × Each P b.standing.waiting → P t q
  asked_next b t q next asked =
      let found : request_waiting b.standing t ≡ Some q = (next_is b t q next).found in
      grind (
        arith,
        common_steps,
        each_looked P b.standing.urgent t q,
        each_looked P b.standing.waiting t q,
      )

  -- the owner that is first has another outcome, or more answers
  asked_first : (change : Owner → Owner)
      → ((x : Owner) → ((change x).taking.ticket ≡ x.taking.ticket)
      × ((change x).taking.request ≡ x.taking.request))
      → (xs ys : List Owner)
      → ((x : Owner) → IsOneOf x (xs ++ ys) → P x.taking.ticket x.taking.request)
      → (x : Owner) → IsOneOf x (first_with change xs ++ ys) → P x.taking.ticket x.taking.request
  asked_first change same [] ys asked x i = asked x i
  asked_first change same (y ∷ xs) ys asked x (inl is) = subst
      (λ z. P z.taking.ticket z.taking.request) is
      (rw (same y).0 (rw (same y).1 (asked y (inl refl))))
  asked_first change same (y ∷ xs) ys asked x (inr i) = asked x (inr i)

  asked_ended : (out : Outcome) (b : BookState) (l : Owners) → Asked P b l
      → Asked P (book_after_post b out)
      (record l { current = first_with (owner_with_outcome out) l.current })
  asked_ended out b l (urgent, waiting, taken) = (
    grind (arith, common_steps),
    grind (arith, common_steps),
    asked_first (owner_with_outcome out) (λ x. (refl, refl)) l.current l.archived taken,
  )

  asked_late : (a : Answer) (late : Option Request) (b : BookState) (l : Owners) → Asked P b l
      → Asked P b (owners_after_late a late l)
  asked_late a None b l (urgent, waiting, taken) = (
    urgent,
    waiting,
    asked_first (owner_with_answer a) (λ x. (refl, refl)) l.current
        l.archived taken,
  )
  asked_late a (Some q) b l asked = asked

  asked_step : (m : Moment) (step : PortStep) (b : BookState) (s : Session) (l : Owners)
      → MayBook step b → MaySession m step s → Asked P b l
      → Asked P (book_after step b) (owners_after step l)
  asked_step m (Take t q) b s l next may (urgent, waiting, taken) =
      let left = asked_left (ticket_of t) b.standing (urgent, waiting) in (
        left.0,
        left.1,
        λ x i. elim i [
          | inl same ↦ subst (λ z. P z.taking.ticket z.taking.request) same
              (asked_next b (ticket_of t) q next (urgent, waiting))
          | inr i ↦ taken x i
        ],
      )
  asked_step m (Deny t) b s l head may (urgent, waiting, taken) =
      let left = asked_left (ticket_of t) b.standing (urgent, waiting) in (left.0, left.1, taken)
  asked_step m (Carry a) b s l next may (urgent, waiting, taken) = (
    urgent,
    waiting,
    asked_first (owner_with_answer a) (λ x. (refl, refl)) l.current
        l.archived taken,
  )
  asked_step m (LateCarry a) b s l next may asked = asked_late a l.late b l asked
  asked_step m (Done a) b s l next may asked = asked_ended (outcome.Done a) b l asked
  asked_step m (Unknown cause) b s l next may asked =
      asked_ended (outcome.Unknown cause) b l asked
  asked_step m _ b s l next may asked = asked

  asked_piece : (a b : PortState) (c : Piece) (reply : Answered) → PieceOf a c reply b
      → ((t : Ticket) (q : Request) → reply ≡ answered.Ticket t
      → (c ≡ Whole (call.Submit q)) ⊎ (c ≡ Whole (call.SubmitUrgent q)) → P t q)
      → Asked P a.book a.owners → Asked P b.book b.owners
  asked_piece a b c reply is submits (asked_urgent, asked_waiting, taken) =
      by b (piece_did a b c reply is)
    where
      open a.book.standing use {urgent, waiting}

      t : Ticket
      t = next_ticket a.book

      cut : (job : Option Job)
          → Asked P (through_steps book_after (restart_steps (job_request job)) a.book)
          (through_steps owners_after (restart_steps (job_request job)) a.owners)
      cut None = (asked_urgent, asked_waiting, taken)
      cut (Some job) = asked_ended (outcome.Unknown Restarted) a.book a.owners
          (asked_urgent, asked_waiting, taken)

      by : (b : PortState) → Did a c reply b → Asked P b.book b.owners
      by _ (Submits q e reply_is) = (
        asked_urgent,
        each_push P waiting t q (submits t q reply_is (inl e)) asked_waiting,
        taken,
      )
      by _ (Urges q e reply_is) =
          (each_push P urgent t q (submits t q reply_is (inr e)) asked_urgent, asked_waiting, taken)
      by _ (Collects k is) = rw is (asked_urgent, asked_waiting, taken)
      by _ (Withdraws k is) =
          let left = asked_left k a.book.standing (asked_urgent, asked_waiting) in
          rw is (left.0, left.1, taken)
      by _ (Abandons k is) =
          let left = asked_left k a.book.standing (asked_urgent, asked_waiting) in
          rw is (left.0, left.1, taken)
      by _ Restarts = cut a.session.job
      by _ (Moves m steps w) = rw (← w.book.1, ← w.owners) (steps_keep (λ d s l. Asked P d l) m
          (λ step d s l next may. asked_step m step d s l next may) steps a.book a.session a.owners
          w.book.0 w.session.0 (asked_urgent, asked_waiting, taken))
      by _ _ = (asked_urgent, asked_waiting, taken)

asked_run : (pieces more : List Piece) (replies others : List Answered) (a b : PortState)
    → Pieces a more others b
    → ((c : Piece) (r : Answered) → Happens more others c r → Happens pieces replies c r)
    → Asked (IsSubmitted pieces replies) a.book a.owners
    → Asked (IsSubmitted pieces replies) b.book b.owners
asked_run pieces [] replies [] a b run are asked = rw run asked
asked_run pieces (c ∷ more) replies (r ∷ others) a b (mid, first, rest) are asked =
    asked_run pieces more replies others mid b rest (λ d x i. are d x (inr i))
    (asked_piece (IsSubmitted pieces replies) a mid c r first (λ t q reply_is is. elim is [
      | inl e ↦ inl (are _ _ (inl (e, reply_is)))
      | inr e ↦ inr (are _ _ (inl (e, reply_is)))
    ]) asked)
asked_run pieces _ replies _ a b run are asked = absurd run

-- The laws

pub each_done_has_its_pair : EachDoneHasItsPair
each_done_has_its_pair devices limits far silence pieces replies b run =
    let from = port_at_opening devices limits far silence in
    let sound = opened_sound devices limits far silence in
    let (leads, outcome_is) = run_leads from b pieces replies run sound in
    let goes = leads.goes in
    record {
      before = grew_by goes.before;
      record_is = goes.sound.fits.record_is;
      once = λ n. omega (arith, goes.sound.once n);
      above = λ n low. omega (arith, goes.sound.above n (rw goes.issued low));
      fits = goes.sound.fits.fit;
      asked = (asked_run pieces pieces replies replies from b run (λ c r i. i)
          (tt, tt, λ x i. absurd i)).2;
      done = λ t answer happens. outcome_is t (outcome.Done answer) happens;
    }

-- a number that stands once is that of one owner
times_first : (n : ℕ) (y : Owner) (xs : List Owner)
    → times_of n (y ∷ xs) ≡ counted n y.taking.ticket.0 + times_of n xs
times_first n y xs = grind (arith, common_steps)

counted_same : (n m : ℕ) → n ≡ m → counted n m ≡ 1
counted_same n m is = rw (eq-eqb n m is) refl

is_there : (x : Owner) (xs : List Owner) → IsOneOf x xs
    → 1 ≤ times_of x.taking.ticket.0 xs
is_there x [] i = absurd i
is_there x (y ∷ xs) (inl is) =
    let n : ℕ = x.taking.ticket.0 in
    let here = counted_same n y.taking.ticket.0 (ap (λ a. a.taking.ticket.0) (sym is)) in
    omega (arith, times_first n y xs, here)
is_there x (y ∷ xs) (inr i) =
    omega (arith, times_first x.taking.ticket.0 y xs, is_there x xs i)

twice : (z : Owner) (xs : List Owner) (y : Owner) → ((n : ℕ) → times_of n (z ∷ xs) ≤ 1)
    → IsOneOf y xs → z.taking.ticket.0 ≡ y.taking.ticket.0 → ⊥
twice z xs y once j is =
    let n : ℕ = y.taking.ticket.0 in
    omega (
      arith,
      once n,
      times_first n z xs,
      is_there y xs j,
      counted_same n z.taking.ticket.0 (sym is),
    )

one_each : (xs : List Owner) (x y : Owner) → ((n : ℕ) → times_of n xs ≤ 1)
    → IsOneOf x xs → IsOneOf y xs → x.taking.ticket ≡ y.taking.ticket → x ≡ y
one_each [] x y once i j same = absurd i
one_each (z ∷ xs) x y once (inl is) (inl also) same = sym is ∙ also
one_each (z ∷ xs) x y once (inr i) (inr j) same =
    one_each xs x y (λ n. omega (arith, once n, times_first n z xs)) i j same
one_each (z ∷ xs) x y once (inl is) (inr j) same = absurd (twice z xs y once j
    (ap (λ a. a.taking.ticket.0) is ∙ ap (λ t. t.0) same))
one_each (z ∷ xs) x y once (inr i) (inl also) same = absurd (twice z xs x once i
    (ap (λ a. a.taking.ticket.0) also ∙ ap (λ t. t.0) (sym same)))

leaves_out : (IsOut : Ticket → Type 0) (a c : PortState) → Leads a c
    → ((t : Ticket) → IsOut t
    → (y : Owner) × IsOneOf y (closed a.session a.owners) × (y.taking.ticket ≡ t))
    → LeavesOut a c IsOut
leaves_out IsOut a c leads find = record {
  go_on = leads.goes.on;
  left_out = λ x i out.
      let (y, j, same) = find x.taking.ticket out in
      let k = closed_of c.session c.owners y (leads.goes.stays y j) in
      let is = one_each (all c.owners) y x (λ n. omega (arith, leads.goes.sound.once n)) k i same in
      subst (λ z. IsOneOf z (all a.owners)) is (closed_of a.session a.owners y j);
}

-- what was cut off by the end of a run has ended so
cut_ended : (a b : PortState) (pieces : List Piece) (replies : List Answered)
    → Pieces a pieces replies b → PortIsSound a → (t : Ticket) (cause : Cause)
    → IsCutOff pieces replies b t cause → HasEnded (all b.owners) t (outcome.Unknown cause)
cut_ended a b pieces replies run sound t cause (inl happens) =
    (run_leads a b pieces replies run sound).1 t (outcome.Unknown cause) happens
cut_ended a b pieces replies run sound t cause (inr is) =
    let now = pieces_sound a b pieces replies run sound in
    each_looked _ b.book.standing.outcomes t (outcome.Unknown cause) is
    now.outcomes

pub cut_for_good_stays_out : CutForGoodStaysOut
cut_for_good_stays_out devices limits far silence pieces more replies others a c run rest =
    let from = port_at_opening devices limits far silence in
    let start = opened_sound devices limits far silence in
    let sound = pieces_sound from a pieces replies run start in (
      each_done_has_its_pair devices limits far silence (pieces ++ more) (replies ++ others) c
          (pieces_join from a c pieces more replies others run rest),
      leaves_out _ a c (run_leads a c more others rest sound).0 (λ t (cause, sure, cut).
          let (x, i, same, is) = cut_ended from a pieces replies run start t cause cut in (
            x,
            closed_in a.owners.late _ a.session a.book.standing.taken a.owners sound.opens x i
                (outcome.Unknown cause) is (inl sure),
            same,
          )),
    )

-- Below the reset of the device, until nothing is late

below_stays : (m : Moment) (step : PortStep) (s : Session) → IsBelow m.terms.devices s.mode
    → MaySession m step s
    → ((session_after step s).late ≡ None) ⊎ IsBelow m.terms.devices (session_after step s).mode
below_stays m step s below may = grind (arith, common_steps)

-- what had ended at this port has no more answers
abbrev HasEndedOut : PortState → Session → Owners → Type 0
HasEndedOut a s l = (x : Owner) → IsOneOf x (all a.owners) → (out : Outcome)
    → x.taking.outcome ≡ Some out
    → (y : Owner) × IsOneOf y (closed s l) × (y.taking.ticket ≡ x.taking.ticket)

-- and nothing of before is late
abbrev IsPast : PortState → Session → Owners → Type 0
IsPast a s l = (l.late ≡ None) × HasEndedOut a s l

none_before : (before : Option Request) (repeats : Request → Bool) (s : Session)
    (taken : Option (Ticket × Request)) (xs ys : List Owner)
    → LastIsOpen before repeats s.job s.late taken xs ys → s.late ≡ None → before ≡ None
none_before None repeats s taken xs ys opens none = refl
none_before (Some q) repeats s taken xs ys opens none =
    absurd (let never : None ≡ Some q = sym none ∙ opens.1 in cc)

module _ (a : PortState) (m : Moment) where
  abbrev Wakes : BookState → Session → Owners → Type 0
  Wakes d s l = Goes (allowance_of m.terms) a.session a.owners d s l
      × (IsBelow m.terms.devices s.mode ⊎ IsPast a s l)

  wake_step : (step : PortStep) (d : BookState) (s : Session) (l : Owners) → MayBook step d
      → MaySession m step s → Wakes d s l
      → Wakes (book_after step d) (session_after step s) (owners_after step l)
  wake_step step d s l next may (g, left) = (all_goes, by left)
    where
      one : Goes (allowance_of m.terms) s l (book_after step d) (session_after step s)
          (owners_after step l)
      one = step_goes m step d s s.job s.late l l.late l.current next may g.sound

      all_goes : Goes (allowance_of m.terms) a.session a.owners (book_after step d)
          (session_after step s) (owners_after step l)
      all_goes = goes_then g one

      by : IsBelow m.terms.devices s.mode ⊎ IsPast a s l
          → IsBelow m.terms.devices (session_after step s).mode
          ⊎ IsPast a (session_after step s) (owners_after step l)
      by (inr (free, past)) = inr (
        (before_stays one.before free).0,
        λ x i out is. let (y, j, same) = past x i out is in (y, one.stays y j, same),
      )
      by (inl below) = elim (below_stays m step s below may) [
        | inr stays ↦ inl stays
        | inl none ↦ inr (
          none_before (owners_after step l).late _ (session_after step s) _ _ _ one.sound.opens
              none,
          λ x i out is.
              let (y, j, goes) = go_on_each all_goes.on x i in (
                y,
                closed_in (owners_after step l).late _ (session_after step s)
                    (book_after step d).standing.taken (owners_after step l) one.sound.opens y j
                    out (goes.ends out is) (inr none),
                goes.ticket_is,
              ),
        )
      ]

-- one that leads on from below the reset had one
piece_wakes : (a b : PortState) (c : Piece) (reply : Answered) → PieceOf a c reply b
    → IsBelow a.terms.devices a.session.mode → (IsBelow b.terms.devices b.session.mode → ⊥)
    → PortIsSound a → IsPast a b.session b.owners
piece_wakes a b c reply is below left sound = by b (piece_did a b c reply is) left
  where
    by : (b : PortState) → Did a c reply b → (IsBelow b.terms.devices b.session.mode → ⊥)
        → IsPast a b.session b.owners
    by _ Restarts left = absurd (left (grind (arith, common_steps)))
    by b (Moves m steps w) left =
        let (g, ends) = steps_keep (Wakes a m) m (wake_step a m) steps a.book a.session
        a.owners w.book.0 w.session.0 (goes_itself (rw w.at sound), inl (rw w.at below)) in
        rw (← w.session.1, ← w.owners) (elim ends [
          | inl still ↦ absurd (left (rw (w.terms, ← w.session.1) (rw w.at at still)))
          | inr past ↦ past
        ])
    by _ _ left = absurd (left below)

pub late_ends : LateEnds
late_ends devices limits far silence pieces more piece replies others a b c run resets rest =
    let from = port_at_opening devices limits far silence in
    let start = opened_sound devices limits far silence in
    let sound = pieces_sound from a pieces replies run start in
    let one = piece_leads a b piece answered.Nothing resets.is sound in
    let past = piece_wakes a b piece answered.Nothing resets.is resets.below resets.up sound in
    let behind = (run_leads b c more others rest (leads_sound one)).0 in (
      each_done_has_its_pair devices limits far silence (pieces ++ piece ∷ more)
          (replies ++ answered.Nothing ∷ others) c (pieces_join from a c pieces (piece ∷ more)
          replies (answered.Nothing ∷ others) run (b, resets.is, rest)),
      leaves_out _ b c behind (λ t (cause, cut).
          let (x, i, same, is) = cut_ended from a pieces replies run start t cause cut in
          let (y, j, also) = past.1 x i (outcome.Unknown cause) is in (y, j, also ∙ same)),
      (before_stays behind.goes.before past.0).1,
    )

-- At a device without ISDU none is taken, and at one with ISDU none is denied

pub carries_none : CarriesNone
carries_none devices limits far silence pieces replies b run none =
    by (all b.owners) b.owners.before done.fits done.before done.record_is
  where
    done : CarriesOut (port_at_opening devices limits far silence) pieces replies b
    done = each_done_has_its_pair devices limits far silence pieces replies b run

    by : (owners : List Owner) (before : List Carried)
        → ((x : Owner) → IsOneOf x owners
        → Fits (allowance_of (port_at_opening devices limits far silence).terms) x)
        → GrewBy (handed_request far.isdu) far.carried before
        → b.session.carried ≡ before ++ pairs_of owners
        → GrewBy (handed_request far.isdu) far.carried b.session.carried
    by [] before fits grew is = rw (is, append-nil before) grew
    by (x ∷ owners) before fits grew is =
        let known = (fits x (inl refl)).isdu in
        absurd (let never : true ≡ false = sym known ∙ none in cc)

pub denied_without_isdu : IsDeniedWithoutIsdu
denied_without_isdu devices limits far silence pieces replies b run ticket happens =
    (run_leads (port_at_opening devices limits far silence) b pieces replies run
    (opened_sound devices limits far silence)).1 ticket outcome.NoIsdu happens
