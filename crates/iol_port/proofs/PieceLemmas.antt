-- what a piece of a run of the abstract port leaves, and what each piece keeps
-- For the clauses of `laws::runs_join`, `Port::keeps_record`, `Port::run` and 13 more.
use Rattle.std.proofs.Common.{◌≡◌, ◌∷◌, ◌++◌, [], List, true, Option, Some, None, IsTrue, refl, ap, sym, ◌∙◌, arith, inl, inr, ◌⊎◌, drop, map}
use Rattle.std.proofs.lemmas.Grind.{common_steps}
use Rattle.std.proofs.lemmas.List.{map-append}
use Rattle.std.specs.Map.{lookup}
use Rattle.std.specs.List.{list_all}
use Rattle.iol_isdu.specs.declared.values.Request.{Request}
use Rattle.iol_book.specs.declared.entries.Ticket.{Ticket}
use Rattle.iol_book.specs.declared.entries.Serve.{Serve}
use Rattle.iol_book.specs.declared.entries.Outcome.{Outcome}
use Rattle.iol_book.specs.declared.entries.Entry.TheVariants.{Collected, Withdrawn, Abandoned}
use Rattle.iol_book.specs.Replay.{same_ticket}
use Rattle.iol_book.specs.BookModel.{book_with_entry, book_after_submit, next_ticket, book_after_collect, book_after_withdrawal, book_after_abandon, book_after_serve, may_archive, book_after_urgent, flight_refusal, IsReplayed}
use Rattle.iol_book.specs.Drained.{book_after_drain}
use Rattle.iol_app.specs.Abstract.Session.{Session, session_after, session_cancelling, MaySession}
use Rattle.iol_app.specs.Abstract.Images.{Images}
use Rattle.iol_app.specs.Abstract.Steps.{PortStep, Moment, Exchanged, through_steps, TakesSteps}
use Rattle.iol_event.specs.declared.event.Event.{Event}
use Rattle.iol_page.specs.declared.identity.Identity.{Identity}
use Rattle.iol_port.specs.Steps.{book_after, MayBook}
use Rattle.iol_port.specs.Owners.{owners_after, owners_after_archive, owners_after_drain}
use Rattle.iol_port.specs.declared.call.Call.TheVariants as call
use Rattle.iol_port.specs.declared.call.Answered.{Answered}
use Rattle.iol_port.specs.declared.call.Answered.TheVariants as answered
use Rattle.iol_port.specs.Run.{PortState, SendOf, ReceiveOf, CallOf, is_sending_step, Piece, Whole, Send, Receive, PieceOf, moment_by, port_after_restart}
use Rattle.iol_port.specs.Promises.{RunsJoin, PiecesJoin}
use Rattle.iol_app.proofs.Parts.{runs-append, through_steps-append}

-- some steps in the book, the session and the owners, whatever becomes of the events and the images
pub record IsMoved (m : Moment) (steps : List PortStep) (a b : PortState) : Type 0 where
  pub book : TakesSteps MayBook book_after a.book steps b.book
  pub session : TakesSteps (MaySession m) session_after a.session steps b.session
  pub owners : through_steps owners_after steps a.owners ≡ b.owners
  pub terms : b.terms ≡ a.terms
  pub at : m.terms ≡ a.terms

pub sending_mode : (xs : List PortStep) (s : Session) → IsTrue (list_all is_sending_step xs)
    → (through_steps session_after xs s).mode ≡ s.mode
sending_mode [] s only = refl
sending_mode (x ∷ xs) s only = grind (arith, common_steps, sending_mode xs (session_after x s))

-- what goes out, and what comes back, in one list of steps
turned : (a m b : PortState) (s : SendOf a m) (r : ReceiveOf m b)
    → IsMoved (moment_by a r.turn.call) (s.steps ++ r.turn.steps) a b
turned a m b s r =
    let first : Moment = moment_by a r.turn.call in
    let sent = s.session r.turn.call in
    let mode : m.session.mode ≡ a.session.mode = ap (λ (x : Session). x.mode) (sym sent.1)
    ∙ sending_mode s.steps a.session s.only in
    let same : moment_by m r.turn.call ≡ first = rw (s.terms, mode, s.silence) refl in
    record {
      book = runs-append MayBook book_after s.steps r.turn.steps a.book s.book r.work.book;
      session = runs-append (MaySession first) session_after s.steps r.turn.steps a.session sent
          (rw same at r.work.session);
      owners = through_steps-append owners_after s.steps r.turn.steps a.owners
          ∙ ap (through_steps owners_after r.turn.steps) s.owners ∙ r.work.owners;
      terms = r.all.terms ∙ s.terms;
      at = refl;
    }

-- What a piece did, by the port behind it
pub data Did (a : PortState) (c : Piece) (reply : Answered) : PortState → Type 0 where
  -- the book and the session stay
  Stays : (queued : List Event) (images : Images) (expected : Option Identity) → Did a c reply
      (record a {
        queued = queued;
        images = images;
        terms = record a.terms { expected = expected };
      })
  Submits : (q : Request) → c ≡ Whole (call.Submit q)
      → reply ≡ answered.Ticket (next_ticket a.book)
      → Did a c reply (record a { book = book_after_submit a.book q })
  Urges : (q : Request) → c ≡ Whole (call.SubmitUrgent q)
      → reply ≡ answered.Ticket (next_ticket a.book)
      → Did a c reply (record a { book = book_after_urgent a.book q })
  Collects : (t : Ticket) → book_after_collect a.book t ≡ book_with_entry a.book (Collected t)
      → Did a c reply (record a { book = book_after_collect a.book t })
  Withdraws : (t : Ticket) → book_after_withdrawal a.book t ≡ book_with_entry a.book (Withdrawn t)
      → Did a c reply (record a { book = book_after_withdrawal a.book t })
  Abandons : (t : Ticket) → book_after_abandon a.book t ≡ book_with_entry a.book (Abandoned t)
      → Did a c reply (record a { book = book_after_abandon a.book t })
  Serves : (which : Serve) → Did a c reply (record a { book = book_after_serve a.book which })
  Cancels : (t : Ticket) → c ≡ Whole (call.Cancel t)
      → (reply ≡ answered.Nothing) × (flight_refusal a.book.standing t ≡ None)
      → Did a c reply (record a { session = session_cancelling a.session })
  Restarts : Did a c reply (port_after_restart a)
  Archives : may_archive a.book ≡ true → Did a c reply
      (record a {
        book = record a.book { journal = []; restated = 0 };
        owners = owners_after_archive a.owners;
      })
  Drains : IsReplayed (book_after_drain a.book) → Did a c reply
      (record a {
        book = book_after_drain a.book;
        owners = owners_after_drain a.book a.owners;
      })
  Moves : (m : Moment) (steps : List PortStep) {b : PortState} → IsMoved m steps a b
      → Did a c reply b

-- an outcome that a collect hands out was there
pub outcome_reported : (a b : PortState) (t : Ticket) (out : Outcome)
    → CallOf a (call.Collect t) (answered.Outcome out) b
    → lookup (same_ticket t) a.book.standing.outcomes ≡ Some out
outcome_reported a b t out e = grind (arith, common_steps)

module _ (a b : PortState) where
  did : {c : Piece} {reply : Answered} {next : PortState} → Did a c reply next → b ≡ next
      → Did a c reply b
  did it e = rw e it

  stayed : {c : Piece} {reply : Answered} → b ≡ a → Did a c reply b
  stayed e = did (Stays a.queued a.images a.terms.expected) e

  -- a call that may be refused
  may_do : {Q : Type 0} {c : Piece} {reply : Answered} {next : PortState}
      → (Q → Did a c reply next) → (b ≡ a) ⊎ (Q × (b ≡ next)) → Did a c reply b
  may_do does (inl e) = stayed e
  may_do does (inr (q, e)) = did (does q) e

  pub piece_did : (c : Piece) (reply : Answered) → PieceOf a c reply b → Did a c reply b
  piece_did (Whole (call.Submit q)) reply e = may_do (Submits q refl) (grind (arith, common_steps))
  piece_did (Whole (call.SubmitUrgent q)) reply e =
      may_do (Urges q refl) (grind (arith, common_steps))
  piece_did (Whole (call.Collect t)) reply e = may_do (Collects t) (grind (arith, common_steps))
  piece_did (Whole (call.Withdraw t)) reply e = may_do (Withdraws t) (grind (arith, common_steps))
  piece_did (Whole (call.Abandon t)) reply e = may_do (Abandons t) (grind (arith, common_steps))
  piece_did (Whole (call.Serve which)) reply e = did (Serves which) e.1
  piece_did (Whole (call.Cancel t)) reply e = may_do (Cancels t refl) (grind (arith, common_steps))
  piece_did (Whole call.Archive) reply e = may_do Archives (grind (arith, common_steps))
  piece_did (Whole call.Drain) reply (inl (is, replayed)) =
      did (Drains (rw is.1 at replayed)) is.1
  piece_did (Whole call.Drain) reply (inr (_, e)) = stayed e
  piece_did (Whole call.Restart) reply e = did Restarts e.1.1
  piece_did (Whole (call.SetOutput image)) reply e =
      did (Stays a.queued b.images a.terms.expected) (grind (arith, common_steps))
  piece_did (Whole call.ClearOutput) reply e =
      did (Stays a.queued (record a.images { wanted = None }) a.terms.expected) e.1
  piece_did (Whole (call.Expect identity)) reply e = did (Stays a.queued a.images identity) e.1
  piece_did (Whole call.TakeEvent) reply e =
      did (Stays (drop 1 a.queued) a.images a.terms.expected) (grind (arith, common_steps))
  piece_did (Whole call.Counters) reply (k, e) = stayed e.1
  piece_did (Whole call.LastLoss) reply (loss, e) = stayed e.1
  piece_did (Whole call.Turn) reply (_, (m, s, r)) =
      Moves (moment_by a r.turn.call) (s.steps ++ r.turn.steps) (turned a m b s r)
  piece_did (Whole _) reply e = stayed e.1
  piece_did Send reply (_, inl s) = Moves (moment_by a (Exchanged true)) s.steps
      (grind (arith, common_steps, s.session (Exchanged true)))
  piece_did Send reply (_, inr (_, e)) = stayed e
  piece_did Receive reply (_, r) =
      Moves (moment_by a r.turn.call) r.turn.steps (grind (arith, common_steps))

-- A run, and one that goes on from where it led

pub pieces_join : PiecesJoin
pieces_join a b c [] more [] others run rest = rw run at rest
pieces_join a b c (p ∷ pieces) more (r ∷ replies) others (next, first, run) rest =
    (next, first, pieces_join next b c pieces more replies others run rest)
pieces_join a b c _ more _ others run rest = absurd run

pub runs_join : RunsJoin
runs_join a b c calls more replies others run rest = rw map-append
    (pieces_join a b c (map Whole calls) (map Whole more) replies others run rest)
