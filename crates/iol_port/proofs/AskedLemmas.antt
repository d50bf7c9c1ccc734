-- only a cancel sets the mark, and only a request that has it is cancelled
-- For the clauses of `laws::cancelled_requests_were_asked`.
use Rattle.std.proofs.Common.{◌≡◌, ◌⊎◌, inl, inr, ◌∷◌, [], List, true, ap, ◌∙◌, arith}
use Rattle.std.proofs.lemmas.Grind.{common_steps}
use Rattle.iol_isdu.specs.declared.values.Cause.TheVariants.{Cancelled}
use Rattle.iol_book.specs.declared.entries.Ticket.{Ticket}
use Rattle.iol_book.specs.Replay.{is_taken}
use Rattle.iol_app.specs.Abstract.OfMaster.{restart_steps}
use Rattle.iol_app.specs.Abstract.Steps.{PortStep, Unknown, through_steps}
use Rattle.iol_app.specs.Abstract.Session.{Session, MaySession, session_after}
use Rattle.iol_port.specs.declared.call.Call.TheVariants as call
use Rattle.iol_port.specs.declared.call.Answered.TheVariants as answered
use Rattle.iol_port.specs.Run.{PortState, Whole, job_request}
use Rattle.iol_port.proofs.PieceLemmas.{Did, Cancels, Restarts, Moves, piece_did}
use Rattle.iol_port.specs.Promises.{CancelledWasAsked, AskedByCancel, is_cancel_asked}

-- no step sets the mark
asked_through : (steps : List PortStep) (s : Session)
    → is_cancel_asked (through_steps session_after steps s).job ≡ true
    → is_cancel_asked s.job ≡ true
asked_through [] s h = h
asked_through (step ∷ steps) s h =
    let later = asked_through steps (session_after step s) h in grind (arith, common_steps)

pub cancelled_was_asked : CancelledWasAsked
cancelled_was_asked m [] s may cancels = absurd cancels
cancelled_was_asked m (step ∷ steps) s may (inl is) =
    let cut : MaySession m (Unknown Cancelled) s = rw is at may.0 in
    grind (arith, common_steps, cut)
cancelled_was_asked m (step ∷ steps) s may (inr later) =
    let asked = cancelled_was_asked m steps (session_after step s) may.1 later in
    grind (arith, common_steps)

pub asked_by_cancel : AskedByCancel
asked_by_cancel a b c reply is = by b (piece_did a b c reply is)
  where
    by : (b : PortState) → Did a c reply b → is_cancel_asked b.session.job ≡ true
        → (is_cancel_asked a.session.job ≡ true)
        ⊎ ((ticket : Ticket) × (c ≡ Whole (call.Cancel ticket)) × (reply ≡ answered.Nothing)
        × (is_taken a.book.standing ticket ≡ true))
    by _ (Cancels t e (r, free)) h = inr (t, e, r, grind (arith, common_steps))
    by _ Restarts h =
        inl (asked_through (restart_steps (job_request a.session.job)) a.session h)
    by _ (Moves m steps w) h = inl (asked_through steps a.session
        (ap (λ s. is_cancel_asked s.job) w.session.1 ∙ h))
    by _ _ h = inl h
