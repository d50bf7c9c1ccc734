-- A ticket is abandoned until it is outstanding no more, and so is one more: what that leaves.
-- For the clauses of `tickets::abandon_each` and `tickets::abandon`.
use Rattle.std.proofs.Common.{◌≡◌, ℕ, ◌+◌, ◌<◌, ◌&&◌, Bool, true, false, List, [], ◌∷◌, ◌++◌, All, refl, ◌∙◌, length, get_or, take}
use Rattle.std.specs.Prelude.{not}
use Rattle.std.specs.List.{Contains}
use Rattle.std.proofs.lemmas.List.{take_more}
use Rattle.std.proofs.lemmas.List.Elements.{All-head, All-tail, All-nil, All-cons, All-append, Contains-append_left, Contains-append_right}
use Rattle.iol_book.specs.declared.entries.Ticket.{Ticket}
use Rattle.iol_book.specs.Replay.{Standing, same_ticket}
use Rattle.iol_book.specs.BookModel.{is_outstanding}
use Rattle.iol_book.specs.Abandoning.{IsReportedAlike}
use Rattle.iol_master.specs.Ports.{PortFacts, awaits_client}
use Rattle.iol_master.specs.Left.{IsGone, LeavesNone}
use Rattle.iol_master.proofs.Abandoning.{after, stays_gone, reported_alike, fewer, left_over, folds-append}

module _ {X : Type 0} (Holds : X → Type 0) where
  all_left : (xs ys : List X) → All Holds (xs ++ ys) → All Holds xs
  all_left [] ys all = All-nil Holds
  all_left (x ∷ xs) ys all = All-cons Holds x xs (All-head Holds x (xs ++ ys) all)
      (all_left xs ys (All-tail Holds x (xs ++ ys) all))

  all_right : (xs ys : List X) → All Holds (xs ++ ys) → All Holds ys
  all_right [] ys all = all
  all_right (x ∷ xs) ys all = all_right xs ys (All-tail Holds x (xs ++ ys) all)

still_none : (mine : Bool) (s : Standing) (t u : Ticket) → (not mine && is_outstanding s u) ≡ false
    → (not mine && is_outstanding (after s t) u) ≡ false
still_none true s t u none = refl
still_none false s t u none = stays_gone s t u none

is_found : (mine out : Bool) → (not mine && out) ≡ true → out ≡ true
is_found true out e = absurd (cc)
is_found false out e = e

alike_then : (s m n : Standing) (u : Ticket) → IsReportedAlike s m u → IsReportedAlike m n u
    → IsReportedAlike s n u
alike_then s m n u first then = record {
  collect = then.collect ∙ first.collect;
  withdraw = then.withdraw ∙ first.withdraw;
  cancel = then.cancel ∙ first.cancel;
}

module _ {P : Type 0} (facts : PortFacts P) where
  open facts use {standing, own, abandons}

  -- one ticket more is abandoned
  module _ (p q : P) (t : Ticket) (stands : standing q ≡ after (standing p) t) where
    pub fewer_left : awaits_client facts p t ≡ true
        → left_over (standing q) < left_over (standing p)
    fewer_left found = rw stands
        (fewer (standing p) t (is_found (own p t) (is_outstanding (standing p) t) found))

    pub stays_out : (u : Ticket) → own q u ≡ own p u → IsGone facts p u → IsGone facts q u
    stays_out u mine none = rw (stands, mine) (still_none (own p u) (standing p) t u none)

    pub alike_too : (s : Standing) (u : Ticket) → same_ticket t u ≡ false
        → IsReportedAlike s (standing p) u → IsReportedAlike s (standing q) u
    alike_too s u apart first = rw stands
        (alike_then s (standing p) (after (standing p) t) u first
        (reported_alike (standing p) t u apart))

  -- no ticket
  pub none_left : (p : P) → LeavesNone facts p [] p
  none_left p = record {
    abandoned = [];
    among = All-nil (Contains []);
    calls = refl;
    gone = All-nil (IsGone facts p);
    still = λ other none. none;
    others = λ other apart. record { collect = refl; withdraw = refl; cancel = refl };
    counts = λ count has. has;
  }

  -- those of a list, and then those of another
  pub both_left : (p q r : P) (ts us : List Ticket) → LeavesNone facts p ts q
      → LeavesNone facts q us r → LeavesNone facts p (ts ++ us) r
  both_left p q r ts us first then = record {
    abandoned = first.abandoned ++ then.abandoned;
    among = All-append (Contains (ts ++ us)) first.abandoned then.abandoned
        (λ k d below. Contains-append_left ts us _ (first.among k d below))
        (λ k d below. Contains-append_right ts us _ (then.among k d below));
    calls = folds-append abandons p first.abandoned q then.abandoned r first.calls then.calls;
    gone = All-append (IsGone facts r) ts us
        (λ k d below. then.still _ (first.gone k d below))
        then.gone;
    still = λ other none. then.still other (first.still other none);
    others = λ other apart. alike_then (standing p) (standing q) (standing r) other
        (first.others other
        (all_left (λ t. same_ticket t other ≡ false) ts us apart))
        (then.others other (all_right (λ t. same_ticket t other ≡ false) ts us apart));
    counts = λ count has. then.counts count (first.counts count has);
  }

  -- the next ticket of a list
  pub next_left : (p q r : P) (ts : List Ticket) (i : ℕ) (d : Ticket) → i < length ts
      → LeavesNone facts p (take i ts) q → LeavesNone facts q (get_or ts i d ∷ []) r
      → LeavesNone facts p (take (i + 1) ts) r
  next_left p q r ts i d below first then =
      rw (take_more ts i d below) (both_left p q r (take i ts) (get_or ts i d ∷ []) first then)
