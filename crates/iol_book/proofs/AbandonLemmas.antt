-- What an abandon leaves: the law `abandons_hold`.
-- For the clauses of `laws::abandons_hold`.
use Rattle.std.proofs.Common.{◌≡◌, ℕ, ◌≤◌, Bool, true, false, ◌||◌, ◌&&◌, cond, refl, ap, arith, List, [], ◌∷◌, ◌++◌, Option, Some, None, is_some, nat_eq}
use Rattle.std.specs.Prelude.{not}
use Rattle.std.specs.Map.{lookup}
use Rattle.std.proofs.lemmas.Bool.{eq-eqb}
use Rattle.std.proofs.lemmas.Grind.{common_steps}
use Rattle.iol_isdu.specs.declared.values.Request.{Request}
use Rattle.iol_book.specs.declared.entries.Ticket.{Ticket}
use Rattle.iol_book.specs.declared.entries.Outcome.{Outcome}
use Rattle.iol_book.specs.declared.entries.Entry.{Entry}
use Rattle.iol_book.specs.declared.entries.Entry.TheVariants.{Taken, Abandoned}
use Rattle.iol_book.specs.Replay.{Standing, standing_after, same_ticket, is_among, is_taken, without, others_without}
use Rattle.iol_book.specs.BookModel.{BookState, book_with_entry, waits, is_awaited, has_outcome, abandon_refusal, book_after_post}
use Rattle.iol_book.specs.Drained.{last_taken}
use Rattle.iol_book.specs.Numbers.{times_in, IsNumbered}
use Rattle.iol_book.specs.Abandoning.{IsUnknown, IsReportedAlike, AbandonLeaves, AbandonsHold}
use Rattle.iol_book.proofs.LineLemmas.{remove-absent}
use Rattle.iol_book.proofs.SoundLemmas.{times_in-removed, lookup-none, waiting-alone}

-- one that stands once is gone
gone : {X : Type 0} (t : Ticket) (ws : List (Ticket × X)) → times_in t.0 ws ≤ 1
    → is_among t (without t ws) ≡ false
gone t ws once = by (is_among t ws) refl
  where
    by : (b : Bool) → is_among t ws ≡ b → is_among t (without t ws) ≡ false
    by true is =
        let same : nat_eq t.0 t.0 ≡ true = eq-eqb t.0 t.0 refl in
        let left = times_in-removed t.0 t ws is in
        ap is_some (lookup-none t.0 t (without t ws) (grind (arith, common_steps)))
    by false is = rw (remove-absent (same_ticket t) ws is) is

-- that of another ticket stays
module _ (t k : Ticket) (apart : same_ticket t k ≡ false) where
  lookup-other : {X : Type 0} (ws : List (Ticket × X))
      → lookup (same_ticket k) (without t ws) ≡ lookup (same_ticket k) ws
  lookup-other [] = refl
  lookup-other (w ∷ ws) = grind (arith, common_steps, lookup-other ws)

  among-other : {X : Type 0} (ws : List (Ticket × X))
      → is_among k (without t ws) ≡ is_among k ws
  among-other ws = ap is_some (lookup-other ws)

  among-others : {X : Type 0} (us ws : List (Ticket × X))
      → is_among k (others_without t us ws) ≡ is_among k ws
  among-others us ws = elim (is_among t us) as
      (λ b. is_among k (cond b ws (without t ws)) ≡ is_among k ws)
      [ true ↦ refl | false ↦ among-other ws ]

  awaited-other : (s : Standing) → is_awaited (standing_after s (Abandoned t)) k ≡ is_awaited s k
  awaited-other s = by s.taken
    where
      by : (taken : Option (Ticket × Request))
          → is_awaited (standing_after (record s { taken = taken }) (Abandoned t)) k
          ≡ is_awaited (record s { taken = taken }) k
      by None = refl
      by (Some p) = grind (arith, common_steps)

  reported-other : (s : Standing) → IsReportedAlike s (standing_after s (Abandoned t)) k
  reported-other s =
      let urgent = among-other s.urgent in
      let waiting = among-others s.urgent s.waiting in
      let awaited = awaited-other s in
      let outcome = lookup-other s.outcomes in
      record {
        collect = rw (urgent, waiting, awaited, outcome) refl;
        withdraw = rw (urgent, waiting, awaited, outcome) refl;
        cancel = rw (urgent, waiting, awaited, outcome) refl;
      }

-- a ticket that is nowhere is unknown
nowhere : (s : Standing) (t : Ticket) → waits s t ≡ false → is_awaited s t ≡ false
    → has_outcome s t ≡ false → IsUnknown s t
nowhere s t w a o = record {
  collect = grind (arith, common_steps);
  withdraw = rw (w, a, o) refl;
  cancel = rw (w, a, o) refl;
  abandon = rw (w, a, o) refl;
}

module _ {last : ℕ} (s : Standing) (t : Ticket) (h : IsNumbered last s) where
  waits-not : waits (standing_after s (Abandoned t)) t ≡ false
  waits-not = grind (
    arith,
    common_steps,
    h.once t.0,
    gone t s.urgent,
    gone t s.waiting,
    waiting-alone h t,
    once-each,
  )
    where
      once-each : is_among t s.urgent ≡ true → is_among t s.waiting ≡ false
      once-each found =
          let same : nat_eq t.0 t.0 ≡ true = eq-eqb t.0 t.0 refl in
          let one = times_in-removed t.0 t s.urgent found in
          ap is_some (lookup-none t.0 t s.waiting (grind (arith, common_steps, h.once t.0)))

  awaited-not : is_awaited (standing_after s (Abandoned t)) t ≡ false
  awaited-not = elim (is_taken s t) as (λ b. (b && not (s.abandoned || b)) ≡ false) [
    | true ↦ elim s.abandoned as (λ a. not (a || true) ≡ false) [ true ↦ refl | false ↦ refl ]
    | false ↦ refl
  ]

  outcome-not : has_outcome (standing_after s (Abandoned t)) t ≡ false
  outcome-not = gone t s.outcomes (grind (arith, common_steps, h.once t.0))

-- it says nothing of which request was taken last
last-push : (t : Ticket) (before : Option Ticket) (es : List Entry)
    → last_taken before (es ++ Abandoned t ∷ []) ≡ last_taken before es
last-push t before [] = refl
last-push t before (Taken u ∷ es) = last-push t (Some u) es
last-push t before (_ ∷ es) = last-push t before es

-- the outcome of the one that is taken, once that is abandoned
dropped : (b : BookState) (o : Outcome) → b.standing.abandoned ≡ true
    → is_some b.standing.taken ≡ true
    → (book_after_post b o).standing ≡ record b.standing { taken = None; abandoned = false }
dropped b o is_abandoned found = by b.standing.taken found
  where
    by : (taken : Option (Ticket × Request)) → is_some taken ≡ true
        → (book_after_post (record b { standing = record b.standing { taken = taken } }) o).standing
        ≡ record b.standing { taken = None; abandoned = false }
    by None found = absurd (cc)
    by (Some p) found = rw is_abandoned refl

taken-some : (s : Standing) (t : Ticket) → is_taken s t ≡ true → is_some s.taken ≡ true
taken-some s t found = grind (arith, common_steps)

pub abandons_hold : AbandonsHold
abandons_hold last b t h = by (is_some (abandon_refusal b.standing t)) refl
  where
    s : Standing
    s = b.standing

    by : (r : Bool) → is_some (abandon_refusal s t) ≡ r
        → AbandonLeaves b t (cond r b (book_with_entry b (Abandoned t)))
    by true is = record {
      unknown = nowhere s t (grind (arith, common_steps)) (grind (arith, common_steps))
          (grind (arith, common_steps));
      flight = refl;
      late = λ found o. dropped b o (grind (arith, common_steps)) (taken-some s t found);
      doubt = refl;
      others = λ other apart. record { collect = refl; withdraw = refl; cancel = refl };
    }
    by false is = record {
      unknown = nowhere (standing_after s (Abandoned t)) t (waits-not s t h) (awaited-not s t h)
          (outcome-not s t h);
      flight = refl;
      late = λ found o. dropped (book_with_entry b (Abandoned t)) o
          (rw found (elim s.abandoned as (λ a. (a || true) ≡ true) [ true ↦ refl | false ↦ refl ]))
          (taken-some s t found);
      doubt = rw (last-push t None b.journal) refl;
      others = λ other apart. reported-other t other apart s;
    }
