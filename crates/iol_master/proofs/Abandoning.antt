-- What tickets that are abandoned leave of where the others stand.
-- For the clauses of `tickets::abandon` and `tickets::abandon_each`.
use Rattle.std.proofs.Common.{◌≡◌, ℕ, ◌+◌, ◌<◌, ◌≤◌, true, false, ◌||◌, ◌&&◌, cond, refl, ap, arith, List, [], ◌∷◌, ◌++◌, Option, Some, None, is_some, length}
use Rattle.std.specs.Prelude.{not}
use Rattle.std.specs.List.{FoldsTo}
use Rattle.std.specs.Map.{lookup}
use Rattle.std.proofs.lemmas.Grind.{common_steps}
use Rattle.iol_isdu.specs.declared.values.Request.{Request}
use Rattle.iol_book.specs.declared.entries.Ticket.{Ticket}
use Rattle.iol_book.specs.declared.entries.Entry.TheVariants.{Abandoned}
use Rattle.iol_book.specs.Replay.{Standing, standing_after, same_ticket, is_among, is_taken, without, others_without}
use Rattle.iol_book.specs.BookModel.{is_awaited, has_outcome, is_outstanding}
use Rattle.iol_book.specs.Abandoning.{IsReportedAlike}

module _ {X : Type 0} (t : Ticket) where
  -- a list has no more without a ticket
  without-few : (ws : List (Ticket × X)) → length (without t ws) ≤ length ws
  without-few [] = grind (arith, common_steps)
  without-few (w ∷ ws) = grind (arith, common_steps, without-few ws)

  -- and fewer where that is in it
  without-fewer : (ws : List (Ticket × X)) → is_among t ws ≡ true
      → length (without t ws) < length ws
  without-fewer [] found = grind (arith, common_steps)
  without-fewer (w ∷ ws) found = grind (arith, common_steps, without-fewer ws)

  -- and no ticket comes to it
  without-none : (u : Ticket) (ws : List (Ticket × X)) → is_among u ws ≡ false
      → is_among u (without t ws) ≡ false
  without-none u [] none = none
  without-none u (w ∷ ws) none = grind (arith, common_steps, without-none u ws)

  -- nor does another leave it
  without-other : (u : Ticket) → same_ticket t u ≡ false → (ws : List (Ticket × X))
      → lookup (same_ticket u) (without t ws) ≡ lookup (same_ticket u) ws
  without-other u apart [] = refl
  without-other u apart (w ∷ ws) = grind (arith, common_steps, without-other u apart ws)

-- how many tickets may still be abandoned, at most
abbrev pub left_over : Standing → ℕ
left_over s = length s.urgent + length s.waiting + length s.outcomes + cond s.abandoned 0 1

abbrev pub after : Standing → Ticket → Standing
after s t = standing_after s (Abandoned t)

module _ (s : Standing) (t : Ticket) where
  among-rest : {X : Type 0} (u : Ticket) (us ws : List (Ticket × X)) → is_among u ws ≡ false
      → is_among u (others_without t us ws) ≡ false
  among-rest u us ws none = elim (is_among t us) as
      (λ b. is_among u (cond b ws (without t ws)) ≡ false)
      [ true ↦ none | false ↦ without-none t u ws none ]

  awaited-none : (u : Ticket) → is_awaited s u ≡ false → is_awaited (after s t) u ≡ false
  awaited-none u none = elim (is_taken s t) as
      (λ b. (is_taken s u && not (s.abandoned || b)) ≡ false) [
        | true ↦ grind (arith, common_steps)
        | false ↦ grind (arith, common_steps)
      ]

  -- one that is outstanding no more stays so
  pub stays_gone : (u : Ticket) → is_outstanding s u ≡ false → is_outstanding (after s t) u ≡ false
  stays_gone u none =
      let urgent : is_among u s.urgent ≡ false = grind (arith, common_steps) in
      let waiting : is_among u s.waiting ≡ false = grind (arith, common_steps) in
      let awaited : is_awaited s u ≡ false = grind (arith, common_steps) in
      let ended : has_outcome s u ≡ false = grind (arith, common_steps) in
      rw (
        without-none t u s.urgent urgent,
        among-rest u s.urgent s.waiting waiting,
        awaited-none u awaited,
        without-none t u s.outcomes ended,
      ) refl

  among-other : {X : Type 0} (u : Ticket) → same_ticket t u ≡ false → (ws : List (Ticket × X))
      → is_among u (without t ws) ≡ is_among u ws
  among-other u apart ws = ap is_some (without-other t u apart ws)

  among-others : {X : Type 0} (u : Ticket) → same_ticket t u ≡ false → (us ws : List (Ticket × X))
      → is_among u (others_without t us ws) ≡ is_among u ws
  among-others u apart us ws = elim (is_among t us) as
      (λ b. is_among u (cond b ws (without t ws)) ≡ is_among u ws)
      [ true ↦ refl | false ↦ among-other u apart ws ]

  -- what is told of another is the same
  pub reported_alike : (u : Ticket) → same_ticket t u ≡ false → IsReportedAlike s (after s t) u
  reported_alike u apart =
      let urgent = among-other u apart s.urgent in
      let waiting = among-others u apart s.urgent s.waiting in
      let awaited = awaited-other s.taken in
      let outcome = without-other t u apart s.outcomes in
      record {
        collect = rw (urgent, waiting, awaited, outcome) refl;
        withdraw = rw (urgent, waiting, awaited, outcome) refl;
        cancel = rw (urgent, waiting, awaited, outcome) refl;
      }
    where
      awaited-other : (taken : Option (Ticket × Request))
          → is_awaited (after (record s { taken = taken }) t) u
          ≡ is_awaited (record s { taken = taken }) u
      awaited-other None = refl
      awaited-other (Some p) = grind (arith, common_steps)

  -- one that is outstanding leaves fewer
  pub fewer : is_outstanding s t ≡ true → left_over (after s t) < left_over s
  fewer found = grind (
    arith,
    common_steps,
    without-few t s.urgent,
    without-few t s.waiting,
    without-few t s.outcomes,
    without-fewer t s.urgent,
    without-fewer t s.waiting,
    without-fewer t s.outcomes,
  )

module _ {P : Type 0} (R : P → Ticket → P → Type 0) where
  pub folds-append : (p : P) (ts : List Ticket) (q : P) (us : List Ticket) (r : P)
      → FoldsTo R p ts q → FoldsTo R q us r → FoldsTo R p (ts ++ us) r
  folds-append p [] q us r first then = rw first then
  folds-append p (t ∷ ts) q us r first then =
      (first.0, first.1, folds-append first.0 ts q us r first.2 then)
