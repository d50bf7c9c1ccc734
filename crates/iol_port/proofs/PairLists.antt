-- What is said of each pair of a list, as of the outcomes of a book; and how often a number stands
-- among the requests that wait.
-- For the clauses of `PortCore::turn`, `laws::denied_requests_stay_out`,
--     `laws::each_done_has_its_pair` and 11 more.
use Rattle.std.proofs.Common.{◌≡◌, ◌∷◌, ◌++◌, [], List, ℕ, ◌+◌, Bool, true, false, cond, ◌≤◌, nat_eq, Some, arith}
use Rattle.std.proofs.lemmas.Grind.{common_steps}
use Rattle.std.specs.Map.{remove_entry, lookup}
use Rattle.indexmap.specs.IndexMap.{insert_entry}
use Rattle.iol_isdu.specs.declared.values.Request.{Request}
use Rattle.iol_book.specs.declared.entries.Ticket.{Ticket}
use Rattle.iol_book.specs.Numbers.{times_in}
use Rattle.iol_book.specs.Replay.{Standing, same_ticket, without, without_waiting}
use Rattle.iol_book.specs.BookModel.{BookState, next_taken}
use Rattle.iol_book.proofs.SoundLemmas.{times_in-leaves}
use Rattle.iol_port.specs.Sound.{Each}
use Rattle.iol_port.proofs.Replaying.{next_is}

-- What is said of each pair of a list

pub each_removed : {K X : Type 0} (P : K → X → Type 0) (test : K → Bool) (es : List (K × X))
    → Each P es → Each P (remove_entry test es)
each_removed P test [] each = tt
each_removed P test (e ∷ es) each = grind (arith, each_removed P test es)

pub each_more : {K X : Type 0} {P Q : K → X → Type 0} (es : List (K × X))
    → ((k : K) (x : X) → P k x → Q k x) → Each P es → Each Q es
each_more [] more each = tt
each_more (e ∷ es) more each = (more e.0 e.1 each.0, each_more es more each.1)

pub each_push : {K X : Type 0} (P : K → X → Type 0) (es : List (K × X)) (k : K) (x : X) → P k x
    → Each P es → Each P (es ++ (k, x) ∷ [])
each_push P [] k x this each = (this, tt)
each_push P (e ∷ es) k x this each = (each.0, each_push P es k x this each.1)

-- the ticket of that number
pub ticket_is : (t k : Ticket) → same_ticket t k ≡ true → k ≡ t
ticket_is t k e = grind (arith, common_steps)

-- one that is entered for a ticket, and the one that is found for it
pub each_inserted : {X : Type 0} (P : Ticket → X → Type 0) (es : List (Ticket × X)) (t : Ticket)
    (x : X) → P t x → Each P es → Each P (insert_entry same_ticket es t x)
each_inserted P [] t x this each = (this, tt)
each_inserted P (e ∷ es) t x this each =
    grind (arith, common_steps, ticket_is, each_inserted P es t x)

-- one that is entered, unless its ticket was abandoned
pub each_ended : {X : Type 0} (P : Ticket → X → Type 0) (dropped : Bool) (es : List (Ticket × X))
    (t : Ticket) (x : X) → P t x → Each P es
    → Each P (cond dropped es (insert_entry same_ticket es t x))
each_ended P true es t x this each = each
each_ended P false es t x this each = each_inserted P es t x this each

pub each_looked : {X : Type 0} (P : Ticket → X → Type 0) (es : List (Ticket × X)) (t : Ticket)
    (x : X) → lookup (same_ticket t) es ≡ Some x → Each P es → P t x
each_looked P [] t x e each = absurd (cc)
each_looked P (entry ∷ es) t x e each = grind (arith, common_steps, ticket_is, each_looked P es t x)

-- How often a number stands among those that wait

abbrev pub counted : ℕ → ℕ → ℕ
counted n m = cond (nat_eq n m) 1 0

pub waiting_push : (n : ℕ) (ws : List (Ticket × Request)) (w : Ticket × Request)
    → times_in n (ws ++ w ∷ []) ≡ times_in n ws + counted n w.0.0
waiting_push n [] w = grind (arith, common_steps)
waiting_push n (v ∷ ws) w = grind (arith, common_steps, waiting_push n ws w)

waiting_without : (n : ℕ) (t : Ticket) (ws : List (Ticket × Request))
    → times_in n (without t ws) ≤ times_in n ws
waiting_without n t [] = omega arith
waiting_without n t (w ∷ ws) = grind (arith, common_steps, waiting_without n t ws)

abbrev pub waiting_in : ℕ → Standing → ℕ
waiting_in n s = times_in n s.urgent + times_in n s.waiting

pub waiting_left : (n : ℕ) (t : Ticket) (s : Standing)
    → waiting_in n (without_waiting s t) ≤ waiting_in n s
waiting_left n t s = grind (arith, waiting_without n t s.urgent, waiting_without n t s.waiting)

-- the request that is taken next leaves its list
pub waiting_next : (n : ℕ) (b : BookState) (t : Ticket) (q : Request) → next_taken b ≡ Some (t, q)
    → counted n t.0 + waiting_in n (without_waiting b.standing t) ≤ waiting_in n b.standing
waiting_next n b t q next =
    let found = (next_is b t q next).waits in
    omega (arith, times_in-leaves n t b.standing.urgent b.standing.waiting found)
