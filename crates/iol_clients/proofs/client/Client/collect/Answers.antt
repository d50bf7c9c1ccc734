-- What the search can't prove of the body of `Client::collect`.
use Rattle.std.proofs.Common.{◌≡◌, ◌+◌, ◌<◌, ℕ, List, get_or, take, length, refl, arith}
use Rattle.std.specs.Prelude.{Result, Ok}
use Rattle.std.specs.List.{FoldsTo}
use Rattle.iol_book.specs.declared.entries.Outcome.{Outcome}
use Rattle.iol_book.specs.declared.entries.Outcome.TheVariants.{Done}
use Rattle.iol_port.specs.declared.fault.PortFault.{PortFault}
use Rattle.iol_clients.specs.declared.counts.RequestCounts.{RequestCounts}
use Rattle.iol_clients.specs.Counts.{counts_with_ticket, Notes}
use Rattle.iol_clients.proofs.Folds.{folded}
use Rattle.iol_clients.proofs.client.Client.collect.Goals as goal

one_noted : (c : RequestCounts) (answer : Result Outcome PortFault)
    → (counts_with_ticket c answer).tickets ≡ c.tickets + 1
one_noted c (Ok (Done answer)) = refl
one_noted c answer = refl

module _ {P A : Type 0} (R : P → A → P → Type 0) (p q u : P) (xs ys : List A) (i : ℕ)
    (same : ys ≡ xs) where
  one_more : (d : A) → i < length ys → FoldsTo R p (take i xs) q → R q (get_or ys i d) u
      → FoldsTo R p (take (i + 1) xs) u
  one_more d below before step =
      folded xs i (get_or ys i d) d (rw same refl) (rw same at below) p q u R before step

pub loop-ticket-preserved : goal.loop-ticket-preserved
loop-ticket-preserved g c =
    let before = c.loop-ticket.invariant in
    let one : c.note.new.self.tickets ≡ c.loop-ticket.counted.tickets + 1 =
    rw c.note.ensures.noted (one_noted c.loop-ticket.counted c.collect.result) in
    let collect = c.collect.ensures in
    record {
      up = c.note.ensures.up;
      tickets = omega (arith, before.tickets, one);
      noted = one_more Notes _ (c.loop-ticket.held, c.loop-ticket.counted) _ _ _ _
          c.deref-ticket-items.ensures.value _ c.loop-ticket-test.true before.noted (
            c.collect.result,
            record { does = collect.does; gives = collect.gives; rest = collect.rest },
            c.note.ensures.noted,
          );
    }
