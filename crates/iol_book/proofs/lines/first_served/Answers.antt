-- The clauses of `lines::first_served` that the search can't prove.
use Rattle.std.proofs.Common.{◌≡◌, ◌<◌, ℕ, Some, length, refl, sym, ◌∙◌, arith}
use Rattle.std.specs.Prelude.{find, slice_get}
use Rattle.std.proofs.lemmas.Option.{slice_get_read}
use Rattle.std.proofs.lemmas.Grind.{common_steps}
use Rattle.iol_book.specs.declared.entries.Ticket.{Ticket}
use Rattle.iol_book.specs.BookModel.{is_served}
use Rattle.iol_book.proofs.LineLemmas.{found-place, place-within, none-found}
use Rattle.iol_book.proofs.lines.first_served.Goals as goal

pub returns : goal.returns
returns g c =
    let place : c.served_at.result ≡ Some c.in_ok-place.place = grind (arith, common_steps) in
    let found : find (λ (w : Ticket × ℕ). is_served c.args.serve w.0) c.args.queue.now.items
    ≡ slice_get c.args.queue.now.items c.in_ok-place.place =
    found-place (λ w. is_served c.args.serve w.0) c.args.queue.now.items
    (Some c.in_ok-place.place) (sym place ∙ c.served_at.ensures) in
    let within : c.in_ok-place.place < length c.args.queue.now.items =
    place-within (λ w. is_served c.args.serve w.0) c.args.queue.now.items
    (Some c.in_ok-place.place) (sym place ∙ c.served_at.ensures) in
    let line : c.get.result ≡ Some c.in_ok-line.line = grind (arith, common_steps) in
    sym (found ∙ slice_get_read c.args.queue.now.items (length c.args.queue.now.items)
    c.in_ok-place.place c.in_ok-line.line.now refl within (rw line at c.get.ensures.lookup))

pub returns-in_err-line : goal.returns-in_err-line
returns-in_err-line g c = grind (
  arith,
  common_steps,
  found-place
      (λ w. is_served c.args.serve w.0) c.args.queue.now.items c.served_at.result
      c.served_at.ensures,
)

pub returns-in_err-place : goal.returns-in_err-place
returns-in_err-place g c = grind (
  arith,
  common_steps,
  none-found
      (λ w. is_served c.args.serve w.0) c.args.queue.now.items c.served_at.result
      c.served_at.ensures,
)
