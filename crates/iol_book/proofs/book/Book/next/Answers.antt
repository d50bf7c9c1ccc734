-- What the search can't prove of the body of `Book::next`.
use Rattle.std.proofs.Common.{◌≡◌, ◌++◌, Option, None, Some, ap, sym, ◌∙◌}
use Rattle.std.specs.Option.{option_map}
use Rattle.iol_isdu.specs.declared.values.Request.{Request}
use Rattle.iol_book.specs.declared.entries.Ticket.{Ticket}
use Rattle.iol_book.proofs.LineLemmas.{entry_steps, served_in, found-request}
use Rattle.iol_book.proofs.SoundLemmas.{next-line}
use Rattle.iol_book.proofs.book.Book.next.Goals as goal

pub returns-in_err-line : goal.returns-in_err-line
returns-in_err-line g c =
    let none = next-line c.self.inside None (grind entry_steps) (grind entry_steps) in
    let left : c.from_residual.result ≡ None = grind entry_steps in
    rw (← c.self.view_is)
    (left ∙ ap (λ (o : Option (Ticket × Request)). option_map (λ t. t.1) o) (sym none))

pub put_request-requires : goal.put_request-requires
put_request-requires g c =
    let found : served_in c.self.inside.serve
    (c.self.inside.urgent.items ++ c.self.inside.waiting.items)
    ≡ Some (c.in_ok-line.field-0-0, c.in_ok-line.line) = grind entry_steps in
    found-request c.self.inside.serve c.self.inside.journal.items c.self.inside.urgent.items
    c.self.inside.waiting.items _ found c.self.invariant.lines.urgent_requests
    c.self.invariant.lines.waiting_requests

pub returns : goal.returns
returns g c =
    let found : served_in c.self.inside.serve
    (c.self.inside.urgent.items ++ c.self.inside.waiting.items)
    ≡ Some (c.in_ok-line.field-0-0, c.in_ok-line.line) = grind entry_steps in
    let some = next-line c.self.inside (Some (c.in_ok-line.field-0-0, c.in_ok-line.line))
    (grind entry_steps) (sym found) in
    rw (← c.self.view_is, c.put_request.ensures)
    (ap (λ (o : Option (Ticket × Request)). option_map (λ t. t.1) o) (sym some))
