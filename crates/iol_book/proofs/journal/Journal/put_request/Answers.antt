-- What the search can't prove of the body of `Journal::put_request`.
use Rattle.std.proofs.Common.{◌≡◌, Some, arith, sym}
use Rattle.std.specs.Prelude.{slice_get}
use Rattle.std.proofs.lemmas.Grind.{common_steps}
use Rattle.iol_book.proofs.JournalLemmas.{octets-within, data-within, entry-got, request-with}
use Rattle.iol_book.proofs.journal.Journal.put_request.Goals as goal

pub octets_at-requires : goal.octets_at-requires
octets_at-requires g c =
    let got : slice_get c.self.inside.lines.items c.args.place ≡ Some c.in-Some.line =
    grind (arith, common_steps) in
    rw c.as_slice.ensures (octets-within c.self.inside.lines.items
    c.self.inside.octets.items c.self.invariant c.args.place c.in-Some.line got)

pub put-requires : goal.put-requires
put-requires g c =
    let got : slice_get c.self.inside.lines.items c.args.place ≡ Some c.in-Some.line =
    grind (arith, common_steps) in
    rw (c.octets_at.ensures, c.as_slice.ensures) (data-within c.self.inside.lines.items
    c.self.inside.octets.items c.self.invariant c.args.place c.in-Some.line got)

pub returns : goal.returns
returns g c =
    let got : slice_get c.self.inside.lines.items c.args.place ≡ Some c.in-Some.line =
    grind (arith, common_steps) in
    let entry = entry-got c.self.inside.lines.items c.self.inside.octets.items c.args.place
    c.in-Some.line got in
    rw (← c.self.view_is, entry, c.put.ensures, c.octets_at.ensures, c.as_slice.ensures)
    (sym (request-with c.in-Some.line.form c.in-Some-request.form c.in-Some.line.ticket _
    (grind (arith, common_steps))))
