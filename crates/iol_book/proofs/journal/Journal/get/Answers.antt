-- What the search can't prove of the body of `Journal::get`.
use Rattle.std.proofs.Common.{◌≡◌, Some, sym, arith}
use Rattle.std.specs.Prelude.{slice_get}
use Rattle.std.proofs.lemmas.Grind.{common_steps}
use Rattle.iol_book.proofs.JournalLemmas.{octets-within, data-within, entry-got}
use Rattle.iol_book.proofs.journal.Journal.get.Goals as goal

pub octets_at-requires : goal.octets_at-requires
octets_at-requires g c =
    let got : slice_get c.self.inside.lines.items c.args.place ≡ Some c.in_ok-line.line =
    grind (arith, common_steps) in
    rw c.as_slice.ensures (octets-within c.self.inside.lines.items
    c.self.inside.octets.items c.self.invariant c.args.place c.in_ok-line.line got)

pub with-requires : goal.with-requires
with-requires g c =
    let got : slice_get c.self.inside.lines.items c.args.place ≡ Some c.in_ok-line.line =
    grind (arith, common_steps) in
    rw (c.octets_at.ensures, c.as_slice.ensures) (data-within c.self.inside.lines.items
    c.self.inside.octets.items c.self.invariant c.args.place c.in_ok-line.line got)

pub returns : goal.returns
returns g c =
    let got : slice_get c.self.inside.lines.items c.args.place ≡ Some c.in_ok-line.line =
    grind (arith, common_steps) in
    let entry = entry-got c.self.inside.lines.items c.self.inside.octets.items c.args.place
    c.in_ok-line.line got in
    rw (← c.self.view_is, c.with.ensures, c.octets_at.ensures, c.as_slice.ensures)
    (sym entry)
