-- What the search can't prove of the body of `Journal::entry_at`.
use Rattle.std.proofs.Common.{◌≡◌, Some, arith, refl}
use Rattle.std.proofs.lemmas.Grind.{common_steps}
use Rattle.std.proofs.lemmas.Option.{slice_get_read}
use Rattle.std.specs.Prelude.{slice_get}
use Rattle.iol_book.proofs.JournalLemmas.{octets-within, data-within}
use Rattle.iol_book.proofs.journal.Journal.entry_at.Goals as goal

pub octets_at-requires : goal.octets_at-requires
octets_at-requires g c =
    let got : slice_get c.self.inside.lines.items c.args.place ≡ Some c.index-line.result.now =
    slice_get_read c.self.inside.lines.items _ c.args.place c.index-line.result.now refl
    (grind (arith, common_steps)) c.index-line.ensures in
    rw c.as_slice.ensures (octets-within c.self.inside.lines.items
    c.self.inside.octets.items c.self.invariant c.args.place c.index-line.result.now got)

pub with-requires : goal.with-requires
with-requires g c =
    let got : slice_get c.self.inside.lines.items c.args.place ≡ Some c.index-line.result.now =
    slice_get_read c.self.inside.lines.items _ c.args.place c.index-line.result.now refl
    (grind (arith, common_steps)) c.index-line.ensures in
    rw (c.octets_at.ensures, c.as_slice.ensures) (data-within c.self.inside.lines.items
    c.self.inside.octets.items c.self.invariant c.args.place c.index-line.result.now got)
