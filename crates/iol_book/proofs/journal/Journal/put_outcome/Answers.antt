-- What the search can't prove of the body of `Journal::put_outcome`.
use Rattle.std.proofs.Common.{◌≡◌, None, Some, arith, refl, sym}
use Rattle.std.specs.Prelude.{slice_get}
use Rattle.std.proofs.lemmas.Grind.{common_steps}
use Rattle.iol_book.proofs.JournalLemmas.{octets-within, data-within, entry-got, entry-none, no_outcome-with}
use Rattle.iol_book.proofs.journal.Journal.put_outcome.Goals as goal

pub octets_at-requires : goal.octets_at-requires
octets_at-requires g c =
    let got : slice_get c.self.inside.lines.items c.args.place ≡ Some c.in-Some.line =
    grind (arith, common_steps) in
    rw c.as_slice.ensures (octets-within c.self.inside.lines.items
    c.self.inside.octets.items c.self.invariant c.args.place c.in-Some.line got)

pub put-requires : goal.put-requires
put-requires g c =
    let got : slice_get c.self.inside.lines.items c.args.place ≡ Some c.in-Some.line =
    grind (arith, common_steps) in
    rw (c.octets_at.ensures, c.as_slice.ensures)
    (data-within c.self.inside.lines.items c.self.inside.octets.items c.self.invariant
    c.args.place c.in-Some.line got)

pub returns-in-Answered : goal.returns-in-Answered
returns-in-Answered g c =
    let got : slice_get c.self.inside.lines.items c.args.place ≡ Some c.in-Some.line =
    grind (arith, common_steps) in
    let entry = entry-got c.self.inside.lines.items c.self.inside.octets.items c.args.place
    c.in-Some.line got in
    rw (
      ← c.self.view_is,
      entry,
      c.put.ensures,
      c.octets_at.ensures,
      c.as_slice.ensures,
      c.in-Answered.is,
    ) refl

pub returns-in_default : goal.returns-in_default
returns-in_default g c =
    let got : slice_get c.self.inside.lines.items c.args.place ≡ Some c.in-Some.line =
    grind (arith, common_steps) in
    let entry = entry-got c.self.inside.lines.items c.self.inside.octets.items c.args.place
    c.in-Some.line got in
    rw (← c.self.view_is, entry) (sym (no_outcome-with c.in-Some.line.form c.in-Some.line.ticket _
    c.in_default.not-Answered))

pub returns-in-None : goal.returns-in-None
returns-in-None g c =
    let got : slice_get c.self.inside.lines.items c.args.place ≡ None =
    grind (arith, common_steps) in
    rw (
      ← c.self.view_is,
      entry-none c.self.inside.lines.items c.self.inside.octets.items
          c.args.place got,
    ) refl
