-- The clauses of `opened::cut_line` that the search can't prove.
use Rattle.std.proofs.lemmas.List.{take_rest}
use Rattle.iol_capture.proofs.ReadLemmas.{cut_at, uncut}
use Rattle.iol_capture.proofs.opened.cut_line.Goals as goal

pub returns-in_err-place : goal.returns-in_err-place
returns-in_err-place c =
    rw c.from_residual.ensures (uncut c.args.text.now c.in_err-place.ensures)

pub returns : goal.returns
returns c = rw take_rest (cut_at c.args.text.now c.in_ok-place.place c.in_ok-place.ensures)
