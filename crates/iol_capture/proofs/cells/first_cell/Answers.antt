-- The clauses of `cells::first_cell` that the search can't prove.
use Rattle.std.proofs.Common.{◌==◌, sym}
use Rattle.std.proofs.lemmas.List.{take_rest}
use Rattle.iol_capture.proofs.Cutting.{cell_at, last_cell}
use Rattle.iol_capture.proofs.cells.first_cell.Goals as goal

pub returns-in-Some-clause-parts : goal.returns-in-Some-clause-parts
returns-in-Some-clause-parts c =
    rw take_rest (cell_at (λ b. b == 44) c.args.row.now c.in-Some.place (sym c.in-Some.ensures))

pub returns-in-None-clause-parts : goal.returns-in-None-clause-parts
returns-in-None-clause-parts c =
    last_cell (λ b. b == 44) c.args.row.now (sym c.in-None.ensures)
