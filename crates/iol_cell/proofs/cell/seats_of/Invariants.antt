-- What each round of a loop of `cell::seats_of` keeps.
use Rattle.std.proofs.Common.{◌≡◌, All, vec_len}
use Rattle.std.specs.Arc.{arc_value}
use Rattle.crossbeam_utils.specs.Seq.{cell_view}
use Rattle.iol_cell.proofs.cell.seats_of.Given as goal

abbrev pub invariant-loop : goal.invariant-loop
invariant-loop g l =
    (vec_len l.seats ≡ l.counter)
    × All (λ seat. seat ≡ record {
      cell = l.initial.writer-inside.pass.table_id;
      images = (cell_view l.initial.writer-inside.pass).observed;
    }) l.seats.items
    × (l.writer-inside.pass.table_id ≡ (arc_value l.writer-inside.cell).table.shared.table_id)
    × (l.writer-inside.pass.table_id ≡ l.initial.writer-inside.pass.table_id)
    × (cell_view l.writer-inside.pass ≡ cell_view l.initial.writer-inside.pass)
