-- What each round of a loop of `cells::all_fit` keeps.
use Rattle.std.proofs.Common.{◌≡◌, ◌≤◌, length, drop}
use Rattle.iol_params.specs.Values.{all_fit, room_for, values_in}
use Rattle.iol_params.proofs.cells.all_fit.Given as goal

abbrev pub invariant-loop-member : goal.invariant-loop-member
invariant-loop-member l = record {
  room : room_for (drop l.member-index l.members) ≤ length l.cells;
  so_far : all_fit (drop l.member-index l.members)
      (values_in (drop l.member-index l.members) l.cells)
      ≡ all_fit l.members (values_in l.members l.initial.cells);
}
