-- What each round of a loop of `cells::read_into` keeps.
use Rattle.std.proofs.Common.{◌≡◌, ◌≤◌, ◌++◌, length, drop}
use Rattle.iol_params.specs.Values.{value_at, room_for, values_in}
use Rattle.iol_params.proofs.cells.read_into.Given as goal

abbrev pub invariant-loop-member : goal.invariant-loop-member
invariant-loop-member l = record {
  room : room_for (drop l.member-index l.members) ≤ length l.cells;
  so_far : l.value.items ++ value_at (drop l.member-index l.members)
      (values_in (drop l.member-index l.members) l.cells) l.place
      ≡ value_at l.members (values_in l.members l.initial.cells) l.place;
}
