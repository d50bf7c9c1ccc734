-- What each round of a loop of `cells::room_for` keeps.
use Rattle.std.proofs.Common.{◌≡◌, ◌+◌, ◌*◌, ◌≤◌, drop}
use Rattle.iol_params.specs.Values.{room_for}
use Rattle.iol_params.proofs.cells.room_for.Given as goal

abbrev pub invariant-loop-member : goal.invariant-loop-member
invariant-loop-member l = record {
  so_far : l.room + room_for (drop l.member-index l.members) ≡ room_for l.members;
  bound : l.room ≤ 256 * l.member-index;
}
