-- What each round of a loop of `table::most_at` keeps.
use Rattle.std.proofs.Common.{◌≡◌, ◌+◌, ◌*◌, ◌≤◌, drop}
use Rattle.iol_params.specs.Values.{most_at}
use Rattle.iol_params.proofs.table.most_at.Given as goal

abbrev pub invariant-loop-member : goal.invariant-loop-member
invariant-loop-member l = record {
  so_far : l.most + most_at (drop l.member-index l.members) l.place ≡ most_at l.members l.place;
  bound : l.most ≤ 256 * l.member-index;
}
