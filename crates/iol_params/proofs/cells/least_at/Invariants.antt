-- What each round of a loop of `cells::least_at` keeps.
use Rattle.std.proofs.Common.{◌≡◌, ◌+◌, ◌*◌, ◌≤◌, drop}
use Rattle.iol_params.specs.Values.{least_at}
use Rattle.iol_params.proofs.cells.least_at.Given as goal

abbrev pub invariant-loop-member : goal.invariant-loop-member
invariant-loop-member l = record {
  so_far : l.least + least_at (drop l.member-index l.members) l.place ≡ least_at l.members l.place;
  bound : l.least ≤ 256 * l.member-index;
}
