-- What each round of a loop of `storage::list_size` keeps.
use Rattle.std.proofs.Common.{◌≡◌, ◌+◌, ◌*◌, ◌≤◌, drop, length}
use Rattle.iol_params.specs.Table.{index_list}
use Rattle.iol_params.proofs.storage.list_size.Given as goal

abbrev pub invariant-loop-member : goal.invariant-loop-member
invariant-loop-member l = record {
  so_far : l.size + length (index_list (drop l.member-index l.members))
      ≡ 2 + length (index_list l.members);
  bound : l.size ≤ 2 + 3 * l.member-index;
}
