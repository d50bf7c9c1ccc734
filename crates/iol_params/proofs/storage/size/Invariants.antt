-- What each round of a loop of `storage::size` keeps.
use Rattle.std.proofs.Common.{◌≡◌, ◌+◌, ◌*◌, ◌≤◌, drop}
use Rattle.iol_params.specs.Table.{set_size}
use Rattle.iol_params.proofs.storage.size.Given as goal

abbrev pub invariant-loop-member : goal.invariant-loop-member
invariant-loop-member l = record {
  so_far : l.size + set_size l.members (drop l.member-index l.members)
      ≡ set_size l.members l.members;
  bound : l.size ≤ 236 * l.member-index;
}
