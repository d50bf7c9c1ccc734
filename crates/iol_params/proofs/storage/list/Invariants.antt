-- What each round of a loop of `storage::list` keeps.
use Rattle.std.proofs.Common.{◌≡◌, ◌++◌, drop}
use Rattle.iol_params.specs.Table.{index_list}
use Rattle.iol_params.proofs.storage.list.Given as goal

abbrev pub invariant-loop-member : goal.invariant-loop-member
invariant-loop-member l =
    l.list.items ++ index_list (drop l.member-index l.member-items) ≡ index_list l.table.members
