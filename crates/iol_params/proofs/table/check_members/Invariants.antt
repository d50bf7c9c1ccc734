-- What each round of a loop of `table::check_members` keeps.
use Rattle.std.proofs.Common.{◌≡◌, [], take, drop}
use Rattle.iol_params.specs.Table.{members_fault}
use Rattle.iol_params.proofs.table.check_members.Given as goal

abbrev pub invariant-loop-row : goal.invariant-loop-row
invariant-loop-row l = members_fault l.members (take l.row l.members) l.row (drop l.row l.members)
    ≡ members_fault l.members [] 0 l.members
