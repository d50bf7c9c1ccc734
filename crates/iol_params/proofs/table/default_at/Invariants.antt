-- What each round of a loop of `table::default_at` keeps.
use Rattle.std.proofs.Common.{◌≡◌, ◌++◌, drop}
use Rattle.iol_params.specs.Values.{value_at, defaults}
use Rattle.iol_params.proofs.table.default_at.Given as goal

abbrev pub invariant-loop-member : goal.invariant-loop-member
invariant-loop-member l = l.value.items
    ++ value_at (drop l.member-index l.members) (defaults (drop l.member-index l.members)) l.place
    ≡ value_at l.members (defaults l.members) l.place
