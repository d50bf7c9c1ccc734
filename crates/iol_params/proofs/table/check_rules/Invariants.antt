-- What each round of a loop of `table::check_rules` keeps.
use Rattle.std.proofs.Common.{◌≡◌, drop}
use Rattle.iol_params.specs.Table.{rules_fault}
use Rattle.iol_params.proofs.table.check_rules.Given as goal

abbrev pub invariant-loop-row : goal.invariant-loop-row
invariant-loop-row l = rules_fault l.members l.row (drop l.row l.rules)
    ≡ rules_fault l.members 0 l.rules
