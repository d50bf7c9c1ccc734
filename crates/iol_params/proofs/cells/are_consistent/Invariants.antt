-- What each round of a loop of `cells::are_consistent` keeps.
use Rattle.std.proofs.Common.{◌≡◌, drop}
use Rattle.iol_params.specs.Values.{values_in}
use Rattle.iol_params.specs.Carry.{rules_hold}
use Rattle.iol_params.proofs.cells.are_consistent.Given as goal

abbrev pub invariant-loop-rule : goal.invariant-loop-rule
invariant-loop-rule l = rules_hold l.table.members (drop l.rule-index l.rule-items)
    (values_in l.table.members l.cells)
    ≡ rules_hold l.table.members l.table.rules (values_in l.table.members l.cells)
