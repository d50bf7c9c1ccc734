-- What each round of a loop of `honest::a_claimed_line_meets_its_premise` keeps.
use Rattle.std.proofs.Common.{◌≡◌}
use Rattle.iol_port_tests.proofs.honest.a_claimed_line_meets_its_premise.Given as goal

abbrev pub invariant-loop-turn : goal.invariant-loop-turn
invariant-loop-turn g l = l.port.at.far ≡ l.device.far
