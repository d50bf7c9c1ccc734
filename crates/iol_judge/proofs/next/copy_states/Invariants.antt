-- What each round of a loop of `next::copy_states` keeps.
use Rattle.std.proofs.Common.{◌≡◌, take}
use Rattle.iol_judge.proofs.next.copy_states.Given as goal

abbrev pub invariant-loop-state : goal.invariant-loop-state
invariant-loop-state l = l.into.items ≡ take l.state-index l.from
