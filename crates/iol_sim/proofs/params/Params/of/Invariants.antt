-- What each round of a loop of `Params::of` keeps.
use Rattle.std.proofs.Common.{◌≡◌, take}
use Rattle.iol_sim.proofs.params.Params.of.Given as goal

abbrev pub invariant-loop-entry : goal.invariant-loop-entry
invariant-loop-entry l = l.params-inside.entries.items ≡ take l.entry-index l.entries
