-- What each round of a loop of `playing::turns_of` keeps.
use Rattle.std.proofs.Common.{◌≡◌, replicate}
use Rattle.iol_port.specs.declared.call.Call.TheVariants.{Turn}
use Rattle.iol_commands.proofs.playing.turns_of.Given as goal

abbrev pub invariant-loop : goal.invariant-loop
invariant-loop g l = l.turns.items ≡ replicate l.counter Turn
