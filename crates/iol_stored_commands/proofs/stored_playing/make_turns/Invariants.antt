-- What each round of a loop of `stored_playing::make_turns` keeps.
use Rattle.std.proofs.Common.{[], map, replicate}
use Rattle.iol_port.specs.declared.call.Call.TheVariants.{Turn}
use Rattle.iol_stored_commands.specs.StoredPlayed.{Plain, StoredPlays}
use Rattle.iol_stored_commands.proofs.stored_playing.make_turns.Given as goal

abbrev pub invariant-loop : goal.invariant-loop
invariant-loop g l =
    StoredPlays g.W.Wire.facts l.fn.port (map Plain (replicate l.counter Turn)) l.port []
