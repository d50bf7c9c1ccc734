-- What each round of a loop of `playing::play_turns` keeps.
use Rattle.std.proofs.Common.{◌-◌, ◌≤◌, replicate}
use Rattle.std.specs.String.{string_bytes}
use Rattle.iol_port.specs.View.{over}
use Rattle.iol_port.specs.declared.call.Call.TheVariants.{Turn}
use Rattle.iol_print.specs.Sink.{Adds}
use Rattle.iol_commands.specs.RunPlayed.{PortPlays}
use Rattle.iol_commands.proofs.playing.play_turns.Given as goal

abbrev pub invariant-loop-made : goal.invariant-loop-made
invariant-loop-made g l = record {
  within : l.made ≤ l.count;
  played : Adds (string_bytes l.fn.output) (string_bytes l.output)
      (PortPlays g.W.Wire.facts (over l.fn.port) (replicate l.made Turn) (over l.port));
}

abbrev pub decreases-loop-made : goal.decreases-loop-made
decreases-loop-made g l = l.count - l.made
