-- What the search can't prove of the body of `playing::play_turns`.
use Rattle.std.proofs.Common.{[], ◌++◌, sym, append-nil, arith}
use Rattle.std.proofs.lemmas.List.{take-replicate, replicate-append-replicate}
use Rattle.iol_port.specs.View.{over}
use Rattle.iol_port.specs.declared.call.Call.TheVariants.{Turn}
use Rattle.iol_commands.specs.declared.playing.TheConstants.{PIECE}
use Rattle.iol_commands.proofs.PrintedLemmas.{behind}
use Rattle.iol_commands.proofs.PlayLemmas.{plays_none, port_plays_join}
use Rattle.iol_commands.proofs.playing.play_turns.Goals as goal

pub loop-made-init : goal.loop-made-init
loop-made-init g c = record {
  within = omega arith;
  played = ([], sym (append-nil _), plays_none g.W.Wire.facts (over c.args.port.now));
}

pub loop-made-preserved : goal.loop-made-preserved
loop-made-preserved g c =
    let (text, before, so_far) = c.loop-made.invariant.played in
    let (later, wrote, more) = c.in_ok-play.ensures in
    let turns = take-replicate c.min-piece.result PIECE Turn (omega arith) in
    record {
      within = omega arith;
      played = (
        text ++ later,
        behind _ _ _ _ _ before wrote,
        rw replicate-append-replicate at (port_plays_join g.W.Wire.facts c.runs_join.ensures.runs
            _ _ _ _ _ _ _ so_far (rw (c.requires, turns) at more)),
      );
    }
