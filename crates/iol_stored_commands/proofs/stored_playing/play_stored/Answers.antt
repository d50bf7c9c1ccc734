-- What the search can't prove of the body of `stored_playing::play_stored`.
use Rattle.std.proofs.Common.{◌++◌, append_assoc}
use Rattle.iol_script.specs.RunLines.{run_form}
use Rattle.iol_stored_script.specs.StorageLines.{storage_form}
use Rattle.iol_print.proofs.PrintedLemmas.{behind}
use Rattle.iol_stored_commands.specs.StoredPlayed.{line_stored_calls}
use Rattle.iol_stored_commands.proofs.PlayedLemmas.{stored_plays_join}
use Rattle.iol_stored_commands.proofs.stored_playing.play_stored.Goals as goal

pub loop-line-preserved : goal.loop-line-preserved
loop-line-preserved g c =
    let (done, text, are, before, so_far) = c.loop-line.invariant in
    let (later, wrote, more) = c.in_ok-play_line.ensures in
    let line = c.in-Some.line.now in (
      done ++ line_stored_calls (storage_form line) (run_form line),
      text ++ later,
      rw (are, c.in-Some.ensures.steps) (simp append_assoc),
      behind _ _ _ _ _ before wrote,
      stored_plays_join g.W.Wire.facts _ _ _ _ _ _ _ so_far more,
    )
