-- What the search can't prove of the body of `playing::play_lines`.
use Rattle.std.proofs.Common.{◌≡◌, [], ◌++◌, refl, sym, append-nil, append_assoc, rules}
use Rattle.iol_port.specs.View.{over}
use Rattle.iol_script.specs.Script.{line_calls}
use Rattle.iol_script.specs.Text.{numbered_lines, lines_left}
use Rattle.iol_commands.proofs.PrintedLemmas.{behind}
use Rattle.iol_commands.proofs.PlayLemmas.{plays_none, port_plays_join, calls_in-first}
use Rattle.iol_commands.proofs.playing.play_lines.Goals as goal

pub loop-line-init : goal.loop-line-init
loop-line-init g c =
    let same : numbered_lines c.args.input.now ≡ lines_left c.into_iter-line-iterator.result =
    search rules in
    ([], [], rw same refl, sym (append-nil _), plays_none g.W.Wire.facts (over c.args.port.now))

pub loop-line-preserved-in-Call-1 : goal.loop-line-preserved-in-Call-1
loop-line-preserved-in-Call-1 g c =
    let (done, text, are, before, so_far) = c.loop-line.invariant in
    let (later, wrote, more) = c.in_ok-play_line.ensures in
    let call = c.in-Some-Call.call in
    let first = calls_in-first _ _ _ _ call c.in-Some.ensures.steps (search rules) in (
      done ++ line_calls call,
      text ++ later,
      rw (are, first) (simp append_assoc),
      behind _ _ _ _ _ before wrote,
      port_plays_join g.W.Wire.facts c.runs_join.ensures.runs _ _ _ _ _ _ _ so_far more,
    )
