-- The clauses of `stored_trace::traced_on` that the search can't prove.
use Rattle.std.proofs.Common.{◌≡◌, ◌++◌, ◌∙◌, refl}
use Rattle.std.proofs.lemmas.Result.{on_ok_weaker}
use Rattle.iol_script.specs.Script.{calls_in}
use Rattle.iol_script.specs.Text.{numbered_lines}
use Rattle.iol_commands.specs.RunPlayed.{ending_text}
use Rattle.iol_commands.proofs.TraceLemmas.{whole_written}
use Rattle.iol_stored_commands.specs.StoredPlayed.{stored_calls_in}
use Rattle.iol_stored_commands.specs.StoredTraced.{TracesOn, stored_stage}
use Rattle.iol_stored_commands.proofs.stored_trace.traced_on.Goals as goal

pub returns-clause-printed : goal.returns-clause-printed
returns-clause-printed g c =
    let play = c.args.play.now in
    let calls = stored_calls_in (numbered_lines play.input.now) in
    let plain = calls_in (numbered_lines play.plain.now) in
    let followed = c.in_ok-follow.ensures.traced in
    let shown = ending_text plain c.wire-2.result.now in
    let out : TracesOn g.B.Beside.facts c.args.port calls plain (followed.text ++ shown) = record {
      last = stored_stage c.follow.new.self.number c.follow.new.port;
      calls_text = followed.text;
      traces = rw c.new-tracer.ensures.number at followed.traced;
      text_is = rw (c.wire-2.ensures, c.wire.ensures) refl;
    } in
    on_ok_weaker c.write_output.result (λ wrote. (
      followed.text ++ shown,
      whole_written _ _ _ _ c.as_str.result.now followed.text shown
          (rw c.new-tracer.ensures.output at followed.flows)
          (c.as_str.ensures.value ∙ c.in_ok-print_ending.ensures) wrote,
      out,
    )) c.write_output.ensures.ok
