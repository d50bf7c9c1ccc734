-- The clauses of `trace_command::traced_over` that the search can't prove.
use Rattle.std.proofs.Common.{◌≡◌, ◌++◌, refl, ◌∙◌}
use Rattle.std.proofs.lemmas.Result.{on_ok_weaker}
use Rattle.iol_port.specs.View.{over}
use Rattle.iol_script.specs.Script.{calls_in}
use Rattle.iol_script.specs.Text.{numbered_lines}
use Rattle.iol_sim.specs.Sim.{sim_facts}
use Rattle.iol_sim.specs.Tapped.{tap_facts}
use Rattle.iol_commands.specs.RunPlayed.{ending_text}
use Rattle.iol_commands.specs.TracePrinted.{TracesOut, first_tap, trace_stage}
use Rattle.iol_commands.proofs.RunLemmas.{runs_alike}
use Rattle.iol_commands.proofs.TraceLemmas.{whole_written}
use Rattle.iol_commands.proofs.trace_command.traced_over.Goals as goal

pub returns-clause-printed : goal.returns-clause-printed
returns-clause-printed g c =
    let play = c.args.play.now in
    let facts = g.B.Beside.facts in
    let calls = calls_in (numbered_lines play.input.now) in
    let port = c.in-Ok.ensures in
    let last = over c.follow.new.port in
    let is : c.new-tap.result ≡ first_tap c.args.wire = c.new-tap.ensures in
    let followed = c.in_ok-follow.ensures.traced in
    let traced = followed.traced in
    let shown = ending_text calls c.wire-2.result.now in
    let out : TracesOut facts play.devices play.limits c.args.wire calls (followed.text ++ shown)
    = record {
      answers = traced.answers;
      first = over c.in-Ok.port;
      opens = port.parts;
      over_tap = port.wire ∙ is;
      last = trace_stage c.follow.new.self.number last;
      calls_text = followed.text;
      traces = rw c.new-tracer.ensures.number at traced.traces;
      alike = runs_alike (tap_facts (sim_facts facts)) play.devices play.limits c.args.wire
          last.wire.wire (first_tap c.args.wire) _ _ _ last calls traced.answers is port.opening
          (λ has. rw has.one refl) refl refl port.stands traced.runs refl;
      text_is = rw (c.wire-2.ensures, c.wire.ensures) refl;
    } in
    on_ok_weaker c.write_output.result (λ wrote. (
      followed.text ++ shown,
      whole_written _ _ _ _ c.as_str.result.now followed.text shown
          (rw c.new-tracer.ensures.output at followed.flows)
          (c.as_str.ensures.value ∙ c.in_ok-print_ending.ensures) wrote,
      out,
    )) c.write_output.ensures.ok
