-- What the search can't prove of the body of `StoredTracer::follow`.
use Rattle.std.proofs.Common.{◌≡◌, [], ◌++◌, length, refl, ap, append_assoc, length-append, rules, arith}
use Rattle.iol_script.specs.RunLines.{run_form}
use Rattle.iol_script.specs.Text.{numbered_lines, lines_left}
use Rattle.iol_stored_script.specs.StorageLines.{storage_form}
use Rattle.iol_stored_commands.specs.StoredPlayed.{line_stored_calls, stored_calls_in}
use Rattle.iol_stored_commands.proofs.TracedLemmas.{stored_traces_none, stored_traces_more}
use Rattle.iol_stored_commands.proofs.stored_tracing.StoredTracer.follow.Goals as goal

pub loop-line-init : goal.loop-line-init
loop-line-init g c =
    let same : numbered_lines c.args.input.now ≡ lines_left c.into_iter-line-iterator.result =
    search rules in
    ([], rw same refl, omega arith, stored_traces_none g.W.Wire.facts _)

pub follow_line-requires : goal.follow_line-requires
follow_line-requires g c =
    let (done, are, few, so_far) = c.loop-line.invariant in
    omega (
      arith,
      c.requires,
      few,
      simp length-append at (rw c.in-Some.ensures.steps at (ap length are)),
    )

pub loop-line-preserved : goal.loop-line-preserved
loop-line-preserved g c =
    let (done, are, few, so_far) = c.loop-line.invariant in
    let more = c.in_ok-follow_line.ensures in
    let line = c.in-Some.line.now in
    let calls = line_stored_calls (storage_form line) (run_form line) in (
      done ++ calls,
      rw (are, c.in-Some.ensures.steps) (simp append_assoc),
      omega (arith, few, more.number, length-append done calls),
      stored_traces_more g.W.Wire.facts _ _ _ _ _ so_far more.traced,
    )
