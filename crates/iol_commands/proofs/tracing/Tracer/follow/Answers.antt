-- What the search can't prove of the body of `Tracer::follow`.
use Rattle.std.proofs.Common.{◌≡◌, [], ◌++◌, length, refl, ap, append_assoc, length-append, rules, arith}
use Rattle.iol_script.specs.Script.{line_calls}
use Rattle.iol_script.specs.Text.{numbered_lines, lines_left}
use Rattle.iol_commands.proofs.PlayLemmas.{calls_in-first}
use Rattle.iol_commands.proofs.TraceLemmas.{traces_none, traces_more}
use Rattle.iol_commands.proofs.tracing.Tracer.follow.Goals as goal

pub loop-line-init : goal.loop-line-init
loop-line-init g c =
    let same : numbered_lines c.args.input.now ≡ lines_left c.into_iter-line-iterator.result =
    search rules in
    ([], rw same refl, omega arith, traces_none g.W.Wire.facts _)

pub follow_line-requires : goal.follow_line-requires
follow_line-requires g c =
    let (done, are, few, so_far) = c.loop-line.invariant in
    let first = calls_in-first _ _ _ _ c.in-Some-Call.call c.in-Some.ensures.steps (search rules) in
    omega (arith, c.requires, few, simp length-append at (rw first at (ap length are)))

pub loop-line-preserved-in-Call-1 : goal.loop-line-preserved-in-Call-1
loop-line-preserved-in-Call-1 g c =
    let (done, are, few, so_far) = c.loop-line.invariant in
    let more = c.in_ok-follow_line.ensures in
    let calls = line_calls c.in-Some-Call.call in
    let first = calls_in-first _ _ _ _ c.in-Some-Call.call c.in-Some.ensures.steps (search rules)
    in (
      done ++ calls,
      rw (are, first) (simp append_assoc),
      omega (arith, few, more.number, length-append done calls),
      traces_more g.W.Wire.facts c.runs_join.ensures.runs _ _ _ _ _ so_far more.traced,
    )
