-- The clauses of `judge_command::judge_traced` that the search can't prove.
use Rattle.std.proofs.Common.{◌≡◌, ◌++◌, Err, ap, refl}
use Rattle.std.proofs.lemmas.Option.{IfSome_then}
use Rattle.iol_capture.specs.Findings.{finding_text}
use Rattle.iol_capture.specs.declared.fault.CaptureFault.TheVariants.{Line}
use Rattle.iol_commands.specs.declared.judge_command.JudgeFault.TheVariants.{Capture}
use Rattle.iol_commands.proofs.OctetsLemmas.{rest_written, same_stop, stop_appended}
use Rattle.iol_commands.proofs.TraceLemmas.{whole_written}
use Rattle.iol_commands.proofs.judge_command.judge_traced.Goals as goal

pub returns-in-Ok-clause-printed : goal.returns-in-Ok-clause-printed
returns-in-Ok-clause-printed g c =
    let whole = c.in-Ok.ensures.whole in
    let found = finding_text c.in-Ok.judgement in (
      whole.trace ++ found,
      whole_written _ _ _ _ _ whole.trace found (rw c.new-output.ensures.bytes at whole.flows)
          c.in_ok-print_finding-in-Ok.ensures c.in_ok-write_rest-in-Ok.ensures.written,
      IfSome_then (g.R.Read.remaining c.args.reader.now) whole.traces (λ capture rest. record {
        calls_text = whole.trace;
        calls = rest.prints;
        found_text = found;
        judges = record {
          judging = c.in-Ok.judgement;
          judged = rest.is_judged;
          finds = c.finding-finding.ensures;
          text_is = refl;
        };
        text_is = refl;
      }),
    )

pub returns-in-Ok-clause-appended : goal.returns-in-Ok-clause-appended
returns-in-Ok-clause-appended g c = λ other.
    let whole = c.in-Ok.ensures.whole in
    let found = finding_text c.in-Ok.judgement in (
      whole.trace ++ found,
      whole_written _ _ _ _ _ whole.trace found (rw c.new-output.ensures.bytes at whole.flows)
          c.in_ok-print_finding-in-Ok.ensures c.in_ok-write_rest-in-Ok.ensures.written,
    )

pub returns-clause-bad_line : goal.returns-clause-bad_line
returns-clause-bad_line g c = λ n why is.
    let stops : c.stop.result ≡ Capture (Line n why) = cc in
    let traced = c.in-Err.ensures.bad n why
    (ap Err (same_stop c.stop.result c.in-Err.fault (Line n why) c.stop.ensures.same stops)) in
    IfSome_then (g.R.Read.remaining c.args.reader.now) traced.traces
    (λ capture rest. rest.is_judged)

pub returns-clause-before : goal.returns-clause-before
returns-clause-before g c = λ n why is.
    let stops : c.stop.result ≡ Capture (Line n why) = cc in
    let traced = c.in-Err.ensures.bad n why
    (ap Err (same_stop c.stop.result c.in-Err.fault (Line n why) c.stop.ensures.same stops)) in (
      traced.trace,
      rest_written _ _ _ _ traced.trace (rw c.new-output.ensures.bytes at traced.flows)
          (c.stop.ensures.written (Line n why) stops),
      IfSome_then (g.R.Read.remaining c.args.reader.now) traced.traces
          (λ capture rest. rest.prints),
    )

pub returns-clause-appended : goal.returns-clause-appended
returns-clause-appended g c = λ other.
    stop_appended c.stop.result c.in-Err.fault _ _ _ _ c.stop.ensures.same c.stop.ensures.written
    c.stop.ensures.unchanged (λ no_write. c.in-Err.ensures.appended (λ failed. no_write (cc)))
    (λ failed. other (ap Err failed))
