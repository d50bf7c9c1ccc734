-- What the search can't prove of the body of `octet_tracing::trace_octets`.
use Rattle.std.proofs.Common.{◌≡◌, Err, [], ap, refl, rules, ◌∙◌}
use Rattle.std.proofs.KnownBytes.{Consumes-nil}
use Rattle.iol_capture.specs.declared.fault.CaptureFault.TheVariants.{Line}
use Rattle.iol_commands.specs.declared.judge_command.JudgeFault.TheVariants.{Capture}
use Rattle.iol_commands.proofs.OctetsLemmas.{end_appends, end_bad, end_whole, is_fault, piece_read, reader_stops, stop_appends, text_none}
use Rattle.iol_commands.proofs.octet_tracing.trace_octets.Goals as goal

pub loop-init : goal.loop-init
loop-init g c = record {
  bytes = [];
  consumes = Consumes-nil _;
  traces = rw c.new-opened.ensures (text_none c.args.rate _);
}

pub loop-preserved : goal.loop-preserved
loop-preserved g c =
    piece_read c.args.rate c.args.odd _ _ _ _ _ _ _ _ c.loop.invariant c.in-Ok.ensures.bytes.0
    c.in_ok-trace_text.ensures

pub returns-then-count-eq0-clause-whole : goal.returns-then-count-eq0-clause-whole
returns-then-count-eq0-clause-whole g c =
    let read = rw c.if-count-eq0.true at c.in-Ok.ensures.bytes in
    end_whole c.args.rate c.args.odd _ _ c.trace_end.result _ _ _ _ _ _ c.loop.invariant read.0
    (read.1 refl (search rules)) c.trace_end.ensures

pub returns-then-count-eq0-clause-bad : goal.returns-then-count-eq0-clause-bad
returns-then-count-eq0-clause-bad g c = λ n why is.
    let read = rw c.if-count-eq0.true at c.in-Ok.ensures.bytes in
    end_bad c.args.rate c.args.odd _ _ c.trace_end.result _ _ _ _ _ _ c.loop.invariant read.0
    (read.1 refl (search rules)) c.trace_end.ensures (Line n why) is

pub returns-then-count-eq0-clause-appended : goal.returns-then-count-eq0-clause-appended
returns-then-count-eq0-clause-appended g c = λ other.
    end_appends c.args.rate c.args.odd _ _ c.trace_end.result _ _ _ _ _ c.loop.invariant
    c.trace_end.ensures other

pub returns-in_err-trace_text-clause-bad : goal.returns-in_err-trace_text-clause-bad
returns-in_err-trace_text-clause-bad g c = λ n why is.
    let fault = is_fault c.from_residual.result c.in_err-trace_text.field-0.0
    c.from_residual.ensures.1 in
    let same : c.in_err-trace_text.field-0.0 ≡ Capture (Line n why) = cc (fault, is) in
    reader_stops c.args.rate c.args.odd _ _ _ _ _ _ (Line n why) _ _ _ c.loop.invariant
    c.in-Ok.ensures.bytes.0 (λ rest. rw same at (c.in_err-trace_text.ensures rest))

pub returns-in_err-trace_text-clause-appended : goal.returns-in_err-trace_text-clause-appended
returns-in_err-trace_text-clause-appended g c = λ other.
    let fault = is_fault c.from_residual.result c.in_err-trace_text.field-0.0
    c.from_residual.ensures.1 in
    stop_appends c.args.rate c.args.odd _ _ c.in_err-trace_text.field-0.0 _ _ _ _ _ _
    c.loop.invariant (c.in_err-trace_text.ensures []) (λ is. other (fault ∙ ap Err is))
