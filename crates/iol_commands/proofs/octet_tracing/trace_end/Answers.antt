-- The clauses of `octet_tracing::trace_end` that the search can't prove.
use Rattle.std.specs.String.{string_bytes}
use Rattle.iol_commands.proofs.OctetsLemmas.{bad_ends, end_shown, is_fault}
use Rattle.iol_commands.proofs.octet_tracing.trace_end.Goals as goal

pub returns-in_err-call : goal.returns-in_err-call
returns-in_err-call g c =
    rw (is_fault c.from_residual.result _ c.from_residual.ensures.1)
    (bad_ends c.args.rate _ _ c.in_err-call.field-0.0 c.in_err-call.ensures.judged
    c.in_err-call.ensures.emitted)

pub returns : goal.returns
returns g c =
    end_shown c.args.rate _ c.end_text.new.self c.in_ok-call.call c.in_ok-judgement.call _
    (string_bytes c.show.new.output) _ (g.W.Write.contents c.show.new.writer) _
    c.in_ok-call.ensures.judged c.in_ok-call.ensures.emitted c.in_ok-call.ensures.empty
    c.in_ok-judgement.ensures.judged c.in_ok-judgement.ensures.emitted c.in_ok-show.ensures.shown
    c.in_ok-show-2.ensures.shown
