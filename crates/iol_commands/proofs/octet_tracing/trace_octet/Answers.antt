-- The clauses of `octet_tracing::trace_octet` that the search can't prove.
use Rattle.iol_commands.proofs.OctetsLemmas.{bad_ends, is_fault, octet_shown}
use Rattle.iol_commands.proofs.octet_tracing.trace_octet.Goals as goal

pub returns-in_err-call : goal.returns-in_err-call
returns-in_err-call g c =
    rw (is_fault c.from_residual.result _ c.from_residual.ensures.1) (λ rest.
    bad_ends c.args.rate _ _ c.in_err-call.field-0.0 (c.in_err-call.ensures.judged rest)
    (c.in_err-call.ensures.emitted rest))

pub returns : goal.returns
returns g c =
    octet_shown c.args.rate c.show.result _ _ c.args.octet c.in_ok-call.call
    c.in_ok-call.ensures.judged c.in_ok-call.ensures.emitted c.show.ensures.shown
    c.show.ensures.faults c.show.ensures.unchanged
