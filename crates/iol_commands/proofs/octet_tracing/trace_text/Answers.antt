-- What the search can't prove of the body of `octet_tracing::trace_text`.
use Rattle.std.proofs.Common.{rules}
use Rattle.std.specs.String.{string_bytes}
use Rattle.iol_commands.specs.OctetsTraced.{octets_place}
use Rattle.iol_commands.proofs.OctetsLemmas.{is_fault, octet_joins, octet_stops, text_none}
use Rattle.iol_commands.proofs.octet_tracing.trace_text.Goals as goal

pub loop-octet-init : goal.loop-octet-init
loop-octet-init g c = text_none c.args.rate _

pub loop-octet-preserved : goal.loop-octet-preserved
loop-octet-preserved g c =
    octet_joins c.args.rate _ _ _ c.args.text.now c.loop-octet.octet-index (search rules)
    c.loop-octet.invariant c.in_ok-trace_octet.ensures

pub returns-in_err-trace_octet : goal.returns-in_err-trace_octet
returns-in_err-trace_octet g c =
    let after = octets_place c.trace_octet.new.opened (string_bytes c.trace_octet.new.output)
    (g.W.Write.contents c.trace_octet.new.writer) in
    rw (is_fault c.from_residual.result c.in_err-trace_octet.field-0.0 c.from_residual.ensures.1)
    (octet_stops c.args.rate c.in_err-trace_octet.field-0.0 _ _ after c.args.text.now
    c.loop-octet.octet-index (search rules) c.loop-octet.invariant c.in_err-trace_octet.ensures)
