-- What each round of a loop of `octet_tracing::trace_text` keeps.
use Rattle.std.proofs.Common.{take}
use Rattle.std.specs.String.{string_bytes}
use Rattle.iol_commands.specs.OctetsTraced.{TracesText, octets_place}
use Rattle.iol_commands.proofs.octet_tracing.trace_text.Given as goal

abbrev pub invariant-loop-octet : goal.invariant-loop-octet
invariant-loop-octet g l = TracesText l.fn.rate
    (octets_place l.fn.opened (string_bytes l.fn.output) (g.W.Write.contents l.fn.writer))
    (take l.octet-index l.text)
    (octets_place l.opened (string_bytes l.output) (g.W.Write.contents l.writer))
