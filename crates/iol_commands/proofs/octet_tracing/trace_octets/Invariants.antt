-- What each round of a loop of `octet_tracing::trace_octets` keeps.
use Rattle.std.specs.String.{string_bytes}
use Rattle.iol_capture.specs.Capture.{new_opened}
use Rattle.iol_capture.specs.declared.telling.CaptureForm.TheVariants.{Octets}
use Rattle.iol_commands.specs.OctetsTraced.{octets_place}
use Rattle.iol_commands.proofs.OctetsLemmas.{ReadsSo}
use Rattle.iol_commands.proofs.octet_tracing.trace_octets.Given as goal

abbrev pub invariant-loop : goal.invariant-loop
invariant-loop g l = ReadsSo l.fn.rate (g.R.Read.remaining l.initial.reader)
    (g.R.Read.remaining l.reader)
    (octets_place (new_opened (Octets l.fn.rate) l.fn.odd) (string_bytes l.fn.output)
    (g.W.Write.contents l.fn.writer))
    (octets_place l.opened (string_bytes l.output) (g.W.Write.contents l.writer))
