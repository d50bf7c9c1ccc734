-- What each round of a loop of `printing::print_octets` keeps.
use Rattle.std.proofs.Common.{◌≡◌, ◌++◌, take}
use Rattle.iol_print.specs.Printed.{octets_text}
use Rattle.iol_print.proofs.printing.print_octets.Given as goal

abbrev pub invariant-loop-octet : goal.invariant-loop-octet
invariant-loop-octet g l = g.S.TextSink.text l.output ≡ g.S.TextSink.text l.fn.output
    ++ octets_text (take l.octet-index l.octets)
