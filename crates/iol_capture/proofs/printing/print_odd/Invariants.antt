-- What each round of a loop of `printing::print_odd` keeps.
use Rattle.std.proofs.Common.{◌≡◌, ◌++◌, drop}
use Rattle.std.specs.String.{string_bytes}
use Rattle.iol_capture.specs.Findings.{odd_texts}
use Rattle.iol_capture.proofs.printing.print_odd.Given as goal

abbrev pub invariant-loop-odd : goal.invariant-loop-odd
invariant-loop-odd g l = string_bytes l.output ++ odd_texts (drop l.odd-index l.exchanges)
    ≡ string_bytes l.fn.output ++ odd_texts l.exchanges
