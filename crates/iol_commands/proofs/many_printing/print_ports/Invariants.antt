-- What each round of a loop of `many_printing::print_ports` keeps.
use Rattle.std.proofs.Common.{◌≡◌, ◌++◌, take}
use Rattle.std.specs.String.{string_bytes}
use Rattle.iol_commands.specs.ManyPrinted.{ports_text}
use Rattle.iol_commands.proofs.many_printing.print_ports.Given as goal

abbrev pub invariant-loop-place : goal.invariant-loop-place
invariant-loop-place g l = string_bytes l.output
    ≡ string_bytes l.fn.output ++ ports_text l.shown (take l.place l.ports)
