-- What each round of a loop of `counters_printing::print_counters` keeps.
use Rattle.std.proofs.Common.{◌≡◌, ◌++◌, take, codes}
use Rattle.std.specs.List.{flat_map}
use Rattle.std.specs.String.{string_bytes}
use Rattle.iol_commands.specs.CountersPrinted.{counter_text}
use Rattle.iol_commands.proofs.counters_printing.print_counters.Given as goal

abbrev pub invariant-loop-name : goal.invariant-loop-name
invariant-loop-name g l = string_bytes l.output
    ≡ (string_bytes l.fn.output ++ codes "counters")
    ++ flat_map (λ counter. counter_text (counter.0.now, counter.1))
    (take l.name-index l.name-items)
