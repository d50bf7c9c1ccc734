-- What each round of a loop of `run_printing::print_entries` keeps.
use Rattle.std.proofs.Common.{◌≡◌, ◌++◌, take}
use Rattle.std.specs.String.{string_bytes}
use Rattle.iol_commands.specs.RunPrinted.{entries_text}
use Rattle.iol_commands.proofs.run_printing.print_entries.Given as goal

abbrev pub invariant-loop-entry : goal.invariant-loop-entry
invariant-loop-entry g l = string_bytes l.output ≡ string_bytes l.fn.output
    ++ entries_text (take l.entry-index l.entries)
