-- The clauses of `run_printing::print_event` that the search can't prove.
use Rattle.std.proofs.Common.{codes, rules}
use Rattle.std.specs.String.{string_bytes}
use Rattle.iol_print.specs.Printed.{hexadecimal}
use Rattle.iol_commands.specs.RunPrinted.{code_text}
use Rattle.iol_commands.proofs.PrintedLemmas.{pieces_printed}
use Rattle.iol_commands.proofs.run_printing.print_event.Goals as goal

pub returns : goal.returns
returns g c =
    pieces_printed c.print_code.result (string_bytes c.args.output.now)
    (string_bytes c.push_str.new.self) (string_bytes c.print_hexadecimal.new.output)
    (string_bytes c.push_str-2.new.self) (string_bytes c.print_code.new.output)
    (codes "event ") (hexadecimal c.args.event.qualifier) (codes " ")
    (code_text c.args.event.code)
    (search rules) c.in_ok-print_hexadecimal.ensures.text (search rules) c.print_code.ensures
