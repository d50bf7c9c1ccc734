-- The clauses of `run_printing::print_found` that the search can't prove.
use Rattle.std.proofs.Common.{codes, rules}
use Rattle.std.specs.String.{string_bytes}
use Rattle.iol_commands.specs.RunPrinted.{code_text, device_id_text}
use Rattle.iol_commands.proofs.PrintedLemmas.{pieces_printed}
use Rattle.iol_commands.proofs.run_printing.print_found.Goals as goal

pub returns : goal.returns
returns g c =
    rw c.in-WrongDevice.is
    (pieces_printed c.print_device_id.result (string_bytes c.args.output.now)
    (string_bytes c.push_str.new.self) (string_bytes c.print_code.new.output)
    (string_bytes c.push_str-2.new.self) (string_bytes c.print_device_id.new.output)
    (codes " ") (code_text c.in-WrongDevice.found.vendor) (codes " ")
    (device_id_text c.in-WrongDevice.found.device)
    (search rules) c.in_ok-print_code.ensures (search rules) c.print_device_id.ensures)
