-- The clauses of `printing::print_type` that the search can't prove.
use Rattle.std.proofs.Common.{ap, ◌∙◌}
use Rattle.std.proofs.lemmas.Result.{on_ok_weaker}
use Rattle.iol_octets.specs.CheckOctets.{type_bits}
use Rattle.iol_commands.proofs.PrintedLemmas.{behind}
use Rattle.iol_commands.proofs.printing.print_type.Goals as goal

pub returns : goal.returns
returns g c =
    let kind = c.bits.ensures ∙ ap type_bits c.kind.ensures.value in
    on_ok_weaker c.print_number-2.result
    (behind _ _ _ _ _ (rw kind at c.in_ok-print_number.ensures))
    (rw (c.get.ensures.value, c.od.ensures.value) at c.print_number-2.ensures)
