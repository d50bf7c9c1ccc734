-- The clauses of `stored_printing::print_standing` that the search can't prove.
use Rattle.std.proofs.lemmas.Result.{on_ok_weaker}
use Rattle.iol_print.proofs.PrintedLemmas.{behind}
use Rattle.iol_stored_commands.proofs.stored_printing.print_standing.Goals as goal

pub returns-in_ok-push_str-in-Trouble : goal.returns-in_ok-push_str-in-Trouble
returns-in_ok-push_str-in-Trouble g c =
    rw c.in-Trouble.is (on_ok_weaker c.print_trouble.result
    (λ wrote. behind _ _ _ _ _ c.in_ok-push_str-in-Trouble.ensures.bytes wrote)
    c.print_trouble.ensures)

pub returns-in_ok-push_str-in-Released : goal.returns-in_ok-push_str-in-Released
returns-in_ok-push_str-in-Released g c =
    rw c.in-Released.is (on_ok_weaker c.print_trouble-in-Released.result
    (λ wrote. behind _ _ _ _ _ c.in_ok-push_str-in-Released.ensures.bytes wrote)
    c.print_trouble-in-Released.ensures)
