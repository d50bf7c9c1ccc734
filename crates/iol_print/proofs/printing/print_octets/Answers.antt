-- The clauses of `printing::print_octets` that the search can't prove.
use Rattle.std.proofs.Common.{rules, arith}
use Rattle.iol_print.proofs.PrintedLemmas.{never, octet_fits, behind_fits}
use Rattle.iol_print.proofs.printing.print_octets.Goals as goal

pub returns-in_err-put-clause-fits : goal.returns-in_err-put-clause-fits
returns-in_err-put-clause-fits g c = λ room. never (c.in_err-put.ensures.fits
    (octet_fits _ _ c.args.octets.now c.loop-octet.octet-index 1 _ c.loop-octet.invariant
    (search rules) (omega arith) room))

pub returns-in_err-print_hexadecimal-clause-fits : goal.returns-in_err-print_hexadecimal-clause-fits
returns-in_err-print_hexadecimal-clause-fits g c =
    λ room. never (c.in_err-print_hexadecimal.ensures.fits
    (behind_fits _ _ _ 2 _ c.in_ok-put.ensures.text
    (octet_fits _ _ c.args.octets.now c.loop-octet.octet-index 3 _ c.loop-octet.invariant
    (search rules) (omega arith) room)))
