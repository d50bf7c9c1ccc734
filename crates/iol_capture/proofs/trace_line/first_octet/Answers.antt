-- The clauses of `trace_line::first_octet` that the search can't prove.
use Rattle.iol_capture.proofs.WordLemmas.{octets_are, octets_bad, octets_few, octets_odd}
use Rattle.iol_capture.proofs.trace_line.first_octet.Goals as goal

pub returns-in_default-clause-octet : goal.returns-in_default-clause-octet
returns-in_default-clause-octet c = octets_few c.args.text.now c.in_default.len_below

pub returns-in_err-octet-clause-octet : goal.returns-in_err-octet-clause-octet
returns-in_err-octet-clause-octet c =
    rw c.from_residual.ensures
    (octets_bad c.args.text.now c.in-len2-up.len_at_least c.in_err-octet.ensures)

pub returns-in_err-behind_digits-clause-octet : goal.returns-in_err-behind_digits-clause-octet
returns-in_err-behind_digits-clause-octet c =
    rw c.from_residual-in_err-behind_digits.ensures
    (octets_odd c.args.text.now c.in_ok-octet.octet c.in-len2-up.len_at_least c.in_ok-octet.ensures
    c.in_err-behind_digits.ensures.octets)

pub returns-clause-octet : goal.returns-clause-octet
returns-clause-octet c =
    octets_are c.args.text.now c.in_ok-octet.octet _ c.in-len2-up.len_at_least
    c.in_ok-octet.ensures c.in_ok-behind_digits.ensures.octets
