-- The clauses of `octet_tracing::show` that the search can't prove.
use Rattle.std.proofs.Common.{sym, ◌∙◌}
use Rattle.iol_commands.proofs.TraceLemmas.{flows_after}
use Rattle.iol_commands.proofs.OctetsLemmas.{flows_one, no_error}
use Rattle.iol_commands.proofs.octet_tracing.show.Goals as goal

pub returns-clause-shown : goal.returns-clause-shown
returns-clause-shown g c =
    let printed = c.in_ok-print_timed.ensures in
    rw c.in-Some.is (flows_one c.args.rate c.in-Some.call _ _ _ _ printed.0 printed.2
    (flows_after _ _ _ _ _ printed.0 printed.1 (no_error c.pass_on.result c.pass_on.ensures.written
    (sym c.is_err.ensures.value ∙ c.if-is_err.false))))
