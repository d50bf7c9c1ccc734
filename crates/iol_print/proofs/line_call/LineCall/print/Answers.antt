-- The clauses of `LineCall::print` that the search can't prove.
use Rattle.std.proofs.Common.{rules, arith}
use Rattle.iol_print.specs.Passing.{wake_text}
use Rattle.iol_print.proofs.PrintedLemmas.{part_fits}
use Rattle.iol_print.proofs.Lengths.{wake_room}
use Rattle.iol_print.proofs.line_call.LineCall.print.Goals as goal

pub returns-in-Wake-clause-fits : goal.returns-in-Wake-clause-fits
returns-in-Wake-clause-fits g c = λ room. c.print_wake.ensures.fits
    (part_fits (g.S.TextSink.text c.args.output.now) (wake_text c.args.number c.in-Wake.rate) 31
    g.S.TextSink.limit (wake_room c.args.number c.in-Wake.rate (search rules))
    (omega (arith, room)))

pub returns-in-Exchange-clause-text : goal.returns-in-Exchange-clause-text
returns-in-Exchange-clause-text g c =
    rw c.in-Exchange.is (rw c.as_slice.ensures.value at c.print_exchange.ensures.text)
