-- The clauses of `passing::print_exchange` that the search can't prove.
use Rattle.std.proofs.Common.{refl, rules, arith}
use Rattle.iol_print.specs.Passing.{most_line}
use Rattle.iol_print.proofs.PrintedLemmas.{adds_behind, behind_fits}
use Rattle.iol_print.proofs.Lengths.{sent_bound}
use Rattle.iol_print.proofs.passing.print_exchange.Goals as goal

pub returns-clause-text : goal.returns-clause-text
returns-clause-text g c =
    let sent = c.in_ok-print_sent.ensures.text in
    adds_behind c.print_received.result _ _ _ sent.0 _ _ sent.1
    (λ later received. (sent.0, later, refl, sent.2, rw (← c.asks_read.ensures) received))
    c.print_received.ensures.text

pub returns-clause-fits : goal.returns-clause-fits
returns-clause-fits g c =
    let sent = c.in_ok-print_sent.ensures.text in
    λ room. c.print_received.ensures.fits
    (behind_fits (g.S.TextSink.text c.args.output.now)
    (g.S.TextSink.text c.print_sent.new.output) sent.0 most_line g.S.TextSink.limit sent.1 (omega (
      arith,
      room,
      sent_bound c.args.number c.args.layout.now c.args.sent.now sent.0 (search rules) sent.2,
    )))
