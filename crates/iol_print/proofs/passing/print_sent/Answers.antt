-- The clauses of `passing::print_sent` that the search can't prove.
use Rattle.std.proofs.Common.{◌+◌, ◌*◌, codes, length, refl, rules, arith}
use Rattle.iol_print.specs.Passing.{line_front}
use Rattle.iol_print.specs.Meanings.{meaning_room}
use Rattle.iol_print.proofs.PrintedLemmas.{never, part_fits, behind_fits}
use Rattle.iol_print.proofs.Lengths.{front_room}
use Rattle.iol_print.proofs.passing.print_sent.Goals as goal

pub returns-in_err-print_front-clause-fits : goal.returns-in_err-print_front-clause-fits
returns-in_err-print_front-clause-fits g c =
    let octets = c.args.octets.now in
    λ room. never (c.in_err-print_front.ensures.fits
    (part_fits (g.S.TextSink.text c.args.output.now) (line_front c.args.number (codes ">") octets)
    (24 + 3 * length octets) g.S.TextSink.limit
    (front_room c.args.number (codes ">") octets (search rules) refl) (omega (arith, room))))

pub returns-clause-fits : goal.returns-clause-fits
returns-clause-fits g c =
    let octets = c.args.octets.now in
    λ room. c.print_message_of.ensures.fits
    (behind_fits (g.S.TextSink.text c.args.output.now)
    (g.S.TextSink.text c.print_front.new.output) (line_front c.args.number (codes ">") octets)
    (meaning_room octets) g.S.TextSink.limit c.in_ok-print_front.ensures.text (omega (
      arith,
      room,
      front_room c.args.number (codes ">") octets (search rules) refl,
    )))
