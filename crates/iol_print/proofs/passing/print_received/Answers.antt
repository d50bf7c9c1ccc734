-- The clauses of `passing::print_received` that the search can't prove.
use Rattle.std.proofs.Common.{◌++◌, codes, refl, rules, arith}
use Rattle.std.specs.Fmt.{decimal}
use Rattle.iol_print.specs.Passing.{line_front}
use Rattle.iol_print.specs.Meanings.{PrintsReply, meaning_room}
use Rattle.iol_print.proofs.PrintedLemmas.{adds_behind, never, part_fits, behind_fits}
use Rattle.iol_print.proofs.Lengths.{front_room, none_room}
use Rattle.iol_print.proofs.passing.print_received.Goals as goal

pub returns-clause-text : goal.returns-clause-text
returns-clause-text g c =
    let octets = c.in-Some.octets.items in
    rw c.in-Some.is (adds_behind c.print_reply_of.result _ _ _
    (line_front c.args.number (codes "<") octets)
    (PrintsReply c.args.layout.now c.args.read octets) _
    (rw c.as_slice.ensures.value at c.in_ok-print_front.ensures.text)
    (λ meaning is. (meaning, is, refl))
    (rw c.as_slice-2.ensures.value at c.print_reply_of.ensures.text))

pub returns-in_default-clause-fits : goal.returns-in_default-clause-fits
returns-in_default-clause-fits g c = λ room. c.print_none.ensures.fits
    (part_fits (g.S.TextSink.text c.args.output.now)
    (decimal c.args.number ++ codes " < none\n") 28 g.S.TextSink.limit
    (none_room c.args.number (search rules)) (omega (arith, room)))

pub returns-in_err-print_front-clause-fits : goal.returns-in_err-print_front-clause-fits
returns-in_err-print_front-clause-fits g c =
    let octets = c.as_slice.result.now in
    λ room. never (c.in_err-print_front.ensures.fits
    (part_fits (g.S.TextSink.text c.args.output.now) (line_front c.args.number (codes "<") octets)
    222 g.S.TextSink.limit (omega (
      arith,
      front_room c.args.number (codes "<") octets (search rules) refl,
      c.as_slice.ensures.fits,
    )) (omega (arith, room))))

pub returns-clause-fits : goal.returns-clause-fits
returns-clause-fits g c =
    let octets = c.as_slice.result.now in
    λ room. c.print_reply_of.ensures.fits
    (behind_fits (g.S.TextSink.text c.args.output.now)
    (g.S.TextSink.text c.print_front.new.output) (line_front c.args.number (codes "<") octets)
    (meaning_room c.as_slice-2.result.now) g.S.TextSink.limit c.in_ok-print_front.ensures.text
    (omega (
      arith,
      room,
      front_room c.args.number (codes "<") octets (search rules) refl,
      c.as_slice.ensures.fits,
      c.as_slice-2.ensures.fits,
    )))
