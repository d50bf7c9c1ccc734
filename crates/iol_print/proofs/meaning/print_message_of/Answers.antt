-- The clauses of `meaning::print_message_of` that the search can't prove.
use Rattle.std.proofs.Common.{refl, arith}
use Rattle.std.proofs.lemmas.Result.{on_ok_weaker}
use Rattle.iol_print.specs.Printed.{message_text}
use Rattle.iol_print.proofs.Lengths.{message_room, refusal_room}
use Rattle.iol_print.proofs.meaning.print_message_of.Goals as goal

pub returns-in-Ok-clause-text : goal.returns-in-Ok-clause-text
returns-in-Ok-clause-text g c =
    let read = c.in-Ok.ensures in
    on_ok_weaker c.print_message.result (λ wrote. (
      message_text c.in-Ok.message,
      wrote,
      rw (← read.refused) (c.in-Ok.message, read.spelled, refl),
    )) c.print_message.ensures.text

pub returns-in-Ok-clause-fits : goal.returns-in-Ok-clause-fits
returns-in-Ok-clause-fits g c = λ room. c.print_message.ensures.fits (omega (
  arith,
  room,
  message_room c.args.layout.now c.in-Ok.message c.args.octets.now c.in-Ok.ensures.spelled,
))

pub returns-in-Err-clause-fits : goal.returns-in-Err-clause-fits
returns-in-Err-clause-fits g c =
    λ room. c.print_refusal.ensures.fits (omega (arith, room, refusal_room c.in-Err.fault))
