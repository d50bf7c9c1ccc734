-- The clauses of `meaning::print_reply_of` that the search can't prove.
use Rattle.std.proofs.Common.{arith}
use Rattle.iol_print.proofs.Lengths.{reply_room, refusal_room}
use Rattle.iol_print.proofs.meaning.print_reply_of.Goals as goal

pub returns-in-Ok-clause-fits : goal.returns-in-Ok-clause-fits
returns-in-Ok-clause-fits g c = λ room. c.print_reply.ensures.fits (omega (
  arith,
  room,
  reply_room c.args.layout.now c.args.read c.in-Ok.reply c.args.octets.now
      c.in-Ok.ensures.spelled,
))

pub returns-in-Err-clause-fits : goal.returns-in-Err-clause-fits
returns-in-Err-clause-fits g c =
    λ room. c.print_refusal.ensures.fits (omega (arith, room, refusal_room c.in-Err.fault))
