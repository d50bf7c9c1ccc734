-- The clauses of `stored_playing::play_call` that the search can't prove.
use Rattle.std.proofs.Common.{refl, sym}
use Rattle.std.proofs.lemmas.Result.{on_ok_weaker}
use Rattle.iol_stored_commands.specs.StoredPlayed.{Plain}
use Rattle.iol_stored_commands.specs.StoredPrinted.{plain_answer_text}
use Rattle.iol_stored_commands.proofs.PlayedLemmas.{plays_one}
use Rattle.iol_stored_commands.proofs.stored_playing.play_call.Goals as goal

pub returns : goal.returns
returns g c =
    let call = c.args.call.now in
    let reply = c.call-answer.result in
    on_ok_weaker c.print_port_answer.result (λ wrote. (
      plain_answer_text call reply,
      wrote,
      plays_one g.W.Wire.facts _ _ (Plain call) (plain_answer_text call reply)
          (reply, c.call-answer.ensures, sym c.if-lacks_room.ensures, refl),
    )) c.print_port_answer.ensures
