-- The clauses of `stored_playing::play_storage` that the search can't prove.
use Rattle.std.proofs.Common.{refl}
use Rattle.std.proofs.lemmas.Result.{on_ok_weaker}
use Rattle.iol_stored_commands.specs.StoredPlayed.{Storing}
use Rattle.iol_stored_commands.specs.StoredPrinted.{storage_text}
use Rattle.iol_stored_commands.proofs.PlayedLemmas.{plays_one}
use Rattle.iol_stored_commands.proofs.stored_playing.play_storage.Goals as goal

pub returns : goal.returns
returns g c =
    let reply = c.store-answer.result in
    on_ok_weaker c.print_storage_answer.result (λ wrote. (
      storage_text reply,
      wrote,
      plays_one g.W.Wire.facts _ _ (Storing c.args.call) (storage_text reply)
          (reply, c.store-answer.ensures, refl),
    )) c.print_storage_answer.ensures
