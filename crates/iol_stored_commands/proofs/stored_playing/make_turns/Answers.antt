-- What the search can't prove of the body of `stored_playing::make_turns`.
use Rattle.std.proofs.Common.{[], ◌∷◌, List, Ok, map, refl, replicate, subst}
use Rattle.iol_port.specs.declared.call.Answered.TheVariants.{Nothing}
use Rattle.iol_port.specs.declared.call.Call.TheVariants.{Turn}
use Rattle.iol_stored_commands.specs.StoredPlayed.{Plain, StoredCall, StoredPlays}
use Rattle.iol_stored_commands.proofs.PlayedLemmas.{plays_one, stored_plays_join, turns_more}
use Rattle.iol_stored_commands.proofs.stored_playing.make_turns.Goals as goal

pub loop-preserved : goal.loop-preserved
loop-preserved g c =
    let facts = g.W.Wire.facts in
    let n = c.loop.counter in
    subst (λ (calls : List StoredCall). StoredPlays facts c.args.port.now calls c.turn.new.self [])
    (turns_more n)
    (stored_plays_join facts _ _ _ (map Plain (replicate n Turn)) (Plain Turn ∷ []) [] []
    c.loop.invariant
    (plays_one facts _ _ (Plain Turn) [] (Ok Nothing, (refl, c.turn.ensures), refl, refl)))
