-- Calls that are made one after the other, for the clauses of `play_stored` and those below it.
-- Begin with `stored_plays_join`.
-- For the clauses of `StoredTracer::follow_turns`, `stored_playing::make_turns`,
--     `stored_playing::play_call` and 2 more.
use Rattle.std.proofs.Common.{◌≡◌, ◌∙◌, ℕ, ◌+◌, List, [], ◌∷◌, ◌++◌, map, replicate, refl, sym, ap, subst, append-nil, append_assoc}
use Rattle.std.proofs.lemmas.List.{map-append, replicate-append-replicate}
use Rattle.iol_link.specs.WireFacts.{WireFacts}
use Rattle.iol_port.specs.declared.call.Call.TheVariants.{Turn}
use Rattle.iol_stored_commands.specs.StoredPlayed.{Plain, StoredCall, StoredMakes, StoredPlays}
use Rattle.iol_stored_commands.specs.Wired.{StoredOver}

-- one turn more
pub turns_more : (n : ℕ)
    → map Plain (replicate n Turn) ++ Plain Turn ∷ [] ≡ map Plain (replicate (n + 1) Turn)
turns_more n =
    sym (map-append Plain (replicate n Turn) (replicate 1 Turn))
    ∙ ap (map Plain) (replicate-append-replicate n 1 Turn)

module _ {W : Type 0} (facts : WireFacts W) where
  -- more calls are made
  pub stored_plays_join : (p q r : StoredOver W) (calls more : List StoredCall)
      (text later : List ℕ) → StoredPlays facts p calls q text → StoredPlays facts q more r later
      → StoredPlays facts p (calls ++ more) r (text ++ later)
  stored_plays_join p q r [] more text later (is, none) second =
      subst (λ t. StoredPlays facts p more r (t ++ later)) (sym none)
      (subst (λ s. StoredPlays facts s more r later) is second)
  stored_plays_join p q r (call ∷ calls) more text later (mid, one, rest, made, plays, is)
      second = (
        mid,
        one,
        rest ++ later,
        made,
        stored_plays_join mid q r calls more rest later plays second,
        rw is (simp append_assoc),
      )

  -- one is
  pub plays_one : (p q : StoredOver W) (call : StoredCall) (text : List ℕ)
      → StoredMakes facts p call q text → StoredPlays facts p (call ∷ []) q text
  plays_one p q call text made = (q, text, [], made, (refl, refl), sym (append-nil text))
