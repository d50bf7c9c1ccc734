-- What `any_owned` of values rests on.
-- For the clauses of `Objects::any_owned`.
use Rattle.std.proofs.Common.{◌≡◌, ◌∙◌, ℕ, ◌+◌, true, false, ◌||◌, List, drop, Some, sym, ap, refl}
use Rattle.std.specs.Prelude.{slice_get}
use Rattle.std.proofs.lemmas.List.{drop_more}
use Rattle.std.proofs.lemmas.Option.{get_or_from_slice_get, slice_get_within}
use Rattle.iol_isdu.specs.declared.values.Place.{Place}
use Rattle.iol_storage.specs.Objects.{is_command_place, any_owned}

-- of the values from an index on: whether one is owned, if none before was
module _ (writes : List (Place × List ℕ)) (index : ℕ) (write : Place × List ℕ)
    (found : slice_get writes index ≡ Some write)
    (rest : any_owned (drop index writes) ≡ any_owned writes) where
  owned-next : any_owned (drop index writes)
      ≡ (is_command_place write.0 || any_owned (drop (index + 1) writes))
  owned-next =
      let more = drop_more writes index write (slice_get_within writes index write found) in
      rw (more, get_or_from_slice_get writes index write write found) refl

  pub owned-here : is_command_place write.0 ≡ true → true ≡ any_owned writes
  owned-here owned = sym (ap (λ b. b || any_owned (drop (index + 1) writes)) owned)
      ∙ sym owned-next ∙ rest

  pub owned-later : is_command_place write.0 ≡ false
      → any_owned (drop (index + 1) writes) ≡ any_owned writes
  owned-later free = sym (ap (λ b. b || any_owned (drop (index + 1) writes)) free)
      ∙ sym owned-next ∙ rest
