-- How a reader takes the octets of the frozen events: the law of the frozen list.
-- For the clauses of `laws::reading_gives_the_frozen_list`.
use Rattle.std.proofs.Common.{◌≡◌, ℕ, zero, suc, ◌+◌, ◌-◌, ◌*◌, ◌/◌, ◌%◌, ◌<◌, ◌≤◌, true, false, ◌==◌, List, [], ◌∷◌, ◌++◌, length, take, get_or, map, refl, sym, ◌∙◌, ap, arith, add-one}
use Rattle.std.specs.Prelude.{Some, None, Ok, slice_get, slice_index, replicate}
use Rattle.std.proofs.Math.Nat.{div-add-mod}
use Rattle.std.proofs.lemmas.Bool.Decides.{nat_tests}
use Rattle.std.proofs.lemmas.List.{ext_get_or, get_or-map, get_or-take, length-map, length-take-le}
use Rattle.std.proofs.lemmas.Option.{slice_get-get_or}
use Rattle.iol_event.specs.declared.event.Event.{Event}
use Rattle.iol_event.specs.Memory.{octets_of, event_octet}
use Rattle.iol_event.specs.Reading.{marked_places, is_readable, places_size, place_address, next_address, IsEventList, reading}
use Rattle.iol_event.specs.Laws.{taken_from, answers, event_at}
use Rattle.iol_event.proofs.Places.{six, marked_places-first, is_readable-first, six-at}
use Rattle.iol_event.proofs.Steps.{so_far, next_address-so_far, so_far-next, so_far-more, so_far-last, answers-so_far}

-- an octet of a place by its address
octet_there : (es : List Event) (e : Event) (address k part : ℕ) → address ≡ 3 * k + part + 1
    → part < 3 → slice_get es k ≡ Some e
    → event_octet es address ≡ slice_index (octets_of e) part
unfolding event_octet
octet_there es e address k part is lt here =
    let behind : (address == 0) ≡ false = grind (arith, nat_tests) in
    let d : (address - 1) / 3 ≡ k = omega arith in
    let m : (address - 1) % 3 ≡ part = omega arith in
    rw (behind, d, m, here)

-- the event at a place
event_there : (es : List Event) (k : ℕ) (e : Event) → slice_get es k ≡ Some e
    → event_at (event_octet es) (k + 1) ≡ e
event_there es k e here =
    rw (
      octet_there es e (3 * (k + 1) - 2) k 0 (omega arith) (omega arith) here,
      octet_there es e (3 * (k + 1) - 1) k 1 (omega arith) (omega arith) here,
      octet_there es e (3 * (k + 1)) k 2 (omega arith) (omega arith) here,
      div-add-mod e.code 256,
    )

module _ (es : List Event) (h : IsEventList es) where
  places : marked_places (event_octet es 0) ≡ take (length es) six
  unfolding event_octet
  places = marked_places-first (length es) h.most

  readable : is_readable (event_octet es 0) ≡ true
  unfolding event_octet
  readable = is_readable-first (length es) h.some h.most

  filled : length (take (length es) six) ≡ length es
  filled = length-take-le (length es) six h.most

  size : places_size (event_octet es 0) ≡ 3 * length es
  size = ap (λ ps. 3 * length ps) places ∙ ap (λ n. 3 * n) filled

  place : (k : ℕ) → k < length es → get_or (take (length es) six) k 0 ≡ k + 1
  place k lt = get_or-take (length es) six k 0 lt ∙ six-at k (omega (arith, h.most))

  -- the places' octets stand from address 1 on
  address : (k : ℕ) → k < 3 * length es → place_address (event_octet es 0) k ≡ suc k
  address k lt =
      let at : get_or (marked_places (event_octet es 0)) (k / 3) 0 ≡ k / 3 + 1 =
      ap (λ xs. get_or xs (k / 3) 0) places ∙ place (k / 3) (omega arith) in
      omega (arith, at)

  -- they spell the events
  events : map (event_at (event_octet es)) (marked_places (event_octet es 0)) ≡ es
  events =
      let none : Event = record { qualifier = 0; code = 0 } in
      let long = length-map (take (length es) six) (event_at (event_octet es)) ∙ filled in
      rw places (ext_get_or none _ es long (λ k lt.
      get_or-map (event_at (event_octet es)) (take (length es) six) k 0 none
      (omega (arith, long, filled))
      ∙ ap (event_at (event_octet es)) (place k (omega (arith, long)))
      ∙ event_there es k (get_or es k none) (slice_get-get_or es k none (omega (arith, long)))))

  -- the octets at the first addresses are those that the reader has
  so_far-reading : (i : ℕ) → i ≤ suc (3 * length es) → reading es i ≡ so_far (event_octet es) i
  so_far-reading zero le = refl
  so_far-reading (suc zero) le = refl
  so_far-reading (suc (suc k)) le =
      ap (λ xs. xs ++ event_octet es (suc k) ∷ []) (so_far-reading (suc k) (omega arith))
      ∙ ap (λ a. so_far (event_octet es) (suc k) ++ event_octet es a ∷ [])
      (sym (address k (omega arith)))
      ∙ so_far-next (event_octet es) k (omega (arith, size))

  pub next_address-reading : (i : ℕ) → i ≤ 3 * length es → next_address (reading es i) ≡ i
  next_address-reading zero le = refl
  next_address-reading (suc k) le =
      ap next_address (so_far-reading (suc k) (omega arith))
      ∙ next_address-so_far (event_octet es) k (omega (arith, size))
      ∙ address k (omega arith)

  pub taken-more : (i : ℕ) → i < 3 * length es
      → taken_from (event_octet es) (reading es i)
      ≡ record { answer = Ok None; reader = reading es (i + 1) }
  taken-more i lt =
      ap (taken_from (event_octet es)) (so_far-reading i (omega arith))
      ∙ so_far-more (event_octet es) readable i (omega (arith, size))
      ∙ ap (λ xs. record { answer = Ok None; reader = xs })
      (sym (so_far-reading (suc i) (omega arith)) ∙ ap (reading es) (sym (add-one i)))

  pub taken-last : taken_from (event_octet es) (reading es (3 * length es))
      ≡ record { answer = Ok (Some es); reader = [] }
  taken-last =
      ap (taken_from (event_octet es)) (so_far-reading (3 * length es) (omega arith)
      ∙ ap (so_far (event_octet es)) (sym size))
      ∙ so_far-last (event_octet es) readable
      ∙ ap (λ xs. record { answer = Ok (Some xs); reader = [] }) events

  pub answers-frozen : answers (event_octet es) [] (3 * length es + 1)
      ≡ replicate (3 * length es) (Ok None) ++ Ok (Some es) ∷ []
  answers-frozen = rw add-one
      (answers-so_far (event_octet es) readable (3 * length es) 0 (omega (arith, size))
      ∙ ap (λ xs. replicate (3 * length es) (Ok None) ++ Ok (Some xs) ∷ []) events)
