-- What a reader does with the octets of a device, and the events that it gives: the law of the
-- marked places. Begin at `so_far`.
-- For the clauses of `laws::reading_gives_the_marked_places` and
--     `laws::reading_gives_the_frozen_list`.
use Rattle.std.proofs.Common.{◌≡◌, ℕ, zero, suc, ◌+◌, ◌-◌, ◌*◌, ◌/◌, ◌%◌, ◌<◌, ◌≤◌, Bool, true, false, List, [], ◌∷◌, ◌++◌, length, take, get_or, ltb, map, refl, sym, ◌∙◌, ap, arith}
use Rattle.std.specs.Prelude.{Some, None, Ok, replicate}
use Rattle.std.proofs.Math.Seq.{take-suc}
use Rattle.std.proofs.lemmas.Bool.{lt-ltb, le-ltb}
use Rattle.std.proofs.lemmas.List.{length-take-le, take_all}
use Rattle.iol_event.specs.Reading.{marked_places, is_readable, places_size, place_address, events_of, next_address, taken_all}
use Rattle.iol_event.specs.Laws.{taken_from, answers, event_at}
use Rattle.iol_event.proofs.Places.{marked_places-range}

module _ (device : ℕ → ℕ) where
  -- the octets at the addresses of places
  abbrev octets_at : List ℕ → List ℕ
  octets_at [] = []
  octets_at (p ∷ ps) = device (3 * p - 2) ∷ device (3 * p - 1) ∷ device (3 * p) ∷ octets_at ps

  length-octets_at : (ps : List ℕ) → length (octets_at ps) ≡ 3 * length ps
  length-octets_at [] = refl
  length-octets_at (p ∷ ps) = omega (arith, length-octets_at ps)

  events_of-octets_at : (ps : List ℕ) → events_of (octets_at ps) ≡ map (event_at device) ps
  events_of-octets_at [] = refl
  events_of-octets_at (p ∷ ps) = ap (λ es. event_at device p ∷ es) (events_of-octets_at ps)

  -- an octet by its index: places begin at 1
  octets_at-index : (ps : List ℕ) → ((i : ℕ) → i < length ps → 1 ≤ get_or ps i 0)
      → (k : ℕ) → k < 3 * length ps
      → device (3 * get_or ps (k / 3) 0 - 2 + k % 3) ≡ get_or (octets_at ps) k 0
  octets_at-index [] h k lt = absurd (omega arith)
  octets_at-index (p ∷ ps) h zero lt = ap device (omega arith)
  octets_at-index (p ∷ ps) h (suc zero) lt = let one : 1 ≤ p = h 0 (omega arith) in
      ap device (omega arith)
  octets_at-index (p ∷ ps) h (suc (suc zero)) lt = let one : 1 ≤ p = h 0 (omega arith) in
      ap device (omega arith)
  octets_at-index (p ∷ ps) h (suc (suc (suc k))) lt =
      let d : suc (suc (suc k)) / 3 ≡ suc (k / 3) = omega arith in
      let m : suc (suc (suc k)) % 3 ≡ k % 3 = omega arith in
      rw (d, m) (octets_at-index ps (λ i below. h (suc i) (omega arith)) k (omega arith))

  abbrev octets : List ℕ
  octets = octets_at (marked_places (device 0))

  abbrev size : ℕ
  size = places_size (device 0)

  long : length octets ≡ size
  long = length-octets_at (marked_places (device 0))

  -- the first octets of a reading
  abbrev pub so_far : ℕ → List ℕ
  so_far zero = []
  so_far (suc k) = device 0 ∷ take k octets

  pub next_address-so_far : (k : ℕ) → k ≤ size
      → next_address (so_far (suc k)) ≡ place_address (device 0) k
  next_address-so_far k le =
      ap (place_address (device 0)) (length-take-le k octets (omega (arith, long)))

  -- the next one is that of its address
  pub so_far-next : (k : ℕ) → k < size
      → so_far (suc k) ++ device (place_address (device 0) k) ∷ [] ≡ so_far (suc (suc k))
  so_far-next k lt =
      ap (λ o. device 0 ∷ (take k octets ++ o ∷ [])) (octets_at-index (marked_places (device 0))
      (λ i below. (marked_places-range (device 0) i below).0) k lt)
      ∙ ap (λ xs. device 0 ∷ xs) (sym (take-suc octets k 0 (omega (arith, long))))

  taken_from-so_far : (i : ℕ) → i ≤ size → taken_from device (so_far i) ≡ taken_all (so_far (suc i))
  taken_from-so_far zero le = refl
  taken_from-so_far (suc k) le =
      ap (λ a. taken_all (so_far (suc k) ++ device a ∷ [])) (next_address-so_far k (omega arith))
      ∙ ap taken_all (so_far-next k (omega arith))

  module _ (readable : is_readable (device 0) ≡ true) where
    -- whether more octets are wanted
    wanted : (i : ℕ) (b : Bool) → i ≤ size → ltb i size ≡ b → ltb (length (take i octets)) size ≡ b
    wanted i b le e = ap (λ n. ltb n size) (length-take-le i octets (omega (arith, long))) ∙ e

    pub so_far-more : (i : ℕ) → i < size
        → taken_from device (so_far i) ≡ record { answer = Ok None; reader = so_far (suc i) }
    so_far-more i lt = taken_from-so_far i (omega arith)
        ∙ rw (readable, wanted i true (omega arith) (lt-ltb i size lt))

    pub so_far-last : taken_from device (so_far size)
        ≡ record {
          answer = Ok (Some (map (event_at device) (marked_places (device 0))));
          reader = [];
        }
    so_far-last = taken_from-so_far size (omega arith)
        ∙ rw (readable, wanted size false (omega arith) (le-ltb size size (omega arith)))
        (ap (λ xs. record { answer = Ok (Some (events_of xs)); reader = [] })
        (take_all size octets (omega (arith, long)))
        ∙ ap (λ es. record { answer = Ok (Some es); reader = [] })
        (events_of-octets_at (marked_places (device 0))))

    pub answers-so_far : (k i : ℕ) → i + k ≡ size → answers device (so_far i) (suc k)
        ≡ replicate k (Ok None)
        ++ Ok (Some (map (event_at device) (marked_places (device 0)))) ∷ []
    answers-so_far zero i e =
        let all : i ≡ size = omega arith in
        ap (λ n. (taken_from device (so_far n)).answer ∷ []) all
        ∙ ap (λ t. t.answer ∷ []) so_far-last
    answers-so_far (suc k) i e =
        ap (λ t. t.answer ∷ answers device t.reader (suc k)) (so_far-more i (omega arith))
        ∙ ap (λ xs. Ok None ∷ xs) (answers-so_far k (suc i) (omega arith))
