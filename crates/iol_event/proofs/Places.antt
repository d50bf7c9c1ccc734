-- The places that a StatusCode marks, for the laws of reading and the clause `range` of
-- `marked_places`.
-- For the clauses of `status::marked_places`, `status::status_with`,
--     `laws::reading_gives_the_frozen_list` and `laws::reading_gives_the_marked_places`.
use Rattle.std.proofs.Common.{◌≡◌, ℕ, zero, suc, ◌+◌, ◌-◌, ◌*◌, ◌%◌, ◌^◌, ◌<◌, ◌≤◌, true, List, [], ◌∷◌, length, take, get_or, eqb, refl, arith, bit_or}
use Rattle.std.specs.Prelude.{All, bytes_eq}
use Rattle.std.proofs.lemmas.List.Elements.{All-filter, All-get_or, All-from_get_or}
use Rattle.std.proofs.lemmas.Bool.{agree_below_at, eqb-true}
use Rattle.std.proofs.lemmas.Slice.Eq.{bytes_eq-Decides}
use Rattle.iol_event.specs.Reading.{marks, marked_places, is_readable}

-- all places, in rising order
abbrev pub six : List ℕ
six = 1 ∷ 2 ∷ 3 ∷ 4 ∷ 5 ∷ 6 ∷ []

-- setting bit 7 above the bits of the places adds it
pub bit_or_status : (count : ℕ) → count ≤ 6
    → bit_or 128 (1 * 2 ^ count % 256 - 1) ≡ 128 + (2 ^ count - 1)
bit_or_status count h =
    eqb-true _ _ (agree_below_at (λ n. eqb (bit_or 128 (1 * 2 ^ n % 256 - 1))
    (128 + (2 ^ n - 1))) (λ _. true) 7 count refl (omega arith))

-- with the bits of the first places these are marked
pub marked_places-first : (count : ℕ) → count ≤ 6
    → marked_places (128 + (2 ^ count - 1)) ≡ take count six
marked_places-first count h =
    (bytes_eq-Decides _ _).0 (agree_below_at (λ n. bytes_eq (marked_places (128 + (2 ^ n - 1)))
    (take n six)) (λ _. true) 7 count refl (omega arith))

-- and it is one that can be read
pub is_readable-first : (count : ℕ) → 1 ≤ count → count ≤ 6
    → is_readable (128 + (2 ^ count - 1)) ≡ true
is_readable-first zero some h = absurd (omega arith)
is_readable-first (suc n) some h = agree_below_at
    (λ n. is_readable (128 + (2 ^ suc n - 1))) (λ _. true) 6 n refl (omega arith)

-- a place by its index
pub six-at : (index : ℕ) → index < 6 → get_or six index 0 ≡ index + 1
six-at index h = eqb-true _ _ (agree_below_at (λ n. eqb (get_or six n 0) (n + 1)) (λ _. true) 6
    index refl h)

-- each marked place is one of the six
pub marked_places-range : (status k : ℕ) → k < length (marked_places status)
    → (1 ≤ get_or (marked_places status) k 0) × (get_or (marked_places status) k 0 ≤ 6)
marked_places-range status k h =
    let all : All (λ p. (1 ≤ p) × (p ≤ 6)) six =
    All-from_get_or (λ p. (1 ≤ p) × (p ≤ 6)) six 0
    (λ i lt. let e = six-at i lt in (omega (arith, e), omega (arith, e))) in
    All-get_or (λ p. (1 ≤ p) × (p ≤ 6)) (marked_places status) k 0 h
    (All-filter (marks status) (λ p. (1 ≤ p) × (p ≤ 6)) six all)
