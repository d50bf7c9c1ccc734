-- One flipped bit is seen by the checksum, and octets have theirs once it is put in. Begin at
-- `flip_is_detected` and `checksums_fit`, the laws; `has_checksum6` needs `has_checksum-is`.
-- For the clauses of `checksum::checksum6`, `checksum::has_checksum6`, `laws::checksums_fit` and
--     `laws::one_flip_is_seen`.
use Rattle.std.proofs.Common.{◌≡◌, ◌≢◌, ℕ, ◌+◌, ◌*◌, ◌/◌, ◌%◌, ◌^◌, ◌<◌, ◌≤◌, inl, inr, zero, suc, Bool, true, not, eqb, ltb, leb, ◌&&◌, ◌||◌, List, [], ◌∷◌, length, get_or, set, fold, refl, sym, ap, ◌∙◌, arith, bit_and, bit_xor}
use Rattle.std.proofs.lemmas.Bool.Decides.{nat_tests}
use Rattle.std.proofs.lemmas.Grind.{common_steps}
use Rattle.std.proofs.lemmas.Bool.{agree_below, agree_below_at, not-true, eqb-true, eqb-false, cases_eq, cases_lt}
use Rattle.std.proofs.lemmas.Nat.{and_mask}
use Rattle.std.proofs.lemmas.List.{set_comm, set-get_or, set-set, length-set, get_or-set_other, get_or-set_same}
use Rattle.std.specs.Int.Bits.{xor_assoc, xor_comm, xor_self, xor_lt}
use Rattle.iol_octets.proofs.Tables.{compressed_small}
use Rattle.iol_octets.specs.Checksum.{seeded_xor, six_bits_of, checksum_of, without_checksum, has_checksum, with_flip, AreOctets, ChecksumsFit}

-- a test that each octet passes with each bit
each_flip : (test : ℕ → ℕ → Bool)
    → agree_below (λ n. test (n / 8) (n % 8)) (λ _. true) 2048 ≡ true → (octet bit : ℕ)
    → octet < 256 → bit < 8 → test octet bit ≡ true
each_flip test all octet bit ho hb =
    let q : (octet * 8 + bit) / 8 ≡ octet = omega arith in
    let r : (octet * 8 + bit) % 8 ≡ bit = omega arith in
    rw (q, r) at (agree_below_at (λ n. test (n / 8) (n % 8)) (λ _. true) 2048 (octet * 8 + bit) all
    (omega arith))

-- a flipped bit of the sum changes the six bits
compressed_flip : (sum bit : ℕ) → sum < 256 → bit < 8
    → six_bits_of (bit_xor sum (2 ^ bit)) ≢ six_bits_of sum
unfolding six_bits_of
compressed_flip sum bit hs hb =
    eqb-false _ _ (not-true _ (each_flip
    (λ s b. not (eqb (six_bits_of (bit_xor s (2 ^ b))) (six_bits_of s))) refl sum bit hs hb))

-- a flip of a low bit leaves the high two and changes the low six
flip_low : (octet bit : ℕ) → octet < 256 → bit < 6
    → (bit_xor octet (2 ^ bit) / 64 ≡ octet / 64) × (bit_xor octet (2 ^ bit) % 64 ≢ octet % 64)
flip_low octet bit h low =
    let e = each_flip (λ o b. leb 6 b || (eqb (bit_xor o (2 ^ b) / 64) (o / 64)
    && not (eqb (bit_xor o (2 ^ b) % 64) (o % 64)))) refl octet bit h (omega arith) in
    grind (arith, nat_tests)

-- a flip of a high bit leaves the low six
flip_high : (octet bit : ℕ) → octet < 256 → bit < 8 → 6 ≤ bit
    → (bit_xor octet (2 ^ bit) % 64 ≡ octet % 64)
    × (64 * (bit_xor octet (2 ^ bit) / 64) ≡ bit_xor (64 * (octet / 64)) (2 ^ bit))
flip_high octet bit h b high =
    let e = each_flip (λ o b. ltb b 6 || (eqb (bit_xor o (2 ^ b) % 64) (o % 64)
    && eqb (64 * (bit_xor o (2 ^ b) / 64)) (bit_xor (64 * (o / 64)) (2 ^ b)))) refl octet bit h b in
    grind (arith, nat_tests)

-- a value is taken out of an XOR by itself
xor_twice : (a b : ℕ) → bit_xor a (bit_xor a b) ≡ b
xor_twice a b = grind (arith, common_steps, xor_assoc a a b, xor_self a)

fold-seed : (seed more : ℕ) (octets : List ℕ)
    → fold bit_xor (bit_xor seed more) octets ≡ bit_xor (fold bit_xor seed octets) more
fold-seed seed more [] = refl
fold-seed seed more (x ∷ xs) =
    let turned = xor_comm more x in let first = xor_assoc seed more x in
    let second = xor_assoc seed x more in grind (arith, fold-seed (bit_xor seed x) more xs)

-- the sum of octets of which one has another value
fold-set : (seed : ℕ) (octets : List ℕ) (i v : ℕ) → i < length octets
    → fold bit_xor seed (set octets i v)
    ≡ bit_xor (fold bit_xor seed octets) (bit_xor (get_or octets i 0) v)
fold-set seed [] i v h = absurd (omega arith)
fold-set seed (x ∷ xs) zero v h =
    let first = fold-seed seed x xs in let second = fold-seed seed v xs in
    let third = xor_assoc (fold bit_xor seed xs) x (bit_xor x v) in grind (arith, xor_twice x v)
fold-set seed (x ∷ xs) (suc i) v h = fold-set (bit_xor seed x) xs i v (omega arith)

fold_small : (seed : ℕ) (octets : List ℕ) → seed < 256 → AreOctets octets
    → fold bit_xor seed octets < 256
fold_small seed [] h a = h
fold_small seed (x ∷ xs) h a = fold_small (bit_xor seed x) xs (xor_lt 8 seed x h (a 0))
    (λ i. a (suc i))

-- the sum with one bit flipped in an octet of the list
folded-flip : (octets : List ℕ) (place bit : ℕ) → place < length octets
    → seeded_xor (with_flip octets place bit) ≡ bit_xor (seeded_xor octets) (2 ^ bit)
folded-flip octets place bit h =
    fold-set 0x52 octets place _ h ∙ ap (bit_xor (seeded_xor octets))
    (xor_twice (get_or octets place 0) (2 ^ bit))

AreOctets-cleared : (octets : List ℕ) (at : ℕ) → AreOctets octets → at < length octets
    → AreOctets (without_checksum at octets)
AreOctets-cleared octets at a h = λ i. let here = a at in let there = a i in
    grind (arith, common_steps)

-- One bit of octets that have their checksum is flipped, and they have it still
module _ (octets : List ℕ) (at place bit : ℕ) (a : AreOctets octets) (h : at < length octets)
    (p : place < length octets) (b : bit < 8) (good : has_checksum at octets ≡ true)
    (bad : has_checksum at (with_flip octets place bit) ≡ true) where
  abbrev other : List ℕ
  other = with_flip octets place bit

  -- the flipped bit is one of the cleared octets too: the sum changes, and the checksum doesn't
  sums_differ : without_checksum at other ≡ with_flip (without_checksum at octets) place bit
      → get_or other at 0 % 64 ≡ get_or octets at 0 % 64 → ⊥
  unfolding has_checksum checksum_of
  sums_differ same low =
      compressed_flip (seeded_xor (without_checksum at octets)) bit
      (fold_small 0x52 (without_checksum at octets) (omega arith)
      (AreOctets-cleared octets at a h)) b
      (sym (eqb-true _ _ (rw (
        same,
        low,
        folded-flip (without_checksum at octets) place bit (rw length-set p),
      ) at bad)) ∙ eqb-true _ _ good)

  found_elsewhere : place ≢ at → ⊥
  found_elsewhere n =
      let here = get_or-set_other octets place at (bit_xor (get_or octets place 0) (2 ^ bit)) 0
      (λ e. n (sym e)) in
      let there = get_or-set_other octets at place (64 * (get_or octets at 0 / 64)) 0 n in
      sums_differ (rw (here, there) (set_comm octets place at _ _ n)) (rw here refl)

  -- in the octet that has the checksum, the bit is one of the checksum's or it isn't
  found_low : place ≡ at → bit < 6 → ⊥
  unfolding has_checksum checksum_of
  found_low e low =
      let flip = flip_low (get_or octets at 0) bit (a at) low in
      flip.1 (eqb-true _ _ (rw (get_or-set_same octets at _ 0 h, set-set, flip.0) at (rw e at bad))
      ∙ sym (eqb-true _ _ good))

  found_high : place ≡ at → 6 ≤ bit → ⊥
  found_high e high =
      let flip = flip_high (get_or octets at 0) bit (a at) b high in
      let put = λ (v : ℕ). get_or-set_same octets at v 0 h in
      sums_differ (rw e (rw (put, put, set-set, set-set, flip.1) refl)) (rw e (rw put flip.0))

  pub flip_is_detected : ⊥
  flip_is_detected = elim (cases_eq place at) [
    | inl e ↦ elim (cases_lt bit 6) [ inl low ↦ found_low e low | inr high ↦ found_high e high ]
    | inr n ↦ found_elsewhere n
  ]

-- six bits, in octets of any size, which then have them
sum_small : (octets : List ℕ) → checksum_of octets < 64
unfolding checksum_of
sum_small octets = compressed_small (seeded_xor octets)

pub checksums_fit : ChecksumsFit
unfolding has_checksum
checksums_fit octets = (
  sum_small octets,
  λ place h clear.
      let small = sum_small octets in
      let v : ℕ = get_or octets place 0 + checksum_of octets in
      let high : 64 * (v / 64) ≡ get_or octets place 0 = omega arith in
      rw (
        get_or-set_same octets place v 0 h,
        set-set octets place v _,
        high,
        set-get_or octets place 0,
      ) (grind (arith, nat_tests)),
)

-- the test as the code makes it
pub has_checksum-is : (octets : List ℕ) (place : ℕ) → AreOctets octets → place < length octets
    → eqb (bit_and (get_or octets place 0) 63)
    (six_bits_of (bit_xor (seeded_xor octets) (bit_and (get_or octets place 0) 63)))
    ≡ has_checksum place octets
unfolding has_checksum checksum_of
has_checksum-is octets place a h =
    let low : bit_xor (get_or octets place 0) (64 * (get_or octets place 0 / 64))
    ≡ bit_and (get_or octets place 0) 63 =
    eqb-true _ _ (agree_below_at (λ n. eqb (bit_xor n (64 * (n / 64))) (bit_and n 63))
    (λ _. true) 256 (get_or octets place 0) refl (a place)) in
    rw (fold-set 0x52 octets place _ h, low, and_mask (get_or octets place 0) 6) refl
