-- A segment piece by piece, as `put_piece` and `put_segment` put it behind other octets.
-- For the clauses of `cutter::put_piece` and `cutter::put_segment`.
use Rattle.std.proofs.Common.{◌≡◌, ℕ, zero, suc, ◌+◌, ◌-◌, ◌*◌, ◌<◌, ◌≤◌, List, [], ◌∷◌, ◌++◌, length, take, drop, replicate, refl, sym, ap, ◌∙◌, append_assoc, length-append, arith}
use Rattle.std.proofs.lemmas.Grind.{common_steps}
use Rattle.std.proofs.lemmas.List.{drop-append-le, take-replicate}
use Rattle.std.proofs.Math.Seq.{take-append-add}
use Rattle.iol_isdu.specs.Frame.{xor_of}
use Rattle.iol_isdu.specs.Texts.{with_chkpdu}
use Rattle.iol_segment.specs.Cut.{segment}

drop-append : (n : ℕ) (xs ys : List ℕ) → drop n (xs ++ ys) ≡ drop n xs ++ drop (n - length xs) ys
drop-append zero xs ys = grind arith
drop-append (suc n) [] ys = let all : suc n - 0 ≡ suc n = omega arith in rw all refl
drop-append (suc n) (x ∷ xs) ys = grind (arith, drop-append n xs ys)

take-front : (n : ℕ) (xs ys : List ℕ) → take n (take n xs ++ ys) ≡ take n (xs ++ ys)
take-front n xs ys = grind (arith, common_steps)

-- behind other octets, the piece of a front that is in two pieces
pub piece-behind : (size from : ℕ) (old head octets one : List ℕ)
    → one ≡ take size (old ++ drop from head)
    → take size (one ++ drop (from - length head) octets)
    ≡ take size (old ++ drop from (head ++ octets))
piece-behind size from old head octets one first =
    rw (first, take-front, append_assoc, drop-append) refl

-- as many zeros as may be wanted are enough
take-fill : (n m k : ℕ) (xs : List ℕ) → length xs ≤ n → n ≤ length xs + m → n ≤ length xs + k
    → take n (xs ++ replicate m 0) ≡ take n (xs ++ replicate k 0)
take-fill n m k xs low h g =
    let more : n ≡ length xs + (n - length xs) = omega arith in
    rw more (rw (
      take-append-add,
      take-append-add,
      take-replicate {X = ℕ} (n - length xs) m 0 (omega arith),
      take-replicate {X = ℕ} (n - length xs) k 0 (omega arith),
    ) refl)

-- The segment of a text behind other octets
module _ (size i : ℕ) (old front piece : List ℕ) (fits : i * size ≤ length front)
    (is : piece ≡ take (length old + size) (old ++ drop (i * size) front)) where
  whole : old ++ segment size (with_chkpdu front) i
      ≡ take (length old + size) ((old ++ drop (i * size) front) ++ xor_of front ∷ replicate size 0)
  unfolding segment
  whole = rw (drop-append-le (i * size) front (xor_of front ∷ []) fits)
      (sym (take-append-add old _ size) ∙ simp append_assoc)

  -- it is full, or the CHKPDU and zeros follow
  pub behind-full : length old + size ≤ length piece
      → piece ≡ old ++ segment size (with_chkpdu front) i
  behind-full full = rw whole (grind (arith, common_steps))

  pub behind-last : (most : ℕ) → size ≤ most → length piece < length old + size
      → take (length old + size) ((piece ++ xor_of front ∷ []) ++ replicate most 0)
      ≡ old ++ segment size (with_chkpdu front) i
  behind-last most enough short =
      let rest : List ℕ = old ++ drop (i * size) front in
      let all : piece ≡ rest = grind (arith, common_steps) in
      let long = length-append rest (xor_of front ∷ []) in
      let behind = length-append old (drop (i * size) front) in
      let less = ap length all in
      rw (all, whole) (take-fill (length old + size) most size (rest ++ xor_of front ∷ [])
      (omega arith) (omega arith) (omega arith)
      ∙ ap (take (length old + size)) (append_assoc rest (xor_of front ∷ []) (replicate size 0)))
