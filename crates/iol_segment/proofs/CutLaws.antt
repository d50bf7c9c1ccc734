-- The cut of a text, pair by pair: the laws of `cut_is_whole`. Begin at `cut_is_pairs`.
-- For the clauses of `laws::cut_is_whole`, `laws::segments_join`, `laws::texts_join` and
--     `iol_by_the_rules::laws::ports_are_by_the_rules`.
use Rattle.std.proofs.Common.{◌≡◌, ℕ, zero, suc, ◌+◌, ◌-◌, ◌*◌, ◌<◌, ◌≤◌, nat_lt, if◌then◌else◌, List, length, refl, ap, arith, Some, None}
use Rattle.std.specs.Prelude.{slice_get}
use Rattle.std.proofs.lemmas.Bool.Decides.{nat_tests}
use Rattle.std.proofs.lemmas.Grind.{common_steps}
use Rattle.std.proofs.Math.Nat.{div-mul-le_self, lt-div-mul-add, mul-le-mul_right}
use Rattle.iol_segment.specs.Cut.{segment, segments, pair, pairs_from, CutIsPairs, SegmentsHaveSize}

pub segments_have_size : SegmentsHaveSize
unfolding segment
segments_have_size size text i = grind (arith, common_steps)

-- each segment begins within the text, and the text ends in the last one
pub segments-low : (size : ℕ) (text : List ℕ) (i : ℕ) → 1 ≤ size → i < segments size text
    → i * size < length text
segments-low size text i low less =
    let below = div-mul-le_self (length text + (size - 1)) size in
    let more : suc i * size ≤ segments size text * size = mul-le-mul_right size less in omega arith

pub segments-past : (size : ℕ) (text : List ℕ) (i : ℕ) → 1 ≤ size → segments size text ≤ i
    → length text ≤ i * size
segments-past size text i low more =
    let above : length text + (size - 1) < segments size text * size + size = lt-div-mul-add low in
    let past : segments size text * size ≤ i * size = mul-le-mul_right size more in omega arith

pub length-pairs_from : (size : ℕ) (text : List ℕ) (i n : ℕ) → length (pairs_from size text i n) ≡ n
length-pairs_from size text i zero = refl
length-pairs_from size text i (suc n) = ap suc (length-pairs_from size text (suc i) n)

pairs_from-get : (size : ℕ) (text : List ℕ) (i n k : ℕ)
    → slice_get (pairs_from size text i n) k
    ≡ (if nat_lt k n then Some (pair size text (i + k)) else None)
pairs_from-get size text i zero k = grind (arith, nat_tests, common_steps)
pairs_from-get size text i (suc n) zero = grind (arith, nat_tests, common_steps)
pairs_from-get size text i (suc n) (suc k) =
    grind (arith, nat_tests, pairs_from-get size text (suc i) n k)

pub cut_is_pairs : (size : ℕ) → 1 ≤ size → CutIsPairs size
cut_is_pairs size low text i =
    let get = pairs_from-get size text 0 (segments size text) i in
    grind (arith, nat_tests, segments-low size text i low, segments-past size text i low)
