-- A text cut into segments (IEC 61131-9, 7.3.6).
use Rattle.std.specs.Prelude.{Bool, true, false, ◌≡◌, ◌≤◌, ◌<◌, ℕ, zero, suc, ◌+◌, ◌-◌, ◌*◌, ◌/◌, ◌==◌, nat_lt, if◌then◌else◌, List, [], ◌∷◌, ◌++◌, length, take, drop, replicate, Option, Some, None, slice_get}
use Rattle.arrayvec.specs.ArrayVec.{ArrayVec}
use Rattle.iol_octets.specs.SegmentNumber.{segment_number}
use Rattle.iol_octets.specs.OdLength.{IsOdLength}
use Rattle.iol_octets.specs.declared.flow_control.Flow.{Flow}
use Rattle.iol_octets.specs.SegmentNumber.{segment_number}
use Rattle.iol_octets.specs.OdLength.{IsOdLength}
use Rattle.iol_octets.specs.declared.flow_control.Flow.TheVariants.{Start, Count}

-- segment i: the octets from i * size up to (i + 1) * size, filled up with 0
-- SEG-1
unfoldable pub segment : ℕ → List ℕ → ℕ → List ℕ
segment size text i = take size (drop (i * size) text ++ replicate size 0)

-- the flow of segment i: START, then COUNT 1, 2 and on, where 15 is followed by 0
-- SEG-2
abbrev pub flow_at : ℕ → Flow
flow_at i = if i == 0 then Start else Count (segment_number i)

-- how many segments a text has
abbrev pub segments : ℕ → List ℕ → ℕ
segments size text = (length text + (size - 1)) / size

-- segment i with its flow
abbrev pub pair : ℕ → List ℕ → ℕ → Flow × ArrayVec ℕ
pair size text i = (flow_at i, record { items = segment size text i })

-- the pairs from the i-th on, so many of them
abbrev pub pairs_from : ℕ → List ℕ → ℕ → ℕ → List (Flow × ArrayVec ℕ)
pairs_from size text i zero = []
pairs_from size text i (suc n) = pair size text i ∷ pairs_from size text (suc i) n

-- the cut of a text: its segments in order, each with its flow
abbrev pub cut_of : ℕ → List ℕ → List (Flow × ArrayVec ℕ)
cut_of size text = pairs_from size text 0 (segments size text)

-- segment i with its flow, none where the text has ended
abbrev pub pair_at : ℕ → List ℕ → ℕ → Option (Flow × ArrayVec ℕ)
pair_at size text i = if nat_lt (i * size) (length text) then Some (pair size text i) else None

-- pair after pair, and then none: that is the cut
abbrev pub CutIsPairs : ℕ → Type 0
CutIsPairs size = (text : List ℕ) (i : ℕ) → slice_get (cut_of size text) i ≡ pair_at size text i

-- each segment has the size
abbrev pub SegmentsHaveSize : Type 0
SegmentsHaveSize = (size : ℕ) (text : List ℕ) (i : ℕ) → length (segment size text i) ≡ size

-- What a contract sees of a cutter: the source, the size of a segment, how many were given
pub record Cutting (S : Type 0) : Type 0 where
  pub source : S
  pub size : ℕ
  pub issued : ℕ

-- what always holds of a cutter of a text: the last segment given begins within it
pub record IsBeingCut (text : List ℕ) (size issued : ℕ) : Type 0 where
  pub sized : IsOdLength size
  pub begins : (issued - 1) * size ≤ 237
  pub within : (issued - 1) * size < length text

-- once a segment was given, the head that is kept and the body are the text
abbrev pub KeepsHead : ℕ → List ℕ → List ℕ → List ℕ → Type 0
KeepsHead issued head body text =
    1 ≤ issued → (head ++ body ≡ text) × (length head + length body ≤ 237)

-- how many are given after one more call
abbrev pub after_next : ℕ → List ℕ → ℕ → ℕ
after_next size text i = if nat_lt (i * size) (length text) then i + 1 else i

-- the last pair given
abbrev pub last_issued : ℕ → List ℕ → ℕ → Option (Flow × ArrayVec ℕ)
last_issued size text zero = None
last_issued size text (suc i) = pair_at size text i

-- the segment of a pair is put at the end of octets, which stay where there is none
abbrev pub IsAppended : Option (Flow × ArrayVec ℕ) → List ℕ → Bool → List ℕ → Type 0
IsAppended None old result new = (result ≡ false) × (new ≡ old)
IsAppended (Some p) old result new = (result ≡ true) × (new ≡ old ++ p.1.items)
