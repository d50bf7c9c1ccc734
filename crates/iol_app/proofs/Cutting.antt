-- The segments of a request, one after the other.
-- For the clauses of `PortSession::absorb`, `PortSession::miss_confirm`,
--     `PortSession::miss_request` and 19 more.
use Rattle.std.proofs.lemmas.Grind.{common_steps}
use Rattle.std.proofs.Common.{◌≡◌, ℕ, zero, suc, ◌*◌, ◌<◌, ◌≤◌, List, length, arith, Some}
use Rattle.arrayvec.specs.ArrayVec.{ArrayVec}
use Rattle.iol_octets.specs.declared.flow_control.Flow.{Flow}
use Rattle.iol_isdu.specs.declared.values.Request.{Request}
use Rattle.iol_isdu.specs.Texts.{IsRequest}
use Rattle.iol_segment.specs.Cut.{Cutting, segment, flow_at, pair_at, last_issued}
use Rattle.iol_app.specs.declared.request.Current.{Current}
use Rattle.iol_app.specs.Requests.{text_of, current_after_segment, IsCurrent}

-- a segment has its size
pub length-segment : (size : ℕ) (text : List ℕ) (i : ℕ) → length (segment size text i) ≡ size
unfolding segment
length-segment size text i = grind (arith, common_steps)

-- the pair is that of segment i of the text
pub record IsPair (size : ℕ) (text : List ℕ) (i : ℕ) (flow : Flow) (piece : ArrayVec ℕ) : Type 0
  where
    pub within : i * size < length text
    pub flow_is : flow ≡ flow_at i
    pub octets : piece.items ≡ segment size text i

pub is_pair : (size : ℕ) (text : List ℕ) (i : ℕ) (flow : Flow) (piece : ArrayVec ℕ)
    → pair_at size text i ≡ Some (flow, piece) → IsPair size text i flow piece
is_pair size text i flow piece e = grind (arith, common_steps)

-- the text goes on behind the segments given
abbrev pub GoesOn : ℕ → List ℕ → ℕ → Type 0
GoesOn size text zero = Unit {0}
GoesOn size text (suc i) = i * size < length text

pub issued_goes_on : (size : ℕ) (text : List ℕ) (issued : ℕ) (flow : Flow) (piece : ArrayVec ℕ)
    → last_issued size text issued ≡ Some (flow, piece) → GoesOn size text issued
issued_goes_on size text issued flow piece e = grind (arith, common_steps)

-- on to the next segment, or to asking
pub sent_on_fits : (current : Current) → let cutter : Cutting Request = current.cutter in
    IsRequest cutter.source
    → 1 ≤ cutter.size → cutter.size ≤ 32 → 0 < length (text_of cutter)
    → GoesOn cutter.size (text_of cutter) cutter.issued → IsCurrent (current_after_segment current)
sent_on_fits current request some most text on = grind (arith, common_steps)
