-- A joiner and the segments of a text, each given one or more times running.
use Rattle.std.specs.Prelude.{◌≡◌, ℕ, zero, suc, ◌*◌, ◌≤◌, ◌<◌, true, nat_le, if◌then◌else◌, List, [], ◌∷◌, ◌++◌, length, take, replicate, Option, Some, None, Result, Ok, IsTrue}
use Rattle.arrayvec.specs.ArrayVec.{ArrayVec}
use Rattle.iol_octets.specs.SegmentNumber.{segment_number}
use Rattle.iol_octets.specs.declared.flow_control.Flow.{Flow}
use Rattle.iol_segment.specs.declared.took.Took.{Took}
use Rattle.iol_segment.specs.declared.took.Took.TheVariants.{Repeat, More, Whole}
use Rattle.iol_segment.specs.declared.took.JoinFault.{JoinFault}
use Rattle.iol_segment.specs.Cut.{segment, flow_at, cut_of}
use Rattle.iol_segment.specs.Join.{Joining, join_step, is_whole}
use Rattle.iol_segment.specs.TextLaws.{HoldsLength}

-- the answers of a joiner to pairs of a flow and a segment
abbrev pub results : Joining → List (Flow × ArrayVec ℕ) → List (Result Took JoinFault)
results j [] = []
results j (p ∷ ps) = (join_step j p.0 p.1.items).took ∷ results
    (join_step j p.0 p.1.items).joining ps

-- and the joiner after them
abbrev pub joiner_after : Joining → List (Flow × ArrayVec ℕ) → Joining
joiner_after j [] = j
joiner_after j (p ∷ ps) = joiner_after (join_step j p.0 p.1.items).joining ps

-- each pair once and so many times more
abbrev pub with_repeats : List (Flow × ArrayVec ℕ) → List ℕ → List (Flow × ArrayVec ℕ)
with_repeats (p ∷ ps) (n ∷ ns) = p ∷ replicate n p ++ with_repeats ps ns
with_repeats [] ns = []
with_repeats (p ∷ ps) [] = []

-- the answer to the first giving of a pair, so many pairs behind it
abbrev pub first_took : List ℕ → Took
first_took [] = Whole
first_took (n ∷ ns) = More

-- the answers to the pairs behind START
abbrev pub answers_behind : List ℕ → List (Result Took JoinFault)
answers_behind [] = []
answers_behind (n ∷ ns) = Ok (first_took ns) ∷ replicate n (Ok Repeat) ++ answers_behind ns

-- the answers to all pairs: START is taken each time that it is given
abbrev pub expected_results : List ℕ → List (Result Took JoinFault)
expected_results [] = []
expected_results (n ∷ ns) = Ok (first_took ns) ∷ replicate n (Ok (first_took ns))
    ++ answers_behind ns

-- the COUNT of segment i, none for START
abbrev pub count_at : ℕ → Option ℕ
count_at zero = None
count_at (suc i) = Some (segment_number (suc i))

-- the joiner that has the segments up to the i-th
abbrev pub joiner_at : ℕ → List ℕ → ℕ → Joining
joiner_at size text i =
    record {
      started = true;
      count = count_at i;
      text = take (suc i * size) text;
    }

-- the answer to segment i
abbrev pub took_at : ℕ → List ℕ → ℕ → Took
took_at size text i = if nat_le (length text) (suc i * size) then Whole else More

-- for a text that holds its own length, in segments of this size
-- SEG-6
pub record JoinLaws (size : ℕ) : Type 0 where
  -- the whole cut, each pair one or more times running, given to any joiner
  pub answers : (j : Joining) (text more : List ℕ) → HoldsLength text
      → length more ≡ length (cut_of size text)
      → results j (with_repeats (cut_of size text) more) ≡ expected_results more
  -- and the joiner after it has the text
  pub joins : (j : Joining) (text more : List ℕ) → HoldsLength text
      → length more ≡ length (cut_of size text)
      → (joiner_after j (with_repeats (cut_of size text) more)).text ≡ text
  -- such a text is whole, so the joiner may be asked for its value
  pub ready : (text : List ℕ) → HoldsLength text → IsTrue (is_whole text)
  -- one step each: START to any joiner, the next COUNT, the same again
  pub first : (j : Joining) (text : List ℕ) → HoldsLength text
      → join_step j (flow_at 0) (segment size text 0)
      ≡ record { took = Ok (took_at size text 0); joining = joiner_at size text 0 }
  pub next : (text : List ℕ) (i : ℕ) → HoldsLength text
      → suc i * size < length text →
      join_step (joiner_at size text i) (flow_at (suc i)) (segment size text (suc i))
      ≡ record {
        took = Ok (took_at size text (suc i));
        joining = joiner_at size text (suc i);
      }
  pub repeated : (text : List ℕ) (i : ℕ) (octets : List ℕ) →
      join_step (joiner_at size text (suc i)) (flow_at (suc i)) octets
      ≡ record { took = Ok Repeat; joining = joiner_at size text (suc i) }
  -- with the last segment the joiner has the text
  pub whole : (text : List ℕ) (i : ℕ) → length text ≤ suc i * size
      → (joiner_at size text i).text ≡ text
