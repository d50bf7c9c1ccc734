-- A text joined from its segments (IEC 61131-9, 7.3.6).
use Rattle.std.specs.Prelude.{◌≡◌, ℕ, ◌+◌, Bool, true, false, not, ◌&&◌, ◌==◌, nat_le, if◌then◌else◌, List, [], ◌++◌, length, take, Option, Some, None, Result, Ok, Err}
use Rattle.iol_octets.specs.SegmentNumber.{segment_number}
use Rattle.iol_octets.specs.declared.flow_control.Flow.{Flow}
use Rattle.iol_octets.specs.declared.flow_control.Flow.TheVariants.{Start, Count}
use Rattle.iol_isdu.specs.declared.fault.IsduFault.{IsduFault}
use Rattle.iol_isdu.specs.declared.fault.IsduFault.TheVariants as isdu
use Rattle.iol_isdu.specs.Frame.{total_at}
use Rattle.iol_segment.specs.declared.took.Took.{Took}
use Rattle.iol_segment.specs.declared.took.Took.TheVariants.{Repeat, More, Whole}
use Rattle.iol_segment.specs.declared.took.JoinFault.{JoinFault}
use Rattle.iol_segment.specs.declared.took.JoinFault.TheVariants.{WrongCount, BadIsduLength}

-- what joined octets are: too few yet, a text with octets behind it or none, or of
-- a total length that no text has
pub data Stage : Type 0 where
  Open : Stage
  Complete : List ℕ → Stage
  Wrong : Stage

-- octets with the total length that they begin with
abbrev pub stage_by : Result ℕ IsduFault → List ℕ → Stage
stage_by (Err isdu.Truncated) octets = Open
stage_by (Err any) octets = Wrong
stage_by (Ok n) octets = if nat_le n (length octets) then Complete (take n octets) else Open

-- SEG-5
abbrev pub stage : List ℕ → Stage
stage octets = stage_by (total_at octets) octets

-- a text grown by octets: the octets, or the text that they begin with
abbrev pub Grown : Stage → List ℕ → Result Took JoinFault → List ℕ → Type 0
Grown Open octets result text = (result ≡ Ok More) × (text ≡ octets)
Grown (Complete whole) octets result text = (result ≡ Ok Whole) × (text ≡ whole)
Grown Wrong octets result text = result ≡ Err BadIsduLength

-- there are as many octets as that length
abbrev pub is_whole_by : Result ℕ IsduFault → List ℕ → Bool
is_whole_by (Err fault) text = false
is_whole_by (Ok n) text = nat_le n (length text)

-- the text is as long as it says
abbrev pub is_whole : List ℕ → Bool
is_whole text = is_whole_by (total_at text) text

-- What a contract sees of a joiner: whether START was taken, the last COUNT behind it, the text so
-- far
pub record Joining : Type 0 where
  pub started : Bool
  pub count : Option ℕ
  pub text : List ℕ

-- nothing was taken
abbrev pub empty : Joining
empty = record { started = false; count = None; text = [] }

-- the answer to a segment, and the joiner after it
pub record JoinStep : Type 0 where
  pub took : Result Took JoinFault
  pub joining : Joining

-- a segment was taken under START, or under a COUNT, and the octets are these
-- SEG-5
abbrev pub stage_step : Option ℕ → List ℕ → Stage → JoinStep
stage_step count octets Open =
    record {
      took = Ok More;
      joining = record { started = true; count = count; text = octets };
    }
stage_step count octets (Complete text) =
    record {
      took = Ok Whole;
      joining = record { started = true; count = count; text = text };
    }
stage_step count octets Wrong = record { took = Err BadIsduLength; joining = empty }

-- 1 behind START, 0 behind 15
abbrev pub next_count : Option ℕ → ℕ
next_count None = segment_number 1
next_count (Some c) = segment_number (c + 1)

-- the COUNT was the last one taken; right behind START there is none
-- SEG-4
abbrev pub is_last : Option ℕ → ℕ → Bool
is_last None c = false
is_last (Some d) c = d == c

-- a COUNT once START was taken: the same again, the next, or a wrong one
-- SEG-3, SEG-4
abbrev pub count_step : Joining → ℕ → List ℕ → JoinStep
count_step j c octets =
    if is_last j.count c then record { took = Ok Repeat; joining = j } else
    if (c == next_count j.count) && not (is_whole j.text)
    then stage_step (Some c) (j.text ++ octets) (stage (j.text ++ octets)) else
    record { took = Err WrongCount; joining = empty }

-- a segment under its flow
-- SEG-3
abbrev pub join_step : Joining → Flow → List ℕ → JoinStep
join_step j Start octets = stage_step None octets (stage octets)
join_step j (Count c) octets = if j.started then count_step j c octets
    else record { took = Err WrongCount; joining = empty }
join_step j any octets = record { took = Err WrongCount; joining = empty }
