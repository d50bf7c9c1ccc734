-- The number of a segment (IEC 61131-9, 7.3.6).
use Rattle.std.specs.Prelude.{ℕ, ◌≤◌, ◌%◌}

-- the number of the segment of this place in its text: 15 is followed by 0
abbrev pub segment_number : ℕ → ℕ
segment_number place = place % 16

-- what a COUNT may say
abbrev pub IsSegmentNumber : ℕ → Type 0
IsSegmentNumber number = number ≤ 15
