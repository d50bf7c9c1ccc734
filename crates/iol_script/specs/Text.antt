-- The lines of a text, and the words of a line.
use Rattle.std.specs.Prelude.{ℕ, ◌+◌, Option, Some, None, Result, Ok, Err, List, [], ◌∷◌, length, nat_le, ◌==◌, if◌then◌else◌}
use Rattle.std.specs.Option.{ok_or, option_map_or}
use Rattle.std.specs.List.{slice_split, onto_first, enumerate_from}
use Rattle.iol_script.specs.declared.parts.TextLines.{TextLines}
use Rattle.iol_script.specs.declared.parts.Words.{Words}

-- the lines: each ends with a line feed, which the last may lack
abbrev pub lines_of : List ℕ → List (List ℕ)
lines_of [] = []
lines_of (c ∷ text) = if c == 10 then [] ∷ lines_of text else onto_first c (lines_of text)

-- the lines with their numbers, from 1 on
abbrev pub numbered_lines : List ℕ → List (ℕ × List ℕ)
numbered_lines text = enumerate_from 1 (lines_of text)

-- the words: one space stands between two of them
abbrev pub words_of : List ℕ → List (List ℕ)
words_of line = slice_split (λ b. b == 32) line

-- the words of a line of any length: a blank line and a comment, which begins with `#`, have none
abbrev pub text_words : List ℕ → List (List ℕ)
text_words [] = []
text_words (c ∷ line) = if c == 35 then [] else words_of (c ∷ line)

-- the words of a line, which has at most 1,024 bytes
abbrev pub line_words : List ℕ → Option (List (List ℕ))
line_words line = if nat_le (length line) 1024 then Some (text_words line) else None

-- the lines that an iterator has left, with their numbers
abbrev pub lines_left : TextLines → List (ℕ × List ℕ)
lines_left lines = enumerate_from (lines.yielded + 1) (lines_of lines.left.now)

-- the value, where no word is left
abbrev pub alone : {T : Type 0} → Option T → List (List ℕ) → Option T
alone value [] = value
alone value (word ∷ words) = None

-- the words that an iterator has left
abbrev pub words_left : Words → List (List ℕ)
words_left words = option_map_or (λ text. words_of text.now) words.left []

-- what is read after one more line with its number, or the number of the first bad line
abbrev pub line_read : {D : Type 0} → (D → List ℕ → Option D) → Result D ℕ → ℕ × List ℕ
    → Result D ℕ
line_read after (Err bad) line = Err bad
line_read after (Ok draft) line = ok_or (after draft line.1) line.0
