-- What is explained of a bad line.
use Rattle.std.specs.Prelude.{ℕ, ◌+◌, ◌-◌, ◌≤◌, ◌==◌, Bool, true, false, Option, Some, None, List, [], ◌∷◌, length, if◌then◌else◌}
use Rattle.iol_script.specs.Text.{numbered_lines}
use Rattle.iol_why.specs.declared.retained.RetainedText.{RetainedText}
use Rattle.iol_why.specs.declared.mistake.Fault.{Fault}
use Rattle.iol_why.specs.declared.mistake.Fault.TheVariants as fault

-- the line of this number
abbrev pub line_numbered : List (ℕ × List ℕ) → ℕ → Option (List ℕ)
line_numbered [] number = None
line_numbered ((n, line) ∷ lines) number =
    if n == number then Some line else line_numbered lines number

-- the same, where so many lines stand above those that are kept
abbrev pub line_in : RetainedText → ℕ → Option (List ℕ)
line_in text number = line_numbered (numbered_lines text.octets.now) (number - text.lines)

-- a column of a line, or that of its end
abbrev pub IsColumnOf : List ℕ → ℕ → Type 0
IsColumnOf line column = (1 ≤ column) × (column ≤ length line + 1)

-- whether a line has this fault for what stands in it, and not for its place
abbrev pub is_of_form : Fault → Bool
is_of_form (fault.Text why) = true
is_of_form (fault.Word why) = true
is_of_form (fault.Page why) = true
is_of_form other = false
