-- The lines of one call of the line, as C is shown them.
use Rattle.std.specs.Prelude.{◌≡◌, ℕ, List, Option, Some, None}
use Rattle.arrayvec.specs.ArrayString.{ArrayString}
use Rattle.iol_print.specs.LineCalls.{PrintsCall}
use Rattle.iol_print.specs.declared.line_call.LineCall.{LineCall}
use Rattle.iolink_handle.specs.Shown.{AreShown}
use Rattle.iolink_handle.specs.declared.trace_line.IolTraceLine.{IolTraceLine}

-- the lines of the call that was noted, where one was
abbrev pub IsLineOf : ℕ → Option LineCall → Option ArrayString → Type 0
IsLineOf number None line = line ≡ None
IsLineOf number (Some call) None = ⊥
IsLineOf number (Some call) (Some text) = PrintsCall number call text.bytes

-- the call that was noted last is shown by its lines, as the call of this number; where none was,
-- that is refused, and nothing is written
abbrev pub ShowsLine : ℕ → Option LineCall → ℕ → IolTraceLine → IolTraceLine → Type 0
ShowsLine number None result out after = (result ≡ 255) × (after ≡ out)
ShowsLine number (Some call) result out after = (result ≡ 0)
    × (text : List ℕ) × PrintsCall number call text × AreShown text after.length after.text
