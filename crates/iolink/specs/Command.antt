-- The commands by their names.
use Rattle.std.specs.Prelude.{ℕ, Option, Some, None, option_map, List, [], ◌∷◌, ◌==◌, map, if◌then◌else◌, codes}
use Rattle.std.specs.Char.{to_ascii_lowercase}
use Rattle.std.specs.Str.{bytes_eq}
use Rattle.iol_judge.specs.declared.verdict.Odd.{Odd}
use Rattle.iol_link.specs.declared.wire.Rate.{Rate}
use Rattle.iol_link.specs.declared.wire.Rate.TheVariants.{Com1, Com2, Com3}
use Rattle.iol_capture.specs.declared.telling.CaptureForm.{CaptureForm}
use Rattle.iol_capture.specs.declared.telling.CaptureForm.TheVariants.{Trace as TraceForm, Octets}
use Rattle.iolink.specs.declared.command.AskedCommand.{AskedCommand}
use Rattle.iolink.specs.declared.command.AskedCommand.TheVariants as asked
use Rattle.iolink.specs.declared.command.Shown.{Shown}
use Rattle.iolink.specs.declared.command.Shown.TheVariants.{Calls}
use Rattle.iolink.specs.declared.command.PrintingCommand.{PrintingCommand}
use Rattle.iolink.specs.declared.command.PrintingCommand.TheVariants.{Check, Run, Trace, Many}

-- the command of a name
abbrev pub mode_named : List ℕ → Option PrintingCommand
mode_named name =
    if bytes_eq name (codes "check") then Some Check else
    if bytes_eq name (codes "run") then Some Run else
    if bytes_eq name (codes "trace") then Some Trace else
    if bytes_eq name (codes "many") then Some Many else None

-- what `judge` asks for: a trace shows its calls itself
abbrev pub asked_judging : CaptureForm → Odd → Shown → AskedCommand
asked_judging (Octets rate) odd Calls = asked.JudgeTraced rate odd
asked_judging form odd shown = asked.Judge form odd

-- what a name asks for, with the form of a capture, what is to be done with odd replies, and what
-- is to be shown
abbrev pub asked_named : List ℕ → CaptureForm → Odd → Shown → Option AskedCommand
asked_named name form odd shown =
    if bytes_eq name (codes "judge") then Some (asked_judging form odd shown) else
    option_map asked.Mode (mode_named name)

-- the rate by the digit of its name
abbrev pub rate_of_digit : ℕ → Option Rate
rate_of_digit digit =
    if digit == 49 then Some Com1 else
    if digit == 50 then Some Com2 else
    if digit == 51 then Some Com3 else None

-- the rate of a word, `com` in upper or lower case and a digit
abbrev pub rate_named : List ℕ → Option Rate
rate_named (c ∷ o ∷ m ∷ digit ∷ []) =
    if bytes_eq (map to_ascii_lowercase (c ∷ o ∷ m ∷ [])) (codes "com") then rate_of_digit digit
    else None
rate_named word = None

-- the form of a capture, by the rate of its octets
abbrev pub form_of : Option Rate → CaptureForm
form_of None = TraceForm
form_of (Some rate) = Octets rate
