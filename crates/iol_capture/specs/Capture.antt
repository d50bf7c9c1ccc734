-- A whole text, told to a judge line by line.
use Rattle.std.specs.Prelude.{◌≡◌, ℕ, Bool, false, ◌==◌, Option, None, is_some, option_and_then, Result, Ok, Err, List, [], ◌∷◌, ◌++◌, fold, if◌then◌else◌}
use Rattle.std.specs.List.{cons_option, list_any}
use Rattle.std.specs.Result.{result_map_both}
use Rattle.iol_judge.specs.Judged.{one_more}
use Rattle.iol_judge.specs.declared.verdict.Odd.{Odd}
use Rattle.iol_script.specs.Text.{lines_of}
use Rattle.iol_capture.specs.declared.fault.LineFault.{LineFault}
use Rattle.iol_capture.specs.declared.fault.LineFault.TheVariants.{ReplyMissing}
use Rattle.iol_capture.specs.declared.fault.CaptureFault.{CaptureFault}
use Rattle.iol_capture.specs.declared.fault.CaptureFault.TheVariants.{Line, NoCall}
use Rattle.iol_capture.specs.declared.telling.CaptureForm.{CaptureForm}
use Rattle.iol_capture.specs.declared.telling.CaptureForm.TheVariants as form
use Rattle.iol_capture.specs.declared.telling.Telling.{Telling}
use Rattle.iol_capture.specs.declared.telling.Telling.TheVariants.{Trace, Octets}
use Rattle.iol_capture.specs.TraceLines.{trace_form}
use Rattle.iol_capture.specs.Judging.{Judging, new_judging, or_bad_form, judging_after_line}
use Rattle.iol_capture.specs.declared.timed_call.TimedCall.{TimedCall}
use Rattle.iol_capture.specs.Octets.{call_at_end, call_of_line, heard_whole, new_hearing, octet_line_form, hearing_after_line}

-- A judge, told lines in one form or the other

abbrev pub new_telling : CaptureForm → Odd → Telling
new_telling form.Trace odd = Trace (new_judging odd)
new_telling (form.Octets rate) odd = Octets (new_hearing rate odd)

-- one more line
abbrev pub line_judged : Telling → List ℕ → Result Telling LineFault
line_judged (Trace judging) line =
    result_map_both Trace (λ fault. fault)
    (or_bad_form (judging_after_line judging) (trace_form line))
line_judged (Octets hearing) line =
    result_map_both Octets (λ fault. fault)
    (or_bad_form (hearing_after_line hearing) (octet_line_form hearing.form line))

-- the capture has ended: no message of a trace waits for what came back
abbrev pub judging_if_whole : Telling → Result Judging LineFault
judging_if_whole (Trace judging) = if is_some judging.sent then Err ReplyMissing else Ok judging
judging_if_whole (Octets hearing) = Ok (heard_whole hearing)

-- Lines

-- a capture, as far as its lines are read: their number, and the judge
pub record ReadPart : Type 0 where
  pub lines : ℕ
  pub telling : Telling

-- the line of this number was told
abbrev pub read_as : ℕ → Result Telling LineFault → Result ReadPart CaptureFault
read_as number emitted =
    result_map_both (λ telling. record { lines = number; telling = telling }) (Line number) emitted

-- the capture after one more line, or the first bad line
abbrev pub capture_after_line : Result ReadPart CaptureFault → List ℕ → Result ReadPart CaptureFault
capture_after_line (Ok reading) line =
    read_as (one_more reading.lines) (line_judged reading.telling line)
capture_after_line (Err fault) line = Err fault

-- A text

-- a trace told no call
abbrev pub has_no_call : Telling → Bool
has_no_call (Trace judging) = judging.call == 0
has_no_call (Octets hearing) = false

-- the end stands for a line
abbrev pub judging_at_end : Result ReadPart CaptureFault → Result Judging CaptureFault
judging_at_end (Ok reading) =
    if has_no_call reading.telling then Err (NoCall reading.lines) else result_map_both
    (λ judging. judging) (Line (one_more reading.lines))
    (judging_if_whole reading.telling)
judging_at_end (Err fault) = Err fault

-- the lines that ended, and the line that is open
pub record ReaderState : Type 0 where
  pub reading : ReadPart
  pub line : List ℕ

abbrev pub new_opened : CaptureForm → Odd → ReaderState
new_opened form odd =
    record { reading = record { lines = 0; telling = new_telling form odd }; line = [] }

-- the line that is open has no line feed
abbrev pub IsOpenLine : List ℕ → Type 0
IsOpenLine line = list_any (λ b. b == 10) line ≡ false

-- what the judge makes of a capture of which this was read, once the rest is read too
abbrev pub judging_after_rest : ReaderState → List ℕ → Result Judging CaptureFault
judging_after_rest opened rest =
    judging_at_end (fold capture_after_line (Ok opened.reading) (lines_of (opened.line ++ rest)))

-- what a judge makes of a capture in this form, by what it does with odd replies; or its first bad
-- line
abbrev pub capture_judged : CaptureForm → Odd → List ℕ → Result Judging CaptureFault
capture_judged form odd text = judging_after_rest (new_opened form odd) text

-- Calls of the wire, each with its time

-- that which one more line tells
abbrev pub line_call : Telling → List ℕ → Option TimedCall
line_call (Trace judging) line = None
line_call (Octets hearing) line =
    option_and_then (call_of_line hearing) (octet_line_form hearing.form line)

-- that which the end of the capture tells
abbrev pub last_call : Telling → Option TimedCall
last_call (Trace judging) = None
last_call (Octets hearing) = call_at_end hearing

-- those that lines tell, up to the first bad one, and at last the end
abbrev pub calls_of_lines : Result ReadPart CaptureFault → List (List ℕ) → List TimedCall
calls_of_lines (Err fault) lines = []
calls_of_lines (Ok reading) [] = cons_option (last_call reading.telling) []
calls_of_lines (Ok reading) (line ∷ lines) = cons_option (line_call reading.telling line)
    (calls_of_lines (capture_after_line (Ok reading) line) lines)

-- those of a capture of which this was read, once the rest is read too
abbrev pub calls_of_rest : ReaderState → List ℕ → List TimedCall
calls_of_rest opened rest = calls_of_lines (Ok opened.reading) (lines_of (opened.line ++ rest))

-- those of a capture in this form
abbrev pub calls_of_capture : CaptureForm → Odd → List ℕ → List TimedCall
calls_of_capture form odd text = calls_of_rest (new_opened form odd) text

-- what a call tells that reads on, in front of what is told later; behind a bad line nothing is
abbrev pub emitted_before : {F : Type 0} → Result (Option TimedCall) F → List TimedCall
    → List TimedCall
emitted_before (Ok call) later = cons_option call later
emitted_before (Err fault) later = []
