-- What the lines of a capture tell, by what a `ReaderState` makes of one more octet and of the end.
-- The calls of `CaptureReader` need them.
-- For the clauses of `CaptureReader::end_line`, `opened::end_text` and `opened::store`.
use Rattle.std.proofs.Common.{◌≡◌, ℕ, ◌+◌, ◌<◌, Bool, false, ◌==◌, Option, None, Result, Ok, Err, OnOk, List, [], ◌∷◌, ◌++◌, length, refl, append-nil, append_assoc, length-append, arith}
use Rattle.std.proofs.lemmas.Bool.Decides.{nat_tests}
use Rattle.std.specs.Result.{result_and, result_unwrap_or}
use Rattle.iol_script.specs.Text.{lines_of}
use Rattle.iol_capture.specs.declared.fault.CaptureFault.{CaptureFault}
use Rattle.iol_capture.specs.declared.fault.LineFault.TheVariants.{BadForm}
use Rattle.iol_capture.specs.declared.telling.Telling.{Telling}
use Rattle.iol_capture.specs.declared.telling.Telling.TheVariants.{Trace, Octets}
use Rattle.iol_capture.specs.declared.timed_call.TimedCall.{TimedCall}
use Rattle.iol_capture.specs.Capture.{IsOpenLine, ReadPart, ReaderState, calls_of_lines, calls_of_rest, capture_after_line, line_call, line_judged, emitted_before}
use Rattle.iol_capture.proofs.ReadLemmas.{BeginsWith, lines_begun, lines_ended, lines_last, open_both}

-- a line feed ends the line that is open, with these bytes behind it, by a call with this result
pub ended_calls : (result : Result (Option TimedCall) CaptureFault) (old mid new : ReaderState)
    (end : List ℕ) → mid.reading ≡ old.reading → mid.line ≡ old.line ++ end → IsOpenLine mid.line
    → result_and result (Ok new.reading) ≡ capture_after_line (Ok mid.reading) mid.line
    → result_unwrap_or result None ≡ line_call mid.reading.telling mid.line
    → OnOk result (new.line ≡ []) → (rest : List ℕ)
    → emitted_before result (calls_of_rest new rest) ≡ calls_of_rest old (end ++ 10 ∷ rest)
ended_calls (Ok call) old mid new end same longer h read emits empty rest =
    grind (arith, lines_ended, append_assoc {A = ℕ})
ended_calls (Err fault) old mid new end same longer h read emits empty rest =
    grind (arith, lines_ended, append_assoc {A = ℕ})

-- a line of more than 1,024 bytes tells nothing, and is bad
long_emits_nothing : (telling : Telling) (line : List ℕ) → 1024 < length line
    → line_call telling line ≡ None
long_emits_nothing (Trace judging) line long = refl
long_emits_nothing (Octets hearing) line long = grind (arith, nat_tests)

long_is_bad : (telling : Telling) (line : List ℕ) → 1024 < length line
    → line_judged telling line ≡ Err BadForm
long_is_bad (Trace judging) line long = grind (arith, nat_tests)
long_is_bad (Octets hearing) line long = grind (arith, nat_tests)

long_ends : (reading : ReadPart) (line : List ℕ) (others : List (List ℕ)) → 1024 < length line
    → calls_of_lines (Ok reading) (line ∷ others) ≡ []
long_ends reading line others long =
    rw (long_emits_nothing reading.telling line long, long_is_bad reading.telling line long) refl

-- no room is left for more of a line
pub overfull_calls : (inside old : ReaderState) (more : List ℕ) → inside ≡ old
    → IsOpenLine inside.line → IsOpenLine more → 1024 < length inside.line + length more
    → (rest : List ℕ) → calls_of_rest old (more ++ rest) ≡ []
overfull_calls inside old more same h g full rest =
    let front : List ℕ = inside.line ++ more in
    let some : 1024 < length front = omega (arith, length-append inside.line more) in
    let begins : BeginsWith (lines_of (front ++ rest)) front =
    lines_begun front rest (open_both inside.line more h g) (omega arith) in
    let long : 1024 < length (front ++ begins.more) =
    omega (arith, length-append front begins.more) in
    let ends : calls_of_lines (Ok inside.reading) ((front ++ begins.more) ∷ begins.others) ≡ [] =
    long_ends inside.reading (front ++ begins.more) begins.others long in
    rw (← same, ← append_assoc inside.line more rest, begins.is) ends

-- a line that isn't empty ends with the text
pub end_line_calls : (inside opened : ReaderState) (empty : Bool) → inside ≡ opened
    → IsOpenLine opened.line → empty ≡ (length inside.line == 0) → empty ≡ false
    → calls_of_rest opened []
    ≡ calls_of_lines (Ok opened.reading) (opened.line ∷ [])
end_line_calls inside opened empty same h is some =
    grind (arith, nat_tests, lines_last, append-nil {A = ℕ})
