-- What is printed for the calls that octets are split into, each with its time.
use Rattle.std.specs.Prelude.{◌≡◌, ℕ, ◌-◌, ◌^◌, ◌/◌, ◌%◌, Option, Some, None, IfSome, Result, Ok, Err, List, [], ◌∷◌, ◌++◌, length, replicate, codes}
use Rattle.std.specs.Fmt.{decimal}
use Rattle.std.specs.Io.KnownBytes.{Appends}
use Rattle.iol_mseq.specs.Shape.{Shape}
use Rattle.iol_link.specs.declared.wire.Rate.{Rate}
use Rattle.iol_judge.specs.declared.verdict.Odd.{Odd}
use Rattle.iol_judge.specs.declared.verdict.Wake.{Wake as WakeAnswer}
use Rattle.iol_judge.specs.declared.verdict.Wake.TheVariants.{Answered, Unanswered}
use Rattle.iol_capture.specs.declared.passed.SplitItem.{SplitItem}
use Rattle.iol_capture.specs.declared.passed.SplitItem.TheVariants.{Exchange, Resumed, Wake}
use Rattle.iol_capture.specs.declared.fault.CaptureFault.{CaptureFault}
use Rattle.iol_capture.specs.declared.printing.Finding.{Finding}
use Rattle.iol_capture.specs.declared.telling.CaptureForm.TheVariants.{Octets}
use Rattle.iol_capture.specs.declared.timed_call.TimedCall.{TimedCall}
use Rattle.iol_capture.specs.Capture.{ReaderState, calls_of_capture, calls_of_rest, judging_after_rest, new_opened}
use Rattle.iol_capture.specs.Judging.{Judging}
use Rattle.iol_commands.specs.declared.judge_command.JudgeFault.{JudgeFault}
use Rattle.iol_commands.specs.declared.judge_command.JudgeFault.TheVariants.{Capture, OutOfMemory, WriteFailed}
use Rattle.iol_commands.specs.JudgePrinted.{Judges}
use Rattle.iol_print.specs.Passing.{PrintsExchange, wake_text}
use Rattle.iol_commands.specs.TracePrinted.{Flows}

-- A call

-- nine digits of nanoseconds
abbrev pub fraction_text : ℕ → List ℕ
fraction_text nanoseconds =
    replicate (9 - length (decimal nanoseconds)) 48 ++ decimal nanoseconds

-- the line of a time in nanoseconds: seconds, with nine digits behind the point
abbrev pub time_text : ℕ → List ℕ
time_text time = codes "time " ++ decimal (time / 10 ^ 9) ++ codes "."
    ++ fraction_text (time % 10 ^ 9) ++ codes "\n"

-- a wake-up request that is answered on a line with this rate
abbrev pub rate_answered : Rate → WakeAnswer → Option Rate
rate_answered rate Answered = Some rate
rate_answered rate Unanswered = None

-- the lines of what is told with this number: those of `trace`, where it has one
abbrev pub PrintsItem : Rate → Option ℕ → Shape → SplitItem → List ℕ → Type 0
PrintsItem rate None layout item text = text ≡ codes "maybe wake\n"
PrintsItem rate (Some number) layout (Wake answer) text =
    text ≡ wake_text number (rate_answered rate answer)
PrintsItem rate (Some number) layout (Exchange exchange) text =
    PrintsExchange number layout exchange.sent exchange.answer text
PrintsItem rate (Some number) layout (Resumed mode) text = text ≡ []

-- its time stands before them
abbrev pub PrintsTimed : Rate → TimedCall → List ℕ → Type 0
PrintsTimed rate call text = (lines : List ℕ) × (text ≡ time_text call.time ++ lines)
    × PrintsItem rate call.number call.layout call.item lines

-- calls, one after the other
abbrev pub PrintsCalls : Rate → List TimedCall → List ℕ → Type 0
PrintsCalls rate [] text = text ≡ []
PrintsCalls rate (call ∷ calls) text = (first : List ℕ) × (later : List ℕ)
    × (text ≡ first ++ later) × PrintsTimed rate call first × PrintsCalls rate calls later

-- A capture

-- a capture of octets is read to its end, and this is found in it; its calls are printed, and then
-- what was found
pub record JudgesTraced (rate : Rate) (odd : Odd) (capture : List ℕ) (finding : Finding)
    (text : List ℕ) : Type 0 where
  pub calls_text : List ℕ
  pub calls : PrintsCalls rate (calls_of_capture (Octets rate) odd capture) calls_text
  pub found_text : List ℕ
  pub judges : Judges (Octets rate) odd capture finding found_text
  pub text_is : text ≡ calls_text ++ found_text

-- A part of it

-- a text is read behind this state of a reader, and this is judged; its calls are printed
pub record TracesRest (rate : Rate) (opened : ReaderState) (text : List ℕ)
    (judged : Result Judging CaptureFault) (trace : List ℕ) : Type 0 where
  pub is_judged : judging_after_rest opened text ≡ judged
  pub prints : PrintsCalls rate (calls_of_rest opened text) trace

-- where a trace is: how far its capture is read, what waits to be written, and what is written
pub record OctetsPlace : Type 0 where
  pub opened : ReaderState
  pub waits : List ℕ
  pub written : Option (List ℕ)

abbrev pub octets_place : ReaderState → List ℕ → Option (List ℕ) → OctetsPlace
octets_place opened waits written =
    record { opened = opened; waits = waits; written = written }

-- these calls are printed behind what waits; of both a part is written
pub record FlowsCalls (rate : Rate) (calls : List TimedCall) (waits : List ℕ)
    (old : Option (List ℕ)) (left : List ℕ) (new : Option (List ℕ)) : Type 0 where
  pub trace : List ℕ
  pub prints : PrintsCalls rate calls trace
  pub flows : Flows old new waits left trace

-- from one place to a later one: this text stands between them
pub record TracesText (rate : Rate) (old : OctetsPlace) (text : List ℕ)
    (new : OctetsPlace) : Type 0 where
  pub judged : (rest : List ℕ) → judging_after_rest new.opened rest
      ≡ judging_after_rest old.opened (text ++ rest)
  pub calls : List TimedCall
  pub emitted : (rest : List ℕ) → calls ++ calls_of_rest new.opened rest
      ≡ calls_of_rest old.opened (text ++ rest)
  pub flows : FlowsCalls rate calls old.waits old.written new.waits new.written

-- from a place to the end, or to the first bad line: this text is left, and this is judged
pub record TracesToEnd (rate : Rate) (old : OctetsPlace) (text : List ℕ)
    (judged : Result Judging CaptureFault) (left : List ℕ)
    (new : Option (List ℕ)) : Type 0 where
  pub trace : List ℕ
  pub traces : TracesRest rate old.opened text judged trace
  pub flows : Flows old.written new old.waits left trace

-- a call ends with this fault, and this text was left
abbrev pub StopsTrace : JudgeFault → Rate → OctetsPlace → List ℕ → List ℕ → Option (List ℕ)
    → Type 0
StopsTrace (Capture why) rate old text left new = TracesToEnd rate old text (Err why) left new
StopsTrace WriteFailed rate old text left new = Unit {0}
StopsTrace OutOfMemory rate old text left new = (more : List ℕ) × Appends old.written new more

-- a call reads this text; where it is stopped, it's so whatever is behind that
abbrev pub ReadsText : {U : Type 0} → Result U JudgeFault → Rate → OctetsPlace → List ℕ
    → OctetsPlace → Type 0
ReadsText (Ok done) rate old text new = TracesText rate old text new
ReadsText (Err fault) rate old text new =
    (rest : List ℕ) → StopsTrace fault rate old (text ++ rest) new.waits new.written

-- a call reads the end
abbrev pub ReadsEnd : Result Judging JudgeFault → Rate → OctetsPlace → List ℕ
    → Option (List ℕ) → Type 0
ReadsEnd (Ok judging) rate old left new = TracesToEnd rate old [] (Ok judging) left new
ReadsEnd (Err fault) rate old left new = StopsTrace fault rate old [] left new

-- a reader is read to its end, or to the first bad line of what it has, and this is judged
pub record TracesReader (rate : Rate) (odd : Odd) (remaining : Option (List ℕ))
    (judged : Result Judging CaptureFault) (waits : List ℕ) (old : Option (List ℕ))
    (left : List ℕ) (new : Option (List ℕ)) : Type 0 where
  pub trace : List ℕ
  pub flows : Flows old new waits left trace
  pub traces : IfSome remaining
      (λ capture. TracesRest rate (new_opened (Octets rate) odd) capture judged trace)
