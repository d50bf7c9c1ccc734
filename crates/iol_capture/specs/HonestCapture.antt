-- Captures of devices by the rules, and the laws: none of them is called not honest.
use Rattle.std.specs.Prelude.{◌≡◌, ◌≢◌, ℕ, Option, Some, None, IfSome, option_and_then, Ok, List, [], ◌∷◌}
use Rattle.std.specs.List.{cons_option, filter_map}
use Rattle.iol_far.specs.Far.{Far}
use Rattle.iol_far.specs.Octets.{octets_in}
use Rattle.iol_link.specs.Honest.{HonestExchange}
use Rattle.iol_link.specs.declared.wire.Rate.{Rate}
use Rattle.iol_judge.specs.Admitted.{IsHonestRun, IsWake, is_answered}
use Rattle.iol_judge.specs.declared.reason.Reason.{Reason}
use Rattle.iol_judge.specs.declared.verdict.Odd.{Odd}
use Rattle.iol_judge.specs.declared.verdict.Verdict.TheVariants.{NotHonest}
use Rattle.iol_judge.specs.Judged.{JudgeState}
use Rattle.iol_script.specs.Text.{lines_of}
use Rattle.iol_capture.specs.declared.octet_line.OctetLine.{OctetLine}
use Rattle.iol_capture.specs.declared.octet_line.OctetLine.TheVariants as line
use Rattle.iol_capture.specs.declared.export.ExportForm.{ExportForm}
use Rattle.iol_capture.specs.declared.export.ExportForm.TheVariants.{Timed}
use Rattle.iol_capture.specs.FairSplits.{BlamesNothing, items_passed}
use Rattle.iol_capture.specs.SplitterState.{new_splitter}
use Rattle.iol_capture.specs.Written.{AreWritten, Damage, DamageBefore, Item, Joins, Octet, Request, StreamItem, stream_of}
use Rattle.iol_capture.specs.declared.trace_line.TraceLine.{TraceLine}
use Rattle.iol_capture.specs.declared.trace_line.TraceLine.TheVariants.{Other, Skipped, Page, Wake, Sent, Received}
use Rattle.iol_capture.specs.declared.telling.CaptureForm.TheVariants as form
use Rattle.iol_capture.specs.TraceLines.{trace_form}
use Rattle.iol_capture.specs.Judging.{Judging}
use Rattle.iol_capture.specs.Octets.{octet_line_form}
use Rattle.iol_capture.specs.Capture.{capture_judged}

-- it's never called not honest
abbrev pub IsUnblamed : JudgeState → Type 0
IsUnblamed judged = (exchange : ℕ) (reason : Reason) → judged.verdict ≢ NotHonest exchange reason

-- A trace

-- A device of any kind brings what lines say over a lossy line, behind this call and the message
-- that waits. A page that stands before the first call is its own.
abbrev pub IsHonestTrace : Far → ℕ → ℕ → Option (List ℕ) → List TraceLine → Type 0
IsHonestTrace far silence call waits [] = Unit {0}
IsHonestTrace far silence call waits (Other ∷ lines) = IsHonestTrace far silence call waits lines
IsHonestTrace far silence call waits (Skipped ∷ lines) = IsHonestTrace far silence call waits lines
IsHonestTrace far silence call waits (Page octets ∷ lines) =
    (call ≡ 0 → octets ≡ far.page) × IsHonestTrace far silence call waits lines
IsHonestTrace far silence call waits (Wake number answer ∷ lines) = (far_new : Far)
    × IsWake far (is_answered answer) far_new
    × IsHonestTrace far_new silence number waits lines
IsHonestTrace far silence call waits (Sent number octets ∷ lines) =
    IsHonestTrace far silence number (Some octets.items) lines
IsHonestTrace far silence call waits (Received number received ∷ lines) =
    (far_new : Far) × (silence_new : ℕ)
    × IfSome waits (λ sent. HonestExchange far silence sent (octets_in received) far_new
    silence_new)
    × IsHonestTrace far_new silence_new call None lines

-- the judge is told a text that a device by the rules brings, and this is what it makes of it
pub record IsFromHonest (odd : Odd) (text : List ℕ) (judging : Judging) : Type 0 where
  pub judged : capture_judged form.Trace odd text ≡ Ok judging
  pub far : Far
  pub silence : ℕ
  pub honest : IsHonestTrace far silence 0 None (filter_map trace_form (lines_of text))

-- the law: such a text is never called not honest, and nothing in it is called odd
pub record CapturesNeverBlamed : Type 0 where
  pub unblamed : (odd : Odd) (text : List ℕ) (judging : Judging) → IsFromHonest odd text judging
      → IsUnblamed judging.judged
  pub none_odd : (odd : Odd) (text : List ℕ) (judging : Judging) → IsFromHonest odd text judging
      → judging.judged.oddities ≡ 0

-- Octets

abbrev pub stream_item_of : OctetLine → Option StreamItem
stream_item_of (line.Octet time octet) = Some (Octet (record { time = time; octet = octet }))
stream_item_of (line.Wake time) = Some (Request time)
stream_item_of (line.Damaged time) = Some (Damage time)
stream_item_of line.DamagedBefore = Some DamageBefore
stream_item_of (line.Page octets) = Some (Joins octets)
stream_item_of line = None

-- how the lines behind one are written
abbrev pub form_behind : ExportForm → Option OctetLine → ExportForm
form_behind form (Some (line.Form other)) = other
form_behind form line = form

-- what lines show, where each fits a form
abbrev pub shown_stream : ExportForm → List (List ℕ) → List StreamItem
shown_stream form [] = []
shown_stream form (line ∷ lines) =
    let parsed = octet_line_form form line in
    cons_option (option_and_then stream_item_of parsed)
    (shown_stream (form_behind form parsed) lines)

-- The judge is told a text, and this is what it makes of it: octets that are written by the rules,
-- of what a device by the rules brings
pub record AreFromHonest (odd : Odd) (rate : Rate) (text : List ℕ)
    (judging : Judging) : Type 0 where
  pub judged : capture_judged (form.Octets rate) odd text ≡ Ok judging
  pub items : List Item
  pub written : AreWritten (new_splitter rate) items
  pub shown : shown_stream Timed (lines_of text) ≡ stream_of items
  pub far : Far
  pub silence : ℕ
  pub honest : IsHonestRun far silence (items_passed items)

-- the law: such a text is never called not honest, and nothing in it is called odd
abbrev pub OctetTextsNeverBlamed : Type 0
OctetTextsNeverBlamed = (odd : Odd) (rate : Rate) (text : List ℕ) (judging : Judging)
    → AreFromHonest odd rate text judging → BlamesNothing judging.judged
