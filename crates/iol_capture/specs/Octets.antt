-- A judge, told what a decoder shows.
use Rattle.std.specs.Prelude.{ℕ, nat_le, Option, Some, None, Result, Ok, Err, List, length, if◌then◌else◌}
use Rattle.std.specs.Option.{option_map_or}
use Rattle.std.specs.Result.{result_map_both, result_unwrap_or}
use Rattle.iol_judge.specs.declared.verdict.Odd.{Odd}
use Rattle.iol_judge.specs.declared.verdict.Wake.TheVariants.{Unanswered}
use Rattle.iol_link.specs.declared.wire.Rate.{Rate}
use Rattle.iol_capture.specs.declared.octet_line.OctetLine.{OctetLine}
use Rattle.iol_capture.specs.declared.octet_line.OctetLine.TheVariants as line
use Rattle.iol_capture.specs.declared.passed.SplitItem.{SplitItem}
use Rattle.iol_capture.specs.declared.passed.SplitItem.TheVariants.{Resumed, Wake}
use Rattle.iol_capture.specs.declared.export.ExportForm.{ExportForm}
use Rattle.iol_capture.specs.declared.export.ExportForm.TheVariants.{Timed}
use Rattle.iol_capture.specs.Exports.{export_form}
use Rattle.iol_capture.specs.SplitterState.{Splitting, begins_call, new_splitter}
use Rattle.iol_capture.specs.Splitting.{pending_at_end, octet_split, wake_split}
use Rattle.iol_capture.specs.Damage.{damage_split, damaged_before, is_at_begin, joined_line}
use Rattle.iol_capture.specs.SplitSteps.{SplitStep}
use Rattle.iol_capture.specs.declared.fault.LineFault.{LineFault}
use Rattle.iol_capture.specs.declared.fault.LineFault.TheVariants.{NoSampleRate, NoTime, Split}
use Rattle.iol_capture.specs.declared.timed_call.Beginnings.{Beginnings}
use Rattle.iol_capture.specs.declared.timed_call.TimedCall.{TimedCall}
use Rattle.iol_capture.specs.Judging.{Judging, judging_with_page, maybe_woken, line_skipped, new_judging, passed_next, judging_in_mode}
use Rattle.iol_capture.specs.declared.spacing.Spacing.{Spacing}
use Rattle.iol_capture.specs.Spacings.{doubt_of, nothing_spaced, spaced_by}
use Rattle.iol_capture.specs.Timed.{begun_pending, call_emitted, number_of_next, none_begun, number_by_octet}

-- the octets that are split, and what the judge makes of what they are split into
pub record Hearing : Type 0 where
  pub splitting : Splitting
  pub judging : Judging
  -- when what isn't told yet began
  pub begun : Beginnings
  -- how soon octets begin behind one another
  pub spacing : Spacing
  -- how the lines to come are written
  pub form : ExportForm

abbrev pub new_hearing : Rate → Odd → Hearing
new_hearing rate odd =
    record {
      splitting = new_splitter rate;
      judging = new_judging odd;
      begun = none_begun;
      spacing = nothing_spaced;
      form = Timed;
    }

-- what a line of at most 1,024 bytes shows, where it fits a form
abbrev pub octet_line_form : ExportForm → List ℕ → Option OctetLine
octet_line_form form line = if nat_le (length line) 1024 then export_form form line else None

-- what went over the line, told by a wake-up request that is shown, or by the end
abbrev pub passed_by_request : Judging → Option SplitItem → Judging
passed_by_request judging (Some (Resumed mode)) = judging_in_mode judging mode
passed_by_request judging passed = option_map_or (passed_next judging) passed judging

-- What went over the line, told by an octet. An unanswered wake-up request that isn't shown may be
-- none: the read that may be its test read is the next call, and it has no number of its own
abbrev pub passed_by_octet : Judging → Option SplitItem → Judging
passed_by_octet judging (Some (Wake Unanswered)) = maybe_woken judging
passed_by_octet judging passed = passed_by_request judging passed

-- When what isn't told yet began

-- behind an octet at this time
abbrev pub begun_by_octet : Beginnings → Splitting → ℕ → Option SplitItem → Beginnings
begun_by_octet begun state time passed =
    if begins_call state then record (begun_pending begun passed) { octet = time }
    else begun_pending begun passed

-- behind a wake-up request that is shown at this time
abbrev pub begun_by_request : Beginnings → ℕ → Option SplitItem → Beginnings
begun_by_request begun time passed = record (begun_pending begun passed) { request = Some time }

-- the judge is told so what a step tells, and so what isn't told began
abbrev pub step_heard : Hearing → (Option SplitItem → Judging) → (Option SplitItem → Beginnings)
    → SplitStep → Result Hearing LineFault
step_heard hearing judged begun step = result_map_both (λ passed. record hearing {
  splitting = step.state;
  judging = judged passed;
  begun = begun passed;
}) Split step.emitted

-- a capture begins in OPERATE: a page counts in front alone
abbrev pub hearing_joined : Hearing → List ℕ → Hearing
hearing_joined hearing octets = if is_at_begin hearing.splitting.phase then record hearing {
  splitting = joined_line hearing.splitting octets;
  judging = judging_with_page hearing.judging octets;
} else hearing

-- what a line shows
abbrev pub hearing_after_line : Hearing → OctetLine → Result Hearing LineFault
hearing_after_line hearing line.Other = Ok hearing
hearing_after_line hearing line.Skipped =
    Ok (record hearing { judging = line_skipped hearing.judging })
hearing_after_line hearing (line.Form form) = Ok (record hearing { form = form })
hearing_after_line hearing (line.Page octets) = Ok (hearing_joined hearing octets)
hearing_after_line hearing line.Unsampled = Err NoSampleRate
hearing_after_line hearing line.Untimed = Err NoTime
hearing_after_line hearing (line.Damaged time) =
    step_heard hearing (passed_by_octet hearing.judging) (begun_pending hearing.begun)
    (damage_split hearing.splitting time)
hearing_after_line hearing line.DamagedBefore =
    step_heard hearing (passed_by_octet hearing.judging) (begun_pending hearing.begun)
    (damaged_before hearing.splitting)
hearing_after_line hearing (line.Octet time octet) =
    let step = octet_split hearing.splitting time octet in
    step_heard (record hearing { spacing = spaced_by hearing.spacing time })
    (passed_by_octet hearing.judging)
    (begun_by_octet hearing.begun step.state time) step
hearing_after_line hearing (line.Wake time) =
    step_heard hearing (passed_by_request hearing.judging)
    (begun_by_request hearing.begun time)
    (wake_split hearing.splitting time)

-- the stream has ended
abbrev pub heard_whole : Hearing → Judging
heard_whole hearing =
    record (passed_by_request hearing.judging (pending_at_end hearing.splitting)) {
      passed_over = hearing.splitting.passed_over;
      rate_doubt = doubt_of hearing.spacing hearing.splitting.rate;
    }

-- Calls, each with its time

-- that which a step tells, by its number
abbrev pub call_of_step : Beginnings → (Option SplitItem → Option ℕ) → SplitStep → Option TimedCall
call_of_step begun number step =
    let passed = result_unwrap_or step.emitted None in
    call_emitted begun (number passed) step.state.layout passed

-- that which a line tells
abbrev pub call_of_line : Hearing → OctetLine → Option TimedCall
call_of_line hearing line.Other = None
call_of_line hearing line.Skipped = None
call_of_line hearing (line.Form form) = None
call_of_line hearing (line.Page octets) = None
call_of_line hearing line.Unsampled = None
call_of_line hearing line.Untimed = None
call_of_line hearing (line.Damaged time) =
    call_of_step hearing.begun (number_by_octet hearing.judging)
    (damage_split hearing.splitting time)
call_of_line hearing line.DamagedBefore =
    call_of_step hearing.begun (number_by_octet hearing.judging) (damaged_before hearing.splitting)
call_of_line hearing (line.Octet time octet) =
    call_of_step hearing.begun (number_by_octet hearing.judging)
    (octet_split hearing.splitting time octet)
call_of_line hearing (line.Wake time) =
    call_of_step hearing.begun (number_of_next hearing.judging) (wake_split hearing.splitting time)

-- that which the end tells
abbrev pub call_at_end : Hearing → Option TimedCall
call_at_end hearing =
    let passed = pending_at_end hearing.splitting in
    call_emitted hearing.begun (number_of_next hearing.judging passed) hearing.splitting.layout
    passed
