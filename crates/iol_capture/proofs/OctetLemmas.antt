-- A judge that is told the octets of a device by the rules, for `honest_octets_are_never_blamed`.
-- Begin at the end, with `octet_texts`.
-- For the clauses of `laws::honest_octets_are_never_blamed`.
use Rattle.std.proofs.Common.{◌≡◌, ℕ, Option, Some, None, Result, Ok, Err, List, [], ◌∷◌, sym, ap, ◌∙◌, subst, arith}
use Rattle.std.specs.Prelude.{IfOk, fold, option_and_then}
use Rattle.std.specs.List.{cons_option}
use Rattle.std.specs.Option.{option_map_or}
use Rattle.std.specs.Result.{result_map_both}
use Rattle.iol_judge.specs.Judged.{JudgeState, new_judge, one_more}
use Rattle.iol_script.specs.Text.{lines_of}
use Rattle.iol_capture.specs.declared.split_fault.SplitFault.{SplitFault}
use Rattle.iol_capture.specs.declared.octet_line.OctetLine.{OctetLine}
use Rattle.iol_capture.specs.declared.octet_line.OctetLine.TheVariants as line
use Rattle.iol_capture.specs.declared.passed.SplitItem.{SplitItem}
use Rattle.iol_capture.specs.FairSplits.{OctetsNeverBlamed, BlamesNothing, judge_after_item}
use Rattle.iol_capture.specs.Splitting.{octet_split, wake_split}
use Rattle.iol_capture.specs.SplitterState.{Splitting, new_splitter}
use Rattle.iol_capture.specs.SplitSteps.{SplitStep}
use Rattle.iol_capture.specs.Damage.{damage_split, damaged_before}
use Rattle.iol_capture.specs.Spacings.{spaced_by}
use Rattle.iol_capture.specs.Timed.{begun_pending}
use Rattle.iol_capture.specs.Written.{Fails, Item, Joins, Lapses, Passes, Reads, StreamItem, Tests, TimedOctet, TimedTry, Wakes, all_split, shown_before, stream_of, test_before, tries_before, with_emitted}
use Rattle.iol_capture.specs.declared.telling.Telling.TheVariants.{Octets}
use Rattle.iol_capture.specs.Judging.{Judging, line_skipped, or_bad_form}
use Rattle.iol_capture.specs.declared.timed_call.Beginnings.{Beginnings}
use Rattle.iol_capture.specs.Octets.{Hearing, begun_by_octet, begun_by_request, new_hearing, octet_line_form, passed_by_octet, passed_by_request, hearing_after_line, step_heard}
use Rattle.iol_capture.specs.HonestCapture.{OctetTextsNeverBlamed, form_behind, stream_item_of, shown_stream}
use Rattle.iol_capture.proofs.ReadLemmas.{judged_from, stays_bad}

-- the judge is told what was split
abbrev split_judged : JudgeState → Result (List SplitItem) SplitFault → Result JudgeState SplitFault
split_judged judged = result_map_both (λ what. fold judge_after_item judged what) (λ fault. fault)

-- What one step tells

abbrev emitted_of : JudgeState → Option SplitItem → JudgeState
emitted_of judged passed = option_map_or (judge_after_item judged) passed judged

-- No page stands in front

abbrev NoneJoins : List StreamItem → Type 0
NoneJoins [] = Unit {0}
NoneJoins (Joins octets ∷ stream) = ⊥
NoneJoins (shown ∷ stream) = NoneJoins stream

none_behind : (timed : List TimedOctet) (stream : List StreamItem) → NoneJoins stream
    → NoneJoins (shown_before timed stream)
none_behind [] stream h = h
none_behind (t ∷ timed) stream h = none_behind timed stream h

none_behind_tries : (tries : List TimedTry) (stream : List StreamItem) → NoneJoins stream
    → NoneJoins (tries_before tries stream)
none_behind_tries [] stream h = h
none_behind_tries (t ∷ tries) stream h =
    none_behind t.answer (tries_before tries stream) (none_behind_tries tries stream h)

none_joins : (items : List Item) → NoneJoins (stream_of items)
none_joins [] = tt
none_joins (Passes w ∷ items) = none_behind w.sent (shown_before w.answer (stream_of items))
    (none_behind w.answer (stream_of items) (none_joins items))
none_joins (Reads w ∷ items) = none_behind w.sent (shown_before w.answer (stream_of items))
    (none_behind w.answer (stream_of items) (none_joins items))
none_joins (Wakes time tries t ∷ items) =
    none_behind_tries tries (test_before t (stream_of items)) (none_joins items)
none_joins (Fails time tries ∷ items) =
    none_behind_tries tries (stream_of items) (none_joins items)
none_joins (Tests tries t ∷ items) =
    none_behind_tries tries (test_before t (stream_of items)) (none_joins items)
none_joins (Lapses t tries ∷ items) =
    none_behind_tries (t ∷ tries) (stream_of items) (none_joins items)

-- Lines

module _ (judging : Judging) where
  -- lines are split, whatever was read before
  abbrev Later : List (List ℕ) → Type 0
  Later lines = (number : ℕ) (old : Hearing) → NoneJoins (shown_stream old.form lines)
      → judged_from Octets (Ok old) number lines ≡ Ok judging
      → split_judged old.judging.judged (all_split old.splitting (shown_stream old.form lines))
      ≡ Ok judging.judged

  -- the judge is told so all that a step tells
  step_splits : (hearing : Hearing) (old : Judging) (new : Option SplitItem → Judging)
      (begun : Option SplitItem → Beginnings)
      → ((passed : Option SplitItem) → emitted_of old.judged passed ≡ (new passed).judged)
      → (state : Splitting) (result : Result (Option SplitItem) SplitFault) (number : ℕ)
      (lines : List (List ℕ)) → Later lines → NoneJoins (shown_stream hearing.form lines)
      → judged_from Octets (step_heard hearing new begun
      (record { state = state; emitted = result }))
      number lines ≡ Ok judging
      → split_judged old.judged (with_emitted result
      (all_split state (shown_stream hearing.form lines)))
      ≡ Ok judging.judged
  step_splits hearing old new begun emitted state (Err fault) number lines later none e =
      absurd (grind (arith, stays_bad))
  step_splits hearing old new begun emitted state (Ok passed) number lines later none e =
      let next : Hearing =
      record hearing { splitting = state; judging = new passed; begun = begun passed } in
      grind (arith, emitted passed, later number next none e)

  form_splits : (form : Option OctetLine) (old : Hearing) (number : ℕ) (lines : List (List ℕ))
      → Later lines → NoneJoins (cons_option (option_and_then stream_item_of form)
      (shown_stream (form_behind old.form form) lines))
      → judged_from Octets (or_bad_form (hearing_after_line old) form) number lines ≡ Ok judging
      → split_judged old.judging.judged
      (all_split old.splitting (cons_option (option_and_then stream_item_of form)
      (shown_stream (form_behind old.form form) lines)))
      ≡ Ok judging.judged
  form_splits None old number lines later none e = absurd (grind (arith, stays_bad))
  form_splits (Some line.Other) old number lines later none e = later number old none e
  form_splits (Some line.Skipped) old number lines later none e =
      later number (record old { judging = line_skipped old.judging }) none e
  form_splits (Some (line.Form form)) old number lines later none e =
      later number (record old { form = form }) none e
  form_splits (Some (line.Page octets)) old number lines later none e = absurd none
  form_splits (Some line.Unsampled) old number lines later none e =
      absurd (grind (arith, stays_bad))
  form_splits (Some line.Untimed) old number lines later none e = absurd (grind (arith, stays_bad))
  form_splits (Some (line.Damaged time)) old number lines later none e =
      let step : SplitStep = damage_split old.splitting time in
      step_splits old old.judging (passed_by_octet old.judging) (begun_pending old.begun)
      (λ passed. grind arith) step.state step.emitted number lines later none e
  form_splits (Some line.DamagedBefore) old number lines later none e =
      let step : SplitStep = damaged_before old.splitting in
      step_splits old old.judging (passed_by_octet old.judging) (begun_pending old.begun)
      (λ passed. grind arith) step.state step.emitted number lines later none e
  form_splits (Some (line.Octet time octet)) old number lines later none e =
      let step : SplitStep = octet_split old.splitting time octet in
      step_splits (record old { spacing = spaced_by old.spacing time }) old.judging
      (passed_by_octet old.judging)
      (begun_by_octet old.begun step.state time) (λ passed. grind arith)
      step.state step.emitted number lines later none e
  form_splits (Some (line.Wake time)) old number lines later none e =
      let step : SplitStep = wake_split old.splitting time in
      step_splits old old.judging (passed_by_request old.judging)
      (begun_by_request old.begun time)
      (λ passed. grind arith)
      step.state step.emitted number lines later none e

  lines_split : (lines : List (List ℕ)) → Later lines
  lines_split [] number old none e = grind arith
  lines_split (line ∷ lines) number old none e =
      form_splits (octet_line_form old.form line) old (one_more number) lines (lines_split lines)
      none e

-- The law

blames_nothing : (old end : JudgeState) (result : Result (List SplitItem) SplitFault)
    → IfOk result (λ what. BlamesNothing (fold judge_after_item old what))
    → split_judged old result ≡ Ok end → BlamesNothing end
blames_nothing old end (Ok what) never is =
    let same : fold judge_after_item old what ≡ end = cc in
    subst BlamesNothing same never
blames_nothing old end (Err fault) never is = absurd (cc)

pub octet_texts : OctetsNeverBlamed → OctetTextsNeverBlamed
octet_texts law odd rate text judging h =
    blames_nothing (new_judge odd) judging.judged
    (all_split (new_splitter rate) (stream_of h.items))
    (law odd rate h.items h.written h.far h.silence h.honest)
    (ap (λ stream. split_judged (new_judge odd) (all_split (new_splitter rate) stream))
    (sym h.shown)
    ∙ lines_split judging (lines_of text) 0 (new_hearing rate odd)
    (subst NoneJoins (sym h.shown) (none_joins h.items)) h.judged)
