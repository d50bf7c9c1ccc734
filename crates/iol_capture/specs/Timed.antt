-- The calls of the wire that octets are split into, and when each began.
use Rattle.std.specs.Prelude.{ℕ, Option, Some, None, option_map, unwrap_or}
use Rattle.iol_mseq.specs.Shape.{Shape}
use Rattle.iol_judge.specs.declared.verdict.Wake.TheVariants.{Unanswered}
use Rattle.iol_judge.specs.Judged.{one_more}
use Rattle.iol_capture.specs.declared.passed.SplitItem.{SplitItem}
use Rattle.iol_capture.specs.declared.passed.SplitItem.TheVariants.{Resumed, Wake}
use Rattle.iol_capture.specs.declared.timed_call.Beginnings.{Beginnings}
use Rattle.iol_capture.specs.declared.timed_call.TimedCall.{TimedCall}
use Rattle.iol_capture.specs.Judging.{Judging}

-- Times

abbrev pub none_begun : Beginnings
none_begun = record { octet = 0; request = None }

-- when this began, which is told now: a wake-up request where it's shown, or at its test read
abbrev pub time_of : Beginnings → SplitItem → ℕ
time_of begun (Wake woken) = unwrap_or begun.request begun.octet
time_of begun passed = begun.octet

-- a wake-up request that was told is over
abbrev pub begun_pending : Beginnings → Option SplitItem → Beginnings
begun_pending begun (Some (Wake woken)) = record begun { request = None }
begun_pending begun passed = begun

-- Numbers

-- that of a call which a wake-up request or the end tells, where they tell one
abbrev pub number_of_next : Judging → Option SplitItem → Option ℕ
number_of_next judging (Some (Resumed mode)) = None
number_of_next judging passed = option_map (λ item. one_more judging.call) passed

-- that of a call which an octet tells: an unanswered wake-up request has none, and may be none
abbrev pub number_by_octet : Judging → Option SplitItem → Option ℕ
number_by_octet judging (Some (Wake Unanswered)) = None
number_by_octet judging passed = number_of_next judging passed

-- Calls

-- That of this number which is told, where one is, with this layout. Damage is none
abbrev pub call_emitted : Beginnings → Option ℕ → Shape → Option SplitItem → Option TimedCall
call_emitted begun number layout (Some (Resumed mode)) = None
call_emitted begun number layout passed = option_map (λ item. record {
  time = time_of begun item;
  number = number;
  layout = layout;
  item = item;
}) passed
