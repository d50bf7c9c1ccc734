-- A judge, told the lines of a trace.
use Rattle.std.specs.Prelude.{ℕ, ◌+◌, Bool, true, false, ◌==◌, ◌||◌, nat_lt, Option, Some, None, is_some, Result, Ok, Err, List, [], ◌∷◌, ◌++◌, length, if◌then◌else◌}
use Rattle.std.specs.Option.{option_map_or}
use Rattle.std.specs.Result.{result_map_both}
use Rattle.iol_far.specs.declared.mode.DeviceMode.{DeviceMode}
use Rattle.iol_far.specs.Octets.{octets_in}
use Rattle.iol_judge.specs.declared.reason.Reason.{Reason}
use Rattle.iol_judge.specs.declared.verdict.Odd.{Odd}
use Rattle.iol_judge.specs.declared.verdict.Verdict.{Verdict}
use Rattle.iol_judge.specs.declared.verdict.Verdict.TheVariants.{Unjudged, Honest, NotHonest, CantSay}
use Rattle.iol_judge.specs.declared.verdict.Wake.{Wake as WakeAnswer}
use Rattle.iol_judge.specs.declared.verdict.Wake.TheVariants.{Unanswered}
use Rattle.iol_judge.specs.Observed.{whole_page}
use Rattle.iol_judge.specs.Judged.{JudgeState, new_judge, judge_after_exchange, judge_after_wake, judge_resumed, one_more}
use Rattle.iol_capture.specs.declared.passed.SplitItem.{SplitItem}
use Rattle.iol_capture.specs.declared.passed.SplitItem.TheVariants as passed
use Rattle.iol_capture.specs.declared.fault.LineFault.{LineFault}
use Rattle.iol_capture.specs.declared.fault.LineFault.TheVariants.{BadForm, WrongNumber, ReplyMissing, MessageMissing}
use Rattle.iol_capture.specs.declared.judgement.ExchangeCounts.{ExchangeCounts}
use Rattle.iol_capture.specs.declared.judgement.OddExchange.{OddExchange}
use Rattle.iol_capture.specs.declared.judgement.TheConstants.{ODD_SHOWN}
use Rattle.iol_capture.specs.declared.spacing.RateDoubt.{RateDoubt}
use Rattle.iol_capture.specs.declared.trace_line.TraceLine.{TraceLine}
use Rattle.iol_capture.specs.declared.trace_line.TraceLine.TheVariants.{Other, Skipped, Page, Wake, Sent, Received}
use Rattle.iol_capture.specs.Watching.{Watching, exchange_watched, watching_unheard, new_watching, page_watched, wake_watched}

pub record Judging : Type 0 where
  -- what the judge was told
  pub judged : JudgeState
  -- what the watch of the master was told of the same calls
  pub watching : Watching
  -- the number of the last call of the wire, 0 before the first
  pub call : ℕ
  -- what was sent in it, until it's told what came back
  pub sent : Option (List ℕ)
  -- the call on which the verdict rests: the last that began while the verdict was open
  pub decided : ℕ
  pub counts : ExchangeCounts
  -- the first exchanges in which something was odd, and passed over
  pub odd : List OddExchange
  -- how many octets were passed over
  pub passed_over : ℕ
  -- how many lines were skipped
  pub skipped : ℕ
  -- why the rate of the line can't be the one that was given
  pub rate_doubt : Option RateDoubt

abbrev pub no_counts : ExchangeCounts
no_counts = record { unjudged = 0; judged = 0; lost = 0 }

abbrev pub new_judging : Odd → Judging
new_judging odd = record {
  judged = new_judge odd;
  watching = new_watching;
  call = 0;
  sent = None;
  decided = 0;
  counts = no_counts;
  odd = [];
  passed_over = 0;
  skipped = 0;
  rate_doubt = None;
}

-- Counts

abbrev pub counts_after_exchange : Verdict → ExchangeCounts → Option (List ℕ) → ExchangeCounts
counts_after_exchange Unjudged counts received =
    record counts { unjudged = one_more counts.unjudged }
counts_after_exchange Honest counts None =
    record counts { judged = one_more counts.judged; lost = one_more counts.lost }
counts_after_exchange Honest counts (Some octets) =
    record counts { judged = one_more counts.judged }
counts_after_exchange verdict counts received = counts

-- Calls of the wire

-- whether more can change a verdict
abbrev pub is_verdict_open : Verdict → Bool
is_verdict_open Unjudged = true
is_verdict_open Honest = true
is_verdict_open (NotHonest exchange reason) = false
is_verdict_open (CantSay exchange why) = false

-- a call may have this number: the first any, each other the next
abbrev pub is_call_number : ℕ → ℕ → Bool
is_call_number call number = (call == 0) || (number == call + 1)

-- the call of this number has begun
abbrev pub judging_in_call : Judging → ℕ → Judging
judging_in_call judging number = record judging {
  call = number;
  decided = if is_verdict_open judging.judged.verdict then number else judging.decided;
}

-- a call begins, where the one before has ended
abbrev pub judging_at_next_call : Judging → ℕ → Result Judging LineFault
judging_at_next_call judging number =
    if is_some judging.sent then Err ReplyMissing else
    if is_call_number judging.call number then Ok (judging_in_call judging number)
    else Err WrongNumber

-- a wake-up request was made
abbrev pub wake_judged : Judging → WakeAnswer → Judging
wake_judged judging wake = record judging {
  judged = judge_after_wake judging.judged wake;
  watching = wake_watched judging.watching wake;
}

-- an odd exchange is noted, while there is room
abbrev pub with_odd : List OddExchange → ℕ → Option Reason → List OddExchange
with_odd odd call None = odd
with_odd odd call (Some reason) =
    if nat_lt (length odd) ODD_SHOWN then odd ++ record { call = call; reason = reason } ∷ []
    else odd

-- a message and what came back are an exchange
abbrev pub judging_after_exchange : Judging → List ℕ → Option (List ℕ) → Judging
judging_after_exchange judging sent received = record judging {
  judged = judge_after_exchange judging.judged sent received;
  watching = exchange_watched judging.watching judging.call sent received;
  sent = None;
  counts = counts_after_exchange judging.judged.verdict judging.counts received;
  odd = with_odd judging.odd judging.call
      (judge_after_exchange judging.judged sent received).oddity;
}

abbrev pub received_in_call : Option (List ℕ) → Judging → ℕ → Option (List ℕ)
    → Result Judging LineFault
received_in_call None judging number received = Err MessageMissing
received_in_call (Some sent) judging number received =
    if number == judging.call then Ok (judging_after_exchange judging sent received)
    else Err WrongNumber

abbrev pub page_judged : Judging → List ℕ → Judging
page_judged judging octets = record judging {
  judged = record judging.judged { observed = whole_page octets };
  watching = page_watched judging.watching octets;
}

-- the page counts before the first call alone: later it is what a port read
abbrev pub judging_with_page : Judging → List ℕ → Judging
judging_with_page judging octets = if judging.call == 0 then page_judged judging octets else judging

-- a line was skipped
abbrev pub line_skipped : Judging → Judging
line_skipped judging = record judging { skipped = one_more judging.skipped }

-- the judge, told what a line says
abbrev pub judging_after_line : Judging → TraceLine → Result Judging LineFault
judging_after_line judging Other = Ok judging
judging_after_line judging Skipped = Ok (line_skipped judging)
judging_after_line judging (Page octets) = Ok (judging_with_page judging octets)
judging_after_line judging (Wake number answer) =
    result_map_both (λ new. wake_judged new answer) (λ fault. fault)
    (judging_at_next_call judging number)
judging_after_line judging (Sent number octets) = result_map_both
    (λ (new : Judging). record new { sent = Some octets.items }) (λ fault. fault)
    (judging_at_next_call judging number)
judging_after_line judging (Received number received) =
    received_in_call judging.sent judging number (octets_in received)

-- a line is told so, where it fits a form
abbrev pub or_bad_form : {L J : Type 0} → (L → Result J LineFault) → Option L → Result J LineFault
or_bad_form submit line = option_map_or submit line (Err BadForm)

-- Damage

-- behind octets that were passed over, the device is in this mode
abbrev pub judging_in_mode : Judging → DeviceMode → Judging
judging_in_mode judging mode = record judging {
  judged = judge_resumed judging.judged mode;
  watching = watching_unheard judging.watching (one_more judging.call);
}

-- What a splitter tells

-- it went over the line in the call that began last
abbrev pub passed_on : Judging → SplitItem → Judging
passed_on judging (passed.Exchange exchange) =
    judging_after_exchange judging exchange.sent exchange.answer
passed_on judging (passed.Wake answer) = wake_judged judging answer
passed_on judging (passed.Resumed mode) = judging_in_mode judging mode

-- in the next call
abbrev pub passed_next : Judging → SplitItem → Judging
passed_next judging what = passed_on (judging_in_call judging (one_more judging.call)) what

-- A wake-up request that isn't shown may have been made, and not answered. The judge is told one,
-- the watch looks at the read that may be its test read.
abbrev pub maybe_woken : Judging → Judging
maybe_woken judging = record judging {
  judged = judge_after_wake judging.judged Unanswered;
  watching = record judging.watching { tests = true };
}
