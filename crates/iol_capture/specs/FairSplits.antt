-- What a judge makes of what a splitter tells, and the law: no device by the rules is blamed.
use Rattle.std.specs.Prelude.{◌≡◌, ◌≢◌, ℕ, zero, suc, List, [], ◌∷◌, length, fold, IfOk}
use Rattle.iol_far.specs.Far.{Far}
use Rattle.iol_link.specs.declared.wire.Rate.{Rate}
use Rattle.iol_judge.specs.declared.reason.Reason.{Reason}
use Rattle.iol_judge.specs.declared.verdict.Verdict.TheVariants.{NotHonest}
use Rattle.iol_judge.specs.declared.verdict.Odd.{Odd}
use Rattle.iol_judge.specs.declared.verdict.Wake.TheVariants.{Answered, Unanswered}
use Rattle.iol_judge.specs.Judged.{JudgeState, new_judge, judge_after_exchange, judge_after_wake, judge_resumed}
use Rattle.iol_judge.specs.Admitted.{IsHonestRun, Passes, Passing, Wakes}
use Rattle.iol_capture.specs.declared.passed.SplitItem.{SplitItem}
use Rattle.iol_capture.specs.declared.passed.SplitItem.TheVariants as passed
use Rattle.iol_capture.specs.SplitterState.{new_splitter}
use Rattle.iol_capture.specs.Written.{AreWritten, Item, TimedExchange, all_split, octets_of_timed, stream_of}
use Rattle.iol_capture.specs.Damage.{some_octets}
use Rattle.iol_capture.specs.Written as written

abbrev pub judge_after_item : JudgeState → SplitItem → JudgeState
judge_after_item judged (passed.Exchange exchange) =
    judge_after_exchange judged exchange.sent exchange.answer
judge_after_item judged (passed.Wake answer) = judge_after_wake judged answer
judge_after_item judged (passed.Resumed mode) = judge_resumed judged mode

-- an exchange, as it went over the line
abbrev pub exchange_passed : TimedExchange → Passing
exchange_passed w =
    Passes (octets_of_timed w.sent) (some_octets (octets_of_timed w.answer))

-- so many wake-up requests that aren't answered
abbrev pub unanswered_before : ℕ → List Passing → List Passing
unanswered_before zero passings = passings
unanswered_before (suc count) passings = Wakes Unanswered ∷ unanswered_before count passings

-- what went over the line: each request that isn't shown, too
abbrev pub items_passed : List Item → List Passing
items_passed [] = []
items_passed (written.Passes w ∷ items) = exchange_passed w ∷ items_passed items
items_passed (written.Reads w ∷ items) =
    Wakes Unanswered ∷ exchange_passed w ∷ items_passed items
items_passed (written.Wakes time tries t ∷ items) = Wakes Answered ∷ items_passed items
items_passed (written.Fails time tries ∷ items) = Wakes Unanswered ∷ items_passed items
items_passed (written.Tests tries t ∷ items) =
    unanswered_before (length tries) (Wakes Answered ∷ items_passed items)
items_passed (written.Lapses t tries ∷ items) =
    unanswered_before (length tries) (Wakes Unanswered ∷ items_passed items)

-- a judge says nothing against the device, and found nothing odd
pub record BlamesNothing (judged : JudgeState) : Type 0 where
  pub unblamed : (exchange : ℕ) (reason : Reason) → judged.verdict ≢ NotHonest exchange reason
  pub none_odd : judged.oddities ≡ 0

-- the law: of what a device by the rules brings over a lossy line, written by the rules, what it is
-- split into is never called not honest, nor odd
abbrev pub OctetsNeverBlamed : Type 0
OctetsNeverBlamed = (odd : Odd) (rate : Rate) (items : List Item)
    → AreWritten (new_splitter rate) items
    → (far : Far) (silence : ℕ) → IsHonestRun far silence (items_passed items)
    → IfOk (all_split (new_splitter rate) (stream_of items))
    (λ what. BlamesNothing (fold judge_after_item (new_judge odd) what))
