-- The test read behind a wake-up request.
use Rattle.std.specs.Prelude.{ℕ, Bool, true, false, ◌&&◌, ◌==◌, if◌then◌else◌, [], ◌∷◌, ◌++◌, length, slice_index, Some, None, is_some}
use Rattle.iol_mseq.specs.Shape.{startup_shape}
use Rattle.iol_mseq.specs.Replies.{reply_in}
use Rattle.iol_judge.specs.declared.verdict.Wake.TheVariants.{Answered}
use Rattle.iol_capture.specs.declared.gap.Gap.{Gap}
use Rattle.iol_capture.specs.declared.gap.Gap.TheVariants as gap
use Rattle.iol_capture.specs.declared.passed.SplitItem.TheVariants as passed
use Rattle.iol_capture.specs.declared.splitter.Phase.TheVariants.{Rest}
use Rattle.iol_capture.specs.Linking.{started_link}
use Rattle.iol_capture.specs.Lengths.{is_test_read}
use Rattle.iol_capture.specs.SplitterState.{Splitting}
use Rattle.iol_capture.specs.SplitSteps.{SplitStep, good_step}

-- the octet behind it goes on with a message
abbrev pub in_message : Gap → Bool
in_message gap.Close = true
in_message gap.Message = true
in_message other = false

-- the octet behind it goes on with a reply
abbrev pub in_reply : Gap → Bool
in_reply gap.Close = true
in_reply gap.Message = true
in_reply gap.Reply = true
in_reply other = false

-- the octet behind it begins a reply
abbrev pub begins_reply : Gap → Bool
begins_reply gap.Message = true
begins_reply gap.Reply = true
begins_reply gap.Response = true
begins_reply other = false

-- a test read may begin with this octet
abbrev pub line_in_test : Splitting → ℕ → Splitting
line_in_test state octet = record state {
  sent = if octet == 0xA2 then octet ∷ [] else [];
  answer = [];
}

-- the device is in STARTUP
abbrev pub line_in_startup : Splitting → Splitting
line_in_startup state = record state { link = started_link; phase = Rest; sent = []; answer = [] }

-- a good reply to the test read
abbrev pub is_test_reply : ℕ → ℕ → Bool
is_test_reply value check = is_some (reply_in startup_shape true (value ∷ check ∷ []))

-- behind a test read
abbrev pub test_heard : Gap → Splitting → ℕ → SplitStep
test_heard gap state octet =
    if length state.answer == 0 && begins_reply gap
    then good_step (record state { answer = state.answer ++ octet ∷ [] }) None else
    if length state.answer == 1 && in_reply gap && is_test_reply (slice_index state.answer 0) octet
    then good_step (line_in_startup state) (Some (passed.Wake Answered)) else
    good_step (line_in_test state octet) None

-- before an answered test read
abbrev pub waking_heard : Gap → Splitting → ℕ → SplitStep
waking_heard gap state octet =
    if is_test_read state.sent then test_heard gap state octet else
    if length state.sent == 1 && octet == 0 && in_message gap
    then good_step (record state { sent = state.sent ++ octet ∷ [] }) None else
    good_step (line_in_test state octet) None
