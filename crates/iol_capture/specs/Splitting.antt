-- What a splitter makes of an octet.
use Rattle.std.specs.Prelude.{ℕ, ◌-◌, Bool, true, false, ◌==◌, nat_lt, if◌then◌else◌, [], ◌∷◌, ◌++◌, length, Option, Some, None, is_some, Result, Ok, Err}
use Rattle.iol_mseq.specs.Shape.{Shape}
use Rattle.iol_mseq.specs.Master.{master_in}
use Rattle.iol_mseq.specs.Replies.{reply_in}
use Rattle.iol_judge.specs.declared.open.Open.{Open}
use Rattle.iol_judge.specs.declared.verdict.Wake.TheVariants.{Unanswered}
use Rattle.iol_judge.specs.Observed.{layouts_observed}
use Rattle.iol_judge.specs.Judged.{noted_by}
use Rattle.iol_capture.specs.declared.split_fault.SplitFault.TheVariants as fault
use Rattle.iol_capture.specs.declared.gap.Gap.{Gap}
use Rattle.iol_capture.specs.declared.gap.Gap.TheVariants as gap
use Rattle.iol_capture.specs.declared.message.Meaning.{Meaning}
use Rattle.iol_capture.specs.declared.message.Meaning.TheVariants.{Part, Whole, TestRead, ReadOrTest}
use Rattle.iol_capture.specs.declared.passed.SplitItem.{SplitItem}
use Rattle.iol_capture.specs.declared.passed.SplitItem.TheVariants as passed
use Rattle.iol_capture.specs.declared.splitter.Phase.{Phase}
use Rattle.iol_capture.specs.declared.splitter.Phase.TheVariants.{Joined, Waking, Message, Reply, Rest, Damaged, Trial, Spoiled}
use Rattle.iol_capture.specs.declared.splitter.Requests.TheVariants.{Shown}
use Rattle.iol_capture.specs.Times.{gap_of}
use Rattle.iol_capture.specs.Linking.{mode_begun, link_after}
use Rattle.iol_capture.specs.Lengths.{meaning_in, reply_length}
use Rattle.iol_capture.specs.SplitterState.{Splitting}
use Rattle.iol_capture.specs.SplitSteps.{SplitStep, split_step, good_step}
use Rattle.iol_capture.specs.Damage.{cleared_line, damaged_heard, damaged_line, exchange_of, joined_heard, layout_begun, line_awaiting_reply, line_in_message, line_on_trial, spoiled_heard, spoiled_step, trial_heard}
use Rattle.iol_capture.specs.Waking.{waking_heard}

-- A message

abbrev pub looked_as : Meaning → Splitting → Shape → SplitStep
looked_as Part state layout = good_step state None
looked_as Whole state layout = good_step (line_awaiting_reply state layout) None
looked_as TestRead state layout = good_step (record state { phase = Waking }) None
looked_as ReadOrTest state layout =
    good_step (line_awaiting_reply state layout) (Some (passed.Wake Unanswered))

-- what its octets so far are in this layout
abbrev pub step_in_layout : Splitting → Shape → SplitStep
step_in_layout state layout = looked_as (meaning_in layout state.requests state.sent) state layout

abbrev pub looked_in : Splitting → Result Shape Open → SplitStep
looked_in state (Ok layout) = step_in_layout state layout
looked_in state (Err why) = split_step state (Err (fault.NoLayout why))

-- it goes on with this octet
abbrev pub sent_more : Splitting → ℕ → SplitStep
sent_more state octet =
    if length state.sent == 66 then good_step (damaged_line state 1) None else
    let more = record state { sent = state.sent ++ octet ∷ [] } in
    looked_in more (layout_begun more)

abbrev pub message_heard : Gap → Splitting → ℕ → SplitStep
message_heard gap.Overlap state octet = split_step state (Err fault.Overlap)
message_heard gap.Close state octet = sent_more state octet
message_heard gap.Message state octet = sent_more state octet
message_heard gap.Pause state octet = good_step (line_on_trial (damaged_line state 0) octet) None
message_heard other state octet = good_step (damaged_line state 1) None

-- A reply

-- what a good reply says of the page and the mode
abbrev pub line_after_reply : Splitting → Splitting
line_after_reply state = elim (master_in state.layout state.sent) [
  | Some message ↦ if is_some (reply_in state.layout message.mc.read state.answer)
      then record state {
        observed = noted_by state.observed message.mc state.answer;
        link = link_after state.link (layouts_observed state.observed) state.sent message;
      }
      else state
  | None ↦ state
]

-- it is whole
abbrev pub line_at_rest : Splitting → Splitting
line_at_rest state = cleared_line (record (line_after_reply state) { phase = Rest })

abbrev pub concluding_step : Splitting → SplitStep
concluding_step state = good_step (line_at_rest state) (Some (exchange_of state))

abbrev pub answered_with : Splitting → SplitStep
answered_with state =
    if length state.answer == reply_length state.layout state.sent then concluding_step state
    else good_step state None

-- it goes on with this octet
abbrev pub answered_more : Splitting → ℕ → SplitStep
answered_more state octet =
    if length state.answer == 66 then good_step (damaged_line state 1) None else
    answered_with (record state { answer = state.answer ++ octet ∷ [] })

-- it didn't come, or not all of it, and the next message begins
abbrev pub pause_heard : Splitting → ℕ → SplitStep
pause_heard state octet = good_step (line_in_message state octet) (Some (exchange_of state))

-- no octet of it came yet
abbrev pub first_heard : Gap → Splitting → ℕ → SplitStep
first_heard gap.Overlap state octet = split_step state (Err fault.Overlap)
first_heard gap.Close state octet = good_step (damaged_line state 1) None
first_heard gap.Pause state octet = pause_heard state octet
first_heard other state octet = answered_more state octet

-- some came
abbrev pub further_heard : Gap → Splitting → ℕ → SplitStep
further_heard gap.Overlap state octet = split_step state (Err fault.Overlap)
further_heard gap.Response state octet = spoiled_step state 1
further_heard gap.Pause state octet = pause_heard state octet
further_heard other state octet = answered_more state octet

abbrev pub reply_heard : Gap → Splitting → ℕ → SplitStep
reply_heard gap state octet =
    if length state.answer == 0 then first_heard gap state octet else further_heard gap state octet

-- Behind a whole reply

abbrev pub rest_heard : Gap → Splitting → ℕ → SplitStep
rest_heard gap.Overlap state octet = split_step state (Err fault.Overlap)
rest_heard gap.Response state octet = good_step (line_in_message state octet) None
rest_heard gap.Pause state octet = good_step (line_in_message state octet) None
rest_heard other state octet = good_step (damaged_line state 1) None

-- Calls

abbrev pub octet_heard : Splitting → ℕ → ℕ → SplitStep
octet_heard state elapsed octet =
    let gap = gap_of state.rate elapsed in
    elim state.phase [
      | Joined ↦ joined_heard gap state octet
      | Message ↦ message_heard gap state octet
      | Reply ↦ reply_heard gap state octet
      | Rest ↦ rest_heard gap state octet
      | Damaged ↦ damaged_heard gap state octet
      | Trial ↦ trial_heard gap state octet
      | Spoiled ↦ spoiled_heard gap state octet
      | phase ↦ waking_heard gap state octet
    ]

-- an octet that begins at this time
abbrev pub octet_split : Splitting → ℕ → ℕ → SplitStep
octet_split state time octet =
    if nat_lt time state.last then split_step state (Err fault.TimeBack) else
    octet_heard (record state { last = time }) (time - state.last) octet

-- what isn't told when a stream ends
abbrev pub pending_at_end : Splitting → Option SplitItem
pending_at_end state = elim state.phase [
  | Waking ↦ Some (passed.Wake Unanswered)
  | Reply ↦ Some (exchange_of state)
  | phase ↦ None
]

-- what goes over the line isn't known
abbrev pub is_unheard : Phase → Bool
is_unheard Message = true
is_unheard Damaged = true
is_unheard Trial = true
is_unheard phase = false

-- what a wake-up request tells that cuts off what is under way
abbrev pub cut_by_wake : Splitting → SplitStep
cut_by_wake state =
    if is_unheard state.phase
    then good_step (damaged_line state 0) (Some (passed.Resumed (mode_begun state.link [])))
    else good_step (cleared_line state) (pending_at_end state)

-- an answer to a wake-up request is awaited
abbrev pub line_after_request : Splitting → ℕ → Splitting
line_after_request state time =
    record (cleared_line state) { requests = Shown; phase = Waking; last = time }

-- a wake-up request that the decoder shows at this time
abbrev pub wake_split : Splitting → ℕ → SplitStep
wake_split state time =
    if nat_lt time state.last then split_step state (Err fault.TimeBack) else
    let cut = cut_by_wake state in
    split_step (line_after_request cut.state time) cut.emitted
