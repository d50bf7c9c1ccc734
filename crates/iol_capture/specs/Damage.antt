-- What a splitter makes of damage: octets are passed over up to the next message that fits.
use Rattle.std.specs.Prelude.{ℕ, ◌+◌, ◌-◌, ◌^◌, min, Bool, true, false, ◌==◌, nat_lt, if◌then◌else◌, List, [], ◌∷◌, ◌++◌, length, Option, Some, None, is_some, Result, Ok, Err}
use Rattle.iol_mseq.specs.Shape.{Shape}
use Rattle.iol_mseq.specs.Master.{master_in}
use Rattle.iol_judge.specs.declared.open.Open.{Open}
use Rattle.iol_judge.specs.Observed.{layouts_observed, whole_page}
use Rattle.iol_judge.specs.Taking.{mode_layout}
use Rattle.iol_capture.specs.declared.split_fault.SplitFault.TheVariants as fault
use Rattle.iol_capture.specs.declared.gap.Gap.{Gap}
use Rattle.iol_capture.specs.declared.gap.Gap.TheVariants as gap
use Rattle.iol_capture.specs.declared.message.Meaning.{Meaning}
use Rattle.iol_capture.specs.declared.message.Meaning.TheVariants.{Part, TestRead}
use Rattle.iol_capture.specs.declared.passed.SplitItem.{SplitItem}
use Rattle.iol_capture.specs.declared.passed.SplitItem.TheVariants as passed
use Rattle.iol_capture.specs.declared.splitter.Phase.{Phase}
use Rattle.iol_capture.specs.declared.splitter.Phase.TheVariants.{Asleep, Joined, Waking, Message, Reply, Rest, Damaged, Trial, Spoiled}
use Rattle.iol_capture.specs.Times.{gap_of}
use Rattle.iol_capture.specs.Linking.{mode_begun, operating_link}
use Rattle.iol_capture.specs.Lengths.{meaning_in}
use Rattle.iol_capture.specs.SplitterState.{Splitting}
use Rattle.iol_capture.specs.SplitSteps.{SplitStep, split_step, good_step}

-- A message and a reply

abbrev pub some_octets : List ℕ → Option (List ℕ)
some_octets [] = None
some_octets (octet ∷ octets) = Some (octet ∷ octets)

-- those under way
abbrev pub exchange_of : Splitting → SplitItem
exchange_of state =
    passed.Exchange (record { sent = state.sent; answer = some_octets state.answer })

abbrev pub cleared_line : Splitting → Splitting
cleared_line state = record state { sent = []; answer = [] }

-- a message begins
abbrev pub line_in_message : Splitting → ℕ → Splitting
line_in_message state octet = record state { phase = Message; sent = octet ∷ []; answer = [] }

-- it is whole, in this layout
abbrev pub line_awaiting_reply : Splitting → Shape → Splitting
line_awaiting_reply state layout = record state { layout = layout; phase = Reply }

-- the layout of a message that begins with these octets, where it is known
abbrev pub layout_begun : Splitting → Result Shape Open
layout_begun state = mode_layout (layouts_observed state.observed)
    (mode_begun state.link state.sent)

-- Octets that are passed over

abbrev pub passed_more : ℕ → ℕ → ℕ
passed_more passed_over count = min (passed_over + count) (2 ^ 64 - 1)

-- what is under way is, and so many octets behind it
abbrev pub damaged_line : Splitting → ℕ → Splitting
damaged_line state behind = record (cleared_line state) {
  phase = Damaged;
  passed_over = passed_more (passed_more (passed_more state.passed_over (length state.sent))
      (length state.answer)) behind;
}

-- a reply is, and so many octets behind it: to the message none came
abbrev pub spoiled_line : Splitting → ℕ → Splitting
spoiled_line state behind =
    record (damaged_line (record state { sent = [] }) behind) { phase = Spoiled }

abbrev pub spoiled_step : Splitting → ℕ → SplitStep
spoiled_step state behind = good_step (spoiled_line state behind)
    (Some (passed.Exchange (record { sent = state.sent; answer = None })))

-- Behind damage

-- octets are tried as a message
abbrev pub line_on_trial : Splitting → ℕ → Splitting
line_on_trial state octet = record (line_in_message state octet) { phase = Trial }

abbrev pub damaged_heard : Gap → Splitting → ℕ → SplitStep
damaged_heard gap.Overlap state octet = split_step state (Err fault.Overlap)
damaged_heard gap.Pause state octet = good_step (line_on_trial state octet) None
damaged_heard other state octet =
    good_step (record state { passed_over = passed_more state.passed_over 1 }) None

-- the stream begins in OPERATE, maybe amid a message: behind a pause octets are tried
abbrev pub joined_heard : Gap → Splitting → ℕ → SplitStep
joined_heard gap.Pause state octet = good_step (line_on_trial state octet) None
joined_heard other state octet = good_step (damaged_line state 1) None

abbrev pub spoiled_heard : Gap → Splitting → ℕ → SplitStep
spoiled_heard gap.Overlap state octet = split_step state (Err fault.Overlap)
spoiled_heard gap.Response state octet = good_step (line_in_message state octet) None
spoiled_heard gap.Pause state octet = good_step (line_in_message state octet) None
spoiled_heard other state octet =
    good_step (record state { passed_over = passed_more state.passed_over 1 }) None

-- nothing was told of the line
abbrev pub is_at_begin : Phase → Bool
is_at_begin Asleep = true
is_at_begin Joined = true
is_at_begin phase = false

-- a device with this page is in OPERATE, where nothing was told before
abbrev pub joined_line : Splitting → List ℕ → Splitting
joined_line state octets = record (cleared_line state) {
  observed = whole_page octets;
  link = operating_link;
  phase = Joined;
}

abbrev pub line_joined : Splitting → List ℕ → Splitting
line_joined state octets = if is_at_begin state.phase then joined_line state octets else state

-- Octets that are tried

-- they fit if they are a whole message, or a test read: what goes on is in the layout of its mode
abbrev pub resumed_with : Splitting → Splitting → SplitStep
resumed_with state next =
    good_step next (Some (passed.Resumed (mode_begun state.link state.sent)))

abbrev pub tried_with : Meaning → Splitting → Shape → SplitStep
tried_with Part state layout = good_step state None
tried_with TestRead state layout = resumed_with state (record state { phase = Waking })
tried_with other state layout =
    if is_some (master_in layout state.sent)
    then resumed_with state (line_awaiting_reply state layout)
    else good_step (damaged_line state 0) None

abbrev pub tried_as : Splitting → Shape → SplitStep
tried_as state layout = tried_with (meaning_in layout state.requests state.sent) state layout

abbrev pub tried_in : Splitting → Result Shape Open → SplitStep
tried_in state (Ok layout) = tried_as state layout
tried_in state (Err why) = split_step state (Err (fault.NoLayout why))

abbrev pub tried_more : Splitting → ℕ → SplitStep
tried_more state octet =
    if length state.sent == 66 then good_step (damaged_line state 1) None else
    let more = record state { sent = state.sent ++ octet ∷ [] } in
    tried_in more (layout_begun more)

abbrev pub trial_heard : Gap → Splitting → ℕ → SplitStep
trial_heard gap.Overlap state octet = split_step state (Err fault.Overlap)
trial_heard gap.Close state octet = tried_more state octet
trial_heard gap.Message state octet = tried_more state octet
trial_heard gap.Pause state octet = good_step (line_on_trial (damaged_line state 0) octet) None
trial_heard other state octet = good_step (damaged_line state 1) None

-- Octets with errors

-- in the time of a reply one damages the reply; behind that, the next message
abbrev pub damaged_reply : Gap → Splitting → SplitStep
damaged_reply gap.Pause state =
    good_step (damaged_line (cleared_line state) 1) (Some (exchange_of state))
damaged_reply other state = spoiled_step state 1

abbrev pub damage_in : Gap → Splitting → SplitStep
damage_in gap state = elim state.phase [
  | Asleep ↦ good_step (cleared_line state) None
  | Waking ↦ good_step (cleared_line state) None
  | Reply ↦ damaged_reply gap state
  | phase ↦ good_step (damaged_line state 1) None
]

-- one begins at this time
abbrev pub damage_split : Splitting → ℕ → SplitStep
damage_split state time =
    if nat_lt time state.last then split_step state (Err fault.TimeBack) else
    damage_in (gap_of state.rate (time - state.last)) (record state { last = time })

-- the last octet was one
abbrev pub damaged_before : Splitting → SplitStep
damaged_before state = elim state.phase [
  | Asleep ↦ good_step (cleared_line state) None
  | Waking ↦ good_step (cleared_line state) None
  | Damaged ↦ good_step state None
  | Spoiled ↦ good_step state None
  | Reply ↦ if length state.answer == 0 then good_step (damaged_line state 0) None
      else spoiled_step state 0
  | Rest ↦ good_step (damaged_line state 1) None
  | phase ↦ good_step (damaged_line state 0) None
]
