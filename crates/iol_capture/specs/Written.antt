-- Exchanges as they are written on a line, and the law: they are split again (IEC 61131-9, A.3).
use Rattle.std.specs.Prelude.{◌≡◌, ◌⊎◌, ℕ, ◌+◌, ◌*◌, ◌<◌, ◌≤◌, ◌==◌, true, false, if◌then◌else◌, List, [], ◌∷◌, ◌++◌, length, map, Option, Some, None, Result, Ok, Err}
use Rattle.iol_link.specs.Honest.{test_read}
use Rattle.iol_mseq.specs.Shape.{Shape}
use Rattle.iol_link.specs.declared.wire.Rate.{Rate}
use Rattle.iol_judge.specs.declared.verdict.Wake.TheVariants.{Answered, Unanswered}
use Rattle.iol_capture.specs.declared.split_fault.SplitFault.{SplitFault}
use Rattle.iol_capture.specs.declared.message.Meaning.{Meaning}
use Rattle.iol_capture.specs.declared.message.Meaning.TheVariants.{Part, Whole, TestRead, ReadOrTest}
use Rattle.iol_capture.specs.declared.passed.SplitItem.{SplitItem}
use Rattle.iol_capture.specs.declared.passed.SplitItem.TheVariants as passed
use Rattle.iol_capture.specs.declared.splitter.Phase.{Phase}
use Rattle.iol_capture.specs.declared.splitter.Phase.TheVariants.{Asleep, Reply, Rest, Waking}
use Rattle.iol_capture.specs.Times.{bit_time}
use Rattle.iol_capture.specs.Lengths.{meaning_in, reply_length}
use Rattle.iol_capture.specs.SplitterState.{Splitting, new_splitter}
use Rattle.iol_capture.specs.SplitSteps.{SplitStep, good_step}
use Rattle.iol_capture.specs.Waking.{is_test_reply, line_in_startup}
use Rattle.iol_capture.specs.Splitting.{pending_at_end, octet_split, line_after_request, line_at_rest, wake_split}
use Rattle.iol_capture.specs.Damage.{damage_split, damaged_before, layout_begun, line_joined, some_octets}

-- an octet, and when it begins
pub record TimedOctet : Type 0 where
  pub time : ℕ
  pub octet : ℕ

abbrev pub octets_of_timed : List TimedOctet → List ℕ
octets_of_timed timed = map (λ (t : TimedOctet). t.octet) timed

-- A stream

-- what a decoder shows
pub data StreamItem : Type 0 where
  Octet : TimedOctet → StreamItem
  -- a wake-up request, and when it begins
  Request : ℕ → StreamItem
  -- an octet with an error, and when it begins
  Damage : ℕ → StreamItem
  -- that the octet before has one
  DamageBefore : StreamItem
  -- that it begins while a device with this page is in OPERATE
  Joins : List ℕ → StreamItem

abbrev pub split : Splitting → StreamItem → SplitStep
split state (Octet t) = octet_split state t.time t.octet
split state (Request time) = wake_split state time
split state (Damage time) = damage_split state time
split state DamageBefore = damaged_before state
split state (Joins octets) = good_step (line_joined state octets) None

abbrev pub with_emitted : Result (Option SplitItem) SplitFault → Result (List SplitItem) SplitFault
    → Result (List SplitItem) SplitFault
with_emitted (Ok None) later = later
with_emitted (Ok (Some passed)) (Ok later) = Ok (passed ∷ later)
with_emitted (Ok (Some passed)) (Err fault) = Err fault
with_emitted (Err fault) later = Err fault

-- all that a splitter tells of a stream, or the first fault
abbrev pub all_split : Splitting → List StreamItem → Result (List SplitItem) SplitFault
all_split state [] = with_emitted (Ok (pending_at_end state)) (Ok [])
all_split state (shown ∷ stream) =
    let step = split state shown in with_emitted step.emitted (all_split step.state stream)

-- octets, and what is shown behind them
abbrev pub shown_before : List TimedOctet → List StreamItem → List StreamItem
shown_before [] stream = stream
shown_before (t ∷ timed) stream = Octet t ∷ shown_before timed stream

-- Times

-- T_BIT in a frame
abbrev pub frame : ℕ
frame = 11

-- an octet begins at least, and at most, so many T_BIT behind the frame that began at that time
pub record IsBehind (rate : Rate) (least most last time : ℕ) : Type 0 where
  pub soonest : last + (frame + least) * bit_time rate ≤ time
  pub latest : time ≤ last + (frame + most) * bit_time rate

-- each begins at most so many T_BIT behind the frame of the one before
abbrev pub Follow : Rate → ℕ → ℕ → List TimedOctet → Type 0
Follow rate most last [] = Unit {0}
Follow rate most last (t ∷ timed) =
    IsBehind rate 0 most last t.time × Follow rate most t.time timed

-- the shortest pause before a message, in T_BIT: longer than the gaps of a reply, and behind a
-- reply that isn't whole longer than it takes to come
abbrev pub shortest_pause : Phase → ℕ
shortest_pause Rest = 4
shortest_pause phase = 11

abbrev pub IsBehindPause : Splitting → ℕ → Type 0
IsBehindPause state time =
    state.last + (frame + shortest_pause state.phase) * bit_time state.rate ≤ time

abbrev pub IsSentBehind : Splitting → List TimedOctet → Type 0
IsSentBehind state [] = ⊥
IsSentBehind state (t ∷ timed) =
    IsBehindPause state t.time × Follow state.rate 1 t.time timed

-- a reply begins 1 to 10 T_BIT behind the message, if any comes
abbrev pub IsAnswerBehind : Rate → ℕ → List TimedOctet → Type 0
IsAnswerBehind rate last [] = Unit {0}
IsAnswerBehind rate last (t ∷ timed) = IsBehind rate 1 10 last t.time × Follow rate 3 t.time timed

abbrev pub last_of : ℕ → List TimedOctet → ℕ
last_of last [] = last
last_of last (t ∷ timed) = last_of t.time timed

-- Exchanges

-- a message, and what came back
pub record TimedExchange : Type 0 where
  pub sent : List TimedOctet
  pub answer : List TimedOctet

abbrev pub exchange_written : TimedExchange → SplitItem
exchange_written w = passed.Exchange (record {
  sent = octets_of_timed w.sent;
  answer = some_octets (octets_of_timed w.answer);
})

-- the octets are this in the layout that a message has which begins with them
pub record Means (state : Splitting) (sent : List ℕ) (meaning : Meaning) : Type 0 where
  pub layout : Shape
  pub spoken : layout_begun (record state { sent = sent }) ≡ Ok layout
  pub meant : meaning_in layout state.requests sent ≡ meaning

pub record IsWholeMessage (state : Splitting) (layout : Shape) (sent : List ℕ)
    (meaning : Meaning) : Type 0 where
  pub spoken : layout_begun (record state { sent = sent }) ≡ Ok layout
  pub whole : meaning_in layout state.requests sent ≡ meaning
  -- and no beginning is whole
  pub parts : (begun rest : List ℕ) → sent ≡ begun ++ rest → 1 < length begun → 0 < length rest
      → Means state begun Part
  pub most : length sent ≤ 66

-- the device was woken
abbrev pub IsSpeaking : Phase → Type 0
IsSpeaking Rest = Unit {0}
IsSpeaking Reply = Unit {0}
IsSpeaking phase = ⊥

-- no wake-up request waits to be told
abbrev pub NoneWaits : Phase → Type 0
NoneWaits Waking = ⊥
NoneWaits phase = Unit {0}

-- once a message went over the line, and this came back
abbrev pub exchanged_with : Splitting → Splitting
exchanged_with state =
    if length state.answer == reply_length state.layout state.sent then line_at_rest state
    else state

abbrev pub line_after_exchange : Splitting → Shape → TimedExchange → Splitting
line_after_exchange state layout w = exchanged_with (record state {
  layout = layout;
  phase = Reply;
  sent = octets_of_timed w.sent;
  answer = octets_of_timed w.answer;
  last = last_of (last_of state.last w.sent) w.answer;
})

-- it is written by the rules: a message as the layout has it, behind it no more than the reply to
-- it, and the times as the standard gives them
pub record IsWellWritten (state : Splitting) (layout : Shape) (w : TimedExchange)
    (meaning : Meaning) : Type 0 where
  pub speaks : IsSpeaking state.phase
  pub message : IsWholeMessage state layout (octets_of_timed w.sent) meaning
  pub sent : IsSentBehind state w.sent
  pub reply : length (octets_of_timed w.answer) ≤ reply_length layout (octets_of_timed w.sent)
  pub most : reply_length layout (octets_of_timed w.sent) ≤ 66
  pub answer : IsAnswerBehind state.rate (last_of state.last w.sent) w.answer

-- Test reads

-- a test read and the reply to it: the times of its octets, and the two octets of the reply
pub record TimedTestRead : Type 0 where
  pub control : ℕ
  pub check : ℕ
  pub value : TimedOctet
  pub status : TimedOctet

-- it is written by the rules, with a good reply
pub record IsTested (rate : Rate) (t : TimedTestRead) : Type 0 where
  pub check : IsBehind rate 0 1 t.control t.check
  pub value : IsBehind rate 1 10 t.check t.value.time
  pub status : IsBehind rate 0 3 t.value.time t.status.time
  pub reply : is_test_reply t.value.octet t.status.octet ≡ true

abbrev pub line_after_test : Splitting → TimedTestRead → Splitting
line_after_test state t = line_in_startup (record state { last = t.status.time })

-- one without a good reply, and what came back
pub record TimedTry : Type 0 where
  pub control : ℕ
  pub check : ℕ
  pub answer : List TimedOctet

-- no good reply: nothing, one octet, or two that are none
abbrev pub IsNoTestReply : List ℕ → Type 0
IsNoTestReply (value ∷ status ∷ []) = is_test_reply value status ≡ false
IsNoTestReply (value ∷ status ∷ octet ∷ octets) = ⊥
IsNoTestReply octets = Unit {0}

pub record IsVainTest (rate : Rate) (t : TimedTry) : Type 0 where
  pub check : IsBehind rate 0 1 t.control t.check
  pub answer : IsAnswerBehind rate t.check t.answer
  pub bad : IsNoTestReply (octets_of_timed t.answer)

-- A test read may begin at this time where a request is shown or nothing was told before, if none
-- is under way or there was a pause; or behind a request that isn't shown, where its octets are no
-- message of the layout
abbrev pub TestMayBegin : Phase → Splitting → ℕ → Type 0
TestMayBegin Asleep state time =
    IsBehindPause state time ⊎ ((state.last ≤ time) × (state.sent ≡ []))
TestMayBegin Waking state time =
    IsBehindPause state time ⊎ ((state.last ≤ time) × (state.sent ≡ []))
TestMayBegin phase state time =
    IsSpeaking phase × IsBehindPause state time × Means state test_read TestRead

abbrev pub phase_in_test : Phase → Phase
phase_in_test Asleep = Asleep
phase_in_test phase = Waking

-- the reply to it is awaited
abbrev pub line_awaiting_answer : Splitting → ℕ → Splitting
line_awaiting_answer state time = record state {
  phase = phase_in_test state.phase;
  sent = test_read;
  answer = [];
  last = time;
}

-- what is kept of it behind these octets, which are no good reply
abbrev pub sent_behind : List ℕ → List ℕ
sent_behind (value ∷ status ∷ octets) = if status == 0xA2 then status ∷ [] else []
sent_behind octets = test_read

abbrev pub answer_behind : List ℕ → List ℕ
answer_behind (value ∷ status ∷ octets) = []
answer_behind octets = octets

abbrev pub line_after_try : Splitting → TimedTry → Splitting
line_after_try state t = record state {
  phase = phase_in_test state.phase;
  sent = sent_behind (octets_of_timed t.answer);
  answer = answer_behind (octets_of_timed t.answer);
  last = last_of t.check t.answer;
}

abbrev pub line_after_tries : Splitting → List TimedTry → Splitting
line_after_tries state [] = state
line_after_tries state (t ∷ tries) = line_after_tries (line_after_try state t) tries

-- each in turn is written by the rules
abbrev pub AreTried : Splitting → List TimedTry → Type 0
AreTried state [] = Unit {0}
AreTried state (t ∷ tries) = TestMayBegin state.phase state t.control × IsVainTest state.rate t
    × AreTried (line_after_try state t) tries

-- a good reply came to the last of test reads
pub record AreAnswered (state : Splitting) (tries : List TimedTry)
    (t : TimedTestRead) : Type 0 where
  pub before : AreTried state tries
  pub begins : TestMayBegin (line_after_tries state tries).phase (line_after_tries state tries)
      t.control
  pub tested : IsTested state.rate t

-- Captures

-- what went over the line
pub data Item : Type 0 where
  Passes : TimedExchange → Item
  -- a read of page address 0x02 that may be a test read, where the decoder shows no requests
  Reads : TimedExchange → Item
  -- a wake-up request that is shown, and answered, the last of its test reads
  Wakes : ℕ → List TimedTry → TimedTestRead → Item
  -- one that isn't answered
  Fails : ℕ → List TimedTry → Item
  -- requests that aren't shown, each by its test read, of which the last is answered
  Tests : List TimedTry → TimedTestRead → Item
  -- none is
  Lapses : TimedTry → List TimedTry → Item

-- each in turn is written by the rules
abbrev pub AreWritten : Splitting → List Item → Type 0
AreWritten state [] = Unit {0}
AreWritten state (Passes w ∷ items) = (layout : Shape)
    × IsWellWritten state layout w Whole × AreWritten (line_after_exchange state layout w) items
AreWritten state (Reads w ∷ items) = (layout : Shape)
    × IsWellWritten state layout w ReadOrTest
    × AreWritten (line_after_exchange state layout w) items
AreWritten state (Wakes time tries t ∷ items) = (state.last ≤ time)
    × AreAnswered (line_after_request state time) tries t
    × AreWritten (line_after_test (line_after_tries (line_after_request state time) tries) t) items
AreWritten state (Fails time tries ∷ items) = (state.last ≤ time)
    × AreTried (line_after_request state time) tries
    × AreWritten (line_after_tries (line_after_request state time) tries) items
AreWritten state (Tests tries t ∷ items) = NoneWaits state.phase × AreAnswered state tries t
    × AreWritten (line_after_test (line_after_tries state tries) t) items
AreWritten state (Lapses t tries ∷ items) = IsSpeaking state.phase × AreTried state (t ∷ tries)
    × AreWritten (line_after_tries state (t ∷ tries)) items

-- A stream

abbrev pub test_before : TimedTestRead → List StreamItem → List StreamItem
test_before t stream = Octet (record { time = t.control; octet = 0xA2 })
    ∷ Octet (record { time = t.check; octet = 0 }) ∷ Octet t.value ∷ Octet t.status ∷ stream

abbrev pub try_before : TimedTry → List StreamItem → List StreamItem
try_before t stream = Octet (record { time = t.control; octet = 0xA2 })
    ∷ Octet (record { time = t.check; octet = 0 }) ∷ shown_before t.answer stream

abbrev pub tries_before : List TimedTry → List StreamItem → List StreamItem
tries_before [] stream = stream
tries_before (t ∷ tries) stream = try_before t (tries_before tries stream)

abbrev pub stream_of : List Item → List StreamItem
stream_of [] = []
stream_of (Passes w ∷ items) = shown_before w.sent (shown_before w.answer (stream_of items))
stream_of (Reads w ∷ items) = shown_before w.sent (shown_before w.answer (stream_of items))
stream_of (Wakes time tries t ∷ items) =
    Request time ∷ tries_before tries (test_before t (stream_of items))
stream_of (Fails time tries ∷ items) = Request time ∷ tries_before tries (stream_of items)
stream_of (Tests tries t ∷ items) = tries_before tries (test_before t (stream_of items))
stream_of (Lapses t tries ∷ items) = tries_before (t ∷ tries) (stream_of items)

-- what is to be told of them: of requests that aren't shown, the last of a row
abbrev pub emitted_items : List Item → List SplitItem
emitted_items [] = []
emitted_items (Passes w ∷ items) = exchange_written w ∷ emitted_items items
emitted_items (Reads w ∷ items) = passed.Wake Unanswered ∷ exchange_written w ∷ emitted_items items
emitted_items (Wakes time tries t ∷ items) = passed.Wake Answered ∷ emitted_items items
emitted_items (Fails time tries ∷ items) = passed.Wake Unanswered ∷ emitted_items items
emitted_items (Tests tries t ∷ items) = passed.Wake Answered ∷ emitted_items items
emitted_items (Lapses t tries ∷ items) = passed.Wake Unanswered ∷ emitted_items items

-- the law: what is written by the rules is split into exactly this
abbrev pub WrittenIsSplit : Type 0
WrittenIsSplit = (rate : Rate) (items : List Item) → AreWritten (new_splitter rate) items
    → all_split (new_splitter rate) (stream_of items) ≡ Ok (emitted_items items)
