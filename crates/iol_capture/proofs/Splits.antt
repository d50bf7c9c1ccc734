-- Exchanges that are written by the rules are split into these: `written_is_split`, for the law
-- `what_is_written_is_split`. Begin at the end, with `all_are_split`.
-- For the clauses of `split_laws::what_is_written_is_split`.
use Rattle.std.proofs.Common.{◌≡◌, ◌⊎◌, inl, inr, ℕ, ◌+◌, ◌<◌, ◌≤◌, true, false, List, [], ◌∷◌, ◌++◌, length, arith, refl, sym, ◌∙◌, ap, subst, append_assoc, append-nil, length-append}
use Rattle.std.specs.Prelude.{Option, Some, None, Result, Ok}
use Rattle.std.proofs.lemmas.Bool.Decides.{nat_tests}
use Rattle.iol_link.specs.Honest.{test_read}
use Rattle.iol_mseq.specs.Shape.{Shape}
use Rattle.iol_capture.specs.declared.split_fault.SplitFault.{SplitFault}
use Rattle.iol_capture.specs.declared.passed.SplitItem.{SplitItem}
use Rattle.iol_capture.specs.declared.message.Meaning.{Meaning}
use Rattle.iol_capture.specs.declared.message.Meaning.TheVariants.{Part, Whole, TestRead, ReadOrTest}
use Rattle.iol_capture.specs.declared.splitter.Phase.{Phase}
use Rattle.iol_capture.specs.declared.splitter.Phase.TheVariants.{Asleep, Waking, Message, Reply}
use Rattle.iol_capture.specs.Lengths.{meaning_in, reply_length}
use Rattle.iol_capture.specs.SplitterState.{Splitting, new_splitter}
use Rattle.iol_capture.specs.SplitSteps.{SplitStep, good_step}
use Rattle.iol_capture.specs.Splitting.{answered_with, pending_at_end, is_unheard, looked_as, octet_split, line_after_request, wake_split}
use Rattle.iol_capture.specs.Damage.{exchange_of, layout_begun}
use Rattle.iol_capture.specs.Waking.{is_test_reply, line_in_startup}
use Rattle.iol_capture.specs.Written.{AreAnswered, AreTried, AreWritten, Fails, Follow, IsAnswerBehind, TestMayBegin, IsBehind, IsBehindPause, IsNoTestReply, IsSentBehind, IsSpeaking, IsTested, IsVainTest, IsWholeMessage, IsWellWritten, Item, Lapses, Means, NoneWaits, Octet, Passes, Reads, StreamItem, TimedTestRead, TimedTry, Tests, TimedOctet, Wakes, TimedExchange, WrittenIsSplit, all_split, answer_behind, exchange_written, line_after_exchange, exchanged_with, emitted_items, last_of, line_after_tries, line_after_try, line_awaiting_answer, octets_of_timed, phase_in_test, sent_behind, shown_before, stream_of, test_before, line_after_test, tries_before, try_before, with_emitted}
use Rattle.iol_capture.specs.declared.passed.SplitItem.TheVariants as passed
use Rattle.iol_judge.specs.declared.verdict.Wake.TheVariants.{Answered, Unanswered}

-- what is split behind a step
abbrev behind : SplitStep → List StreamItem → Result (List SplitItem) SplitFault
behind step later = with_emitted step.emitted (all_split step.state later)

-- A message

-- more of a message is awaited, which began behind this state
abbrev sending : Splitting → List ℕ → ℕ → Splitting
sending base sent last =
    record base { phase = Message; sent = sent; answer = []; last = last }

-- more of a reply is
abbrev replying : Splitting → Shape → List ℕ → List ℕ → ℕ → Splitting
replying base layout sent answer last = record base {
  layout = layout;
  phase = Reply;
  sent = sent;
  answer = answer;
  last = last;
}

-- octets with this meaning are a whole message
abbrev IsEnd : Meaning → Type 0
IsEnd Whole = Unit {0}
IsEnd ReadOrTest = Unit {0}
IsEnd meaning = ⊥

-- what is told at its end
abbrev what_at : Meaning → Option SplitItem
what_at ReadOrTest = Some (passed.Wake Unanswered)
what_at meaning = None

-- one octet is no message
never_one : (state : Splitting) (layout : Shape) (octet : ℕ)
    → IsEnd (meaning_in layout state.requests (octet ∷ [])) → ⊥
never_one state layout octet ends = grind (arith, nat_tests)

-- its first octet
begins : (state : Splitting) (t : TimedOctet) → IsSpeaking state.phase → IsBehindPause state t.time
    → octet_split state t.time t.octet
    ≡ good_step (sending state (t.octet ∷ []) t.time) (pending_at_end state)
begins state t speaks h = grind (arith, nat_tests)

-- one more, where there is room for it, and what the octets are then
sent_on : (base : Splitting) (done : List ℕ) (last time octet : ℕ) (layout : Shape)
    (meaning : Meaning) → length done < 66 → IsBehind base.rate 0 1 last time
    → layout_begun (record base { sent = done ++ octet ∷ [] }) ≡ Ok layout
    → meaning_in layout base.requests (done ++ octet ∷ []) ≡ meaning
    → octet_split (sending base done last) time octet
    ≡ looked_as meaning (sending base (done ++ octet ∷ []) time) layout
sent_on base done last time octet layout meaning room h spoken is = grind (arith, nat_tests)

module _ (base : Splitting) (layout : Shape) (all : List ℕ) (meaning : Meaning)
    (ends : IsEnd meaning) (whole : IsWholeMessage base layout all meaning)
    (later : List StreamItem) where
  -- the last octet of a message
  last_sent : (done : List ℕ) (last : ℕ) (t : TimedOctet) → all ≡ done ++ t.octet ∷ []
      → Follow base.rate 1 last (t ∷ [])
      → all_split (sending base done last) (Octet t ∷ later)
      ≡ with_emitted (Ok (what_at meaning)) (all_split (replying base layout all [] t.time) later)
  last_sent done last t is follow =
      let room : length done < 66 =
      omega (arith, whole.most, ap length is, length-append {A = ℕ}) in
      grind (arith, nat_tests)

  -- the rest of one
  rest_sent : (done : List ℕ) (last : ℕ) (t : TimedOctet) (timed : List TimedOctet)
      → all ≡ done ++ octets_of_timed (t ∷ timed) → 0 < length done
      → Follow base.rate 1 last (t ∷ timed)
      → all_split (sending base done last) (shown_before (t ∷ timed) later)
      ≡ with_emitted (Ok (what_at meaning))
      (all_split (replying base layout all [] (last_of t.time timed)) later)
  rest_sent done last t [] is some follow = last_sent done last t is follow
  rest_sent done last t (u ∷ timed) is some follow =
      let more : List ℕ = done ++ t.octet ∷ [] in
      let longer : length more ≡ length done + 1 = omega (arith, length-append {A = ℕ}) in
      let goes_on : all ≡ more ++ octets_of_timed (u ∷ timed) =
      is ∙ sym (append_assoc done (t.octet ∷ []) (octets_of_timed (u ∷ timed))) in
      let part : Means base more Part = whole.parts more (octets_of_timed (u ∷ timed)) goes_on
      (omega (arith, longer)) (omega arith) in
      ap (λ step. behind step (shown_before (u ∷ timed) later))
      (sent_on base done last t.time t.octet part.layout Part
      (omega (arith, whole.most, ap length is, length-append {A = ℕ})) follow.0 part.spoken
      part.meant)
      ∙ rest_sent more t.time u timed goes_on (omega (arith, longer)) follow.1

message_sent : (state : Splitting) (layout : Shape) (timed : List TimedOctet)
    (later : List StreamItem)
    (meaning : Meaning) → IsEnd meaning → IsSpeaking state.phase
    → IsWholeMessage state layout (octets_of_timed timed) meaning → IsSentBehind state timed
    → all_split state (shown_before timed later)
    ≡ with_emitted (Ok (pending_at_end state)) (with_emitted (Ok (what_at meaning))
    (all_split (replying state layout (octets_of_timed timed) [] (last_of state.last timed)) later))
message_sent state layout [] later meaning ends speaks whole times = absurd times
message_sent state layout (t ∷ []) later meaning ends speaks whole times =
    absurd (never_one state layout t.octet (subst IsEnd (sym whole.whole) ends))
message_sent state layout (t ∷ u ∷ timed) later meaning ends speaks whole times =
    ap (λ step. behind step (shown_before (u ∷ timed) later)) (begins state t speaks times.0)
    ∙ ap (with_emitted (Ok (pending_at_end state)))
    (rest_sent state layout (octets_of_timed (t ∷ u ∷ timed)) meaning ends whole later
    (t.octet ∷ [])
    t.time u timed refl (omega arith) times.1)

-- A reply

module _ (base : Splitting) (layout : Shape) (sent : List ℕ) where
  -- the octets behind these come as those of a reply do
  abbrev Arrive : List ℕ → ℕ → List TimedOctet → Type 0
  Arrive [] last timed = IsAnswerBehind base.rate last timed
  Arrive (octet ∷ done) last timed = Follow base.rate 3 last timed

  arrive_on : (done : List ℕ) (last : ℕ) (t : TimedOctet) (timed : List TimedOctet)
      → Arrive done last (t ∷ timed) → Arrive (done ++ t.octet ∷ []) t.time timed
  arrive_on done last t timed h = grind arith

  -- one more octet, where there is room for it
  answered_on : (done : List ℕ) (last : ℕ) (t : TimedOctet) (timed : List TimedOctet)
      → length done < 66 → Arrive done last (t ∷ timed)
      → octet_split (replying base layout sent done last) t.time t.octet
      ≡ answered_with (replying base layout sent (done ++ t.octet ∷ []) t.time)
  answered_on done last t timed room h = grind (arith, nat_tests)

  -- behind a reply that isn't whole
  answered_part : (done : List ℕ) (last : ℕ) (later : List StreamItem)
      → length done < reply_length layout sent
      → behind (answered_with (replying base layout sent done last)) later
      ≡ all_split (replying base layout sent done last) later
  answered_part done last later h = grind (arith, nat_tests)

  -- the rest of it
  rest_answered : (all done : List ℕ) (last : ℕ) (timed : List TimedOctet) (later : List StreamItem)
      → all ≡ done ++ octets_of_timed timed → length all ≤ reply_length layout sent
      → reply_length layout sent ≤ 66 → Arrive done last timed
      → behind (answered_with (replying base layout sent done last)) (shown_before timed later)
      ≡ behind (answered_with (replying base layout sent all (last_of last timed))) later
  rest_answered all done last [] later is most room arrive =
      ap (λ octets. behind (answered_with (replying base layout sent octets last)) later)
      (sym (is ∙ append-nil done))
  rest_answered all done last (t ∷ timed) later is most room arrive =
      let more : List ℕ = done ++ t.octet ∷ [] in
      let shorter : length done < length all =
      omega (arith, ap length is, length-append {A = ℕ}) in
      answered_part done last (shown_before (t ∷ timed) later) (omega (arith, most, shorter))
      ∙ ap (λ step. behind step (shown_before timed later))
      (answered_on done last t timed (omega (arith, most, room, shorter)) arrive)
      ∙ rest_answered all more t.time timed later
      (is ∙ sym (append_assoc done (t.octet ∷ []) (octets_of_timed timed))) most room
      (arrive_on done last t timed arrive)

-- Exchanges

-- what a splitter will tell of an exchange that is over, and is then
abbrev emitted_of : SplitItem → List Item → Result (List SplitItem) SplitFault
emitted_of passed items = with_emitted (Ok (Some passed)) (Ok (emitted_items items))

abbrev Splits : Splitting → List Item → Type 0
Splits state items = all_split state (stream_of items)
    ≡ with_emitted (Ok (pending_at_end state)) (Ok (emitted_items items))

abbrev AllSplit : List Item → Type 0
AllSplit items = (state : Splitting) → is_unheard state.phase ≡ false
    → AreWritten state items → Splits state items

-- behind the reply to a message, as far as it came
exchange_split : (over : Splitting) (items : List Item) → is_unheard over.phase ≡ false
    → AllSplit items → AreWritten (exchanged_with over) items
    → pending_at_end over ≡ Some (exchange_of over)
    → behind (answered_with over) (stream_of items) ≡ emitted_of (exchange_of over) items
exchange_split over items free all written ends = grind (arith, all (exchanged_with over))

-- the exchange of a message, as far as it came
exchange_emitted : (state : Splitting) (layout : Shape) (w : TimedExchange) (meaning : Meaning)
    (items : List Item) → IsEnd meaning → IsWellWritten state layout w meaning → AllSplit items
    → AreWritten (line_after_exchange state layout w) items
    → all_split state (shown_before w.sent (shown_before w.answer (stream_of items)))
    ≡ with_emitted (Ok (pending_at_end state)) (with_emitted (Ok (what_at meaning))
    (emitted_of (exchange_written w) items))
exchange_emitted state layout w meaning items ends now all later =
    let sent : List ℕ = octets_of_timed w.sent in
    let last : ℕ = last_of state.last w.sent in
    let stream : List StreamItem = shown_before w.answer (stream_of items) in
    message_sent state layout w.sent stream meaning ends now.speaks now.message now.sent
    ∙ ap (λ rest. with_emitted (Ok (pending_at_end state))
    (with_emitted (Ok (what_at meaning)) rest))
    (sym (answered_part state layout sent [] last stream (omega arith))
    ∙ rest_answered state layout sent (octets_of_timed w.answer) [] last w.answer
    (stream_of items) refl
    now.reply now.most now.answer
    ∙ exchange_split (replying state layout sent (octets_of_timed w.answer) (last_of last w.answer))
    items refl all later refl)

-- Test reads

request_emitted : (state : Splitting) (time : ℕ) → is_unheard state.phase ≡ false
    → state.last ≤ time → wake_split state time
    ≡ good_step (line_after_request state time) (pending_at_end state)
request_emitted state time free h = grind (arith, nat_tests)

-- a test read is awaited, or the reply to it
abbrev IsSeeking : Phase → Type 0
IsSeeking Asleep = Unit {0}
IsSeeking Waking = Unit {0}
IsSeeking phase = ⊥

in_test : (phase : Phase) → IsSeeking (phase_in_test phase)
in_test Asleep = tt
in_test phase = tt

-- what the first octet of one tells
abbrev emitted_at_test : Splitting → Option SplitItem
emitted_at_test state = elim state.phase [ Waking ↦ None | phase ↦ pending_at_end state ]

module _ (base : Splitting) (phase : Phase) (seeks : IsSeeking phase) where
  abbrev seeking : List ℕ → List ℕ → ℕ → Splitting
  seeking sent answer last =
      record base { phase = phase; sent = sent; answer = answer; last = last }

  control_behind : (sent answer : List ℕ) (last time : ℕ)
      → IsBehindPause (seeking sent answer last) time
      → octet_split (seeking sent answer last) time 0xA2
      ≡ good_step (seeking (0xA2 ∷ []) [] time) None
  control_behind sent answer last time pause = grind (arith, nat_tests)

  control_first : (answer : List ℕ) (last time : ℕ) → last ≤ time
      → octet_split (seeking [] answer last) time 0xA2
      ≡ good_step (seeking (0xA2 ∷ []) [] time) None
  control_first answer last time before = grind (arith, nat_tests)

  check_heard : (control check : ℕ) → IsBehind base.rate 0 1 control check
      → octet_split (seeking (0xA2 ∷ []) [] control) check 0
      ≡ good_step (seeking test_read [] check) None
  check_heard control check h = grind (arith, nat_tests)

  value_heard : (check : ℕ) (t : TimedOctet) → IsBehind base.rate 1 10 check t.time
      → octet_split (seeking test_read [] check) t.time t.octet
      ≡ good_step (seeking test_read (t.octet ∷ []) t.time) None
  value_heard check t h = grind (arith, nat_tests)

  status_heard : (value : ℕ) (last : ℕ) (t : TimedOctet) → IsBehind base.rate 0 3 last t.time
      → is_test_reply value t.octet ≡ true
      → octet_split (seeking test_read (value ∷ []) last) t.time t.octet
      ≡ good_step (line_in_startup (record base { last = t.time })) (Some (passed.Wake Answered))
  status_heard value last t h good = grind (arith, nat_tests)

  -- which is no good reply
  status_bad : (value : ℕ) (last : ℕ) (t : TimedOctet) → IsBehind base.rate 0 3 last t.time
      → is_test_reply value t.octet ≡ false
      → octet_split (seeking test_read (value ∷ []) last) t.time t.octet
      ≡ good_step (seeking (sent_behind (value ∷ t.octet ∷ [])) [] t.time) None
  status_bad value last t h bad = grind (arith, nat_tests)

  control_heard : (sent answer : List ℕ) (last time : ℕ)
      → IsBehindPause (seeking sent answer last) time ⊎ ((last ≤ time) × (sent ≡ []))
      → octet_split (seeking sent answer last) time 0xA2
      ≡ good_step (seeking (0xA2 ∷ []) [] time) None
  control_heard sent answer last time (inl pause) = control_behind sent answer last time pause
  control_heard sent answer last time (inr (before, none)) =
      subst (λ (sent : List ℕ). octet_split (seeking sent answer last) time 0xA2
      ≡ good_step (seeking (0xA2 ∷ []) [] time) None) (sym none)
      (control_first answer last time before)

  -- a whole test read, where one is awaited
  test_heard : (sent answer : List ℕ) (last control check : ℕ) (later : List StreamItem)
      → IsBehindPause (seeking sent answer last) control ⊎ ((last ≤ control) × (sent ≡ []))
      → IsBehind base.rate 0 1 control check
      → all_split (seeking sent answer last)
      (Octet (record { time = control; octet = 0xA2 }) ∷ Octet (record { time = check; octet = 0 })
      ∷ later) ≡ all_split (seeking test_read [] check) later
  test_heard sent answer last control check later asked h =
      ap (λ step. behind step (Octet (record { time = check; octet = 0 }) ∷ later))
      (control_heard sent answer last control asked)
      ∙ ap (λ step. behind step later) (check_heard control check h)

  -- its good reply
  read_answered : (t : TimedTestRead) (items : List Item) → IsTested base.rate t
      → Splits (line_after_test base t) items
      → all_split (seeking test_read [] t.check) (Octet t.value ∷ Octet t.status ∷ stream_of items)
      ≡ emitted_of (passed.Wake Answered) items
  read_answered t items h later =
      ap (λ step. behind step (Octet t.status ∷ stream_of items))
      (value_heard t.check t.value h.value)
      ∙ ap (λ step. behind step (stream_of items))
      (status_heard t.value.octet t.value.time t.status h.status h.reply)
      ∙ ap (with_emitted (Ok (Some (passed.Wake Answered)))) later

  -- what is none
  read_unanswered : (check : ℕ) (answer : List TimedOctet) (later : List StreamItem)
      → IsAnswerBehind base.rate check answer → IsNoTestReply (octets_of_timed answer)
      → all_split (seeking test_read [] check) (shown_before answer later)
      ≡ all_split (seeking (sent_behind (octets_of_timed answer))
      (answer_behind (octets_of_timed answer)) (last_of check answer)) later
  read_unanswered check [] later h bad = refl
  read_unanswered check (t ∷ []) later h bad =
      ap (λ step. behind step later) (value_heard check t h.0)
  read_unanswered check (t ∷ u ∷ []) later h bad =
      ap (λ step. behind step (Octet u ∷ later)) (value_heard check t h.0)
      ∙ ap (λ step. behind step later) (status_bad t.octet t.time u h.1.0 bad)
  read_unanswered check (t ∷ u ∷ v ∷ answer) later h bad = absurd bad

-- a whole test read, by what is awaited
asks_in : (phase : Phase) (base : Splitting) (control check : ℕ) (later : List StreamItem)
    → TestMayBegin phase (record base { phase = phase }) control
    → IsBehind base.rate 0 1 control check
    → all_split (record base { phase = phase })
    (Octet (record { time = control; octet = 0xA2 }) ∷ Octet (record { time = check; octet = 0 })
    ∷ later)
    ≡ with_emitted (Ok (emitted_at_test (record base { phase = phase })))
    (all_split (line_awaiting_answer (record base { phase = phase }) check) later)
asks_in Asleep base control check later asked h =
    test_heard base Asleep tt base.sent base.answer base.last control check later asked h
asks_in Waking base control check later asked h =
    test_heard base Waking tt base.sent base.answer base.last control check later asked h
asks_in phase base control check later asked h =
    let state : Splitting = record base { phase = phase } in
    let spoken = asked.2 in
    ap (λ step. behind step (Octet (record { time = check; octet = 0 }) ∷ later))
    (begins state (record { time = control; octet = 0xA2 }) asked.0 asked.1)
    ∙ ap (with_emitted (Ok (pending_at_end state)))
    (ap (λ step. behind step later)
    (sent_on state (0xA2 ∷ []) control check 0 spoken.layout TestRead (omega arith) h
    spoken.spoken spoken.meant))

asks : (state : Splitting) (control check : ℕ) (later : List StreamItem)
    → TestMayBegin state.phase state control → IsBehind state.rate 0 1 control check
    → all_split state
    (Octet (record { time = control; octet = 0xA2 }) ∷ Octet (record { time = check; octet = 0 })
    ∷ later)
    ≡ with_emitted (Ok (emitted_at_test state)) (all_split (line_awaiting_answer state check) later)
asks state = asks_in state.phase state

-- behind a test read the next one tells nothing
none_emitted : (phase : Phase) (base : Splitting)
    → emitted_at_test (record base { phase = phase_in_test phase }) ≡ None
none_emitted Asleep base = refl
none_emitted phase base = refl

-- one without a good reply
try_split : (state : Splitting) (t : TimedTry) (later : List StreamItem)
    → TestMayBegin state.phase state t.control → IsVainTest state.rate t
    → all_split state (try_before t later)
    ≡ with_emitted (Ok (emitted_at_test state)) (all_split (line_after_try state t) later)
try_split state t later asked h =
    asks state t.control t.check (shown_before t.answer later) asked h.check
    ∙ ap (with_emitted (Ok (emitted_at_test state)))
    (read_unanswered state (phase_in_test state.phase) (in_test state.phase) t.check t.answer later
    h.answer h.bad)

tries_split : (tries : List TimedTry) (state : Splitting) (later : List StreamItem)
    → emitted_at_test state ≡ None → AreTried state tries
    → all_split state (tries_before tries later) ≡ all_split (line_after_tries state tries) later
tries_split [] state later none h = refl
tries_split (t ∷ tries) state later none (asked, now, rest) =
    try_split state t (tries_before tries later) asked now
    ∙ ap (λ emitted. with_emitted (Ok emitted)
    (all_split (line_after_try state t) (tries_before tries later))) none
    ∙ tries_split tries (line_after_try state t) later
    (none_emitted state.phase (line_after_try state t)) rest

-- in a row of them the last is answered
row_answered : (tries : List TimedTry) (state : Splitting) (t : TimedTestRead) (items : List Item)
    → AreAnswered state tries t → Splits (line_after_test (line_after_tries state tries) t) items
    → all_split state (tries_before tries (test_before t (stream_of items)))
    ≡ with_emitted (Ok (emitted_at_test state)) (emitted_of (passed.Wake Answered) items)
row_answered [] state t items h later =
    asks state t.control t.check (Octet t.value ∷ Octet t.status ∷ stream_of items) h.begins
    h.tested.check
    ∙ ap (with_emitted (Ok (emitted_at_test state)))
    (read_answered state (phase_in_test state.phase) (in_test state.phase) t items h.tested later)
row_answered (u ∷ tries) state t items h later =
    try_split state u (tries_before tries (test_before t (stream_of items))) h.before.0 h.before.1
    ∙ ap (with_emitted (Ok (emitted_at_test state)))
    (row_answered tries (line_after_try state u) t items
    (record { before = h.before.2; begins = h.begins; tested = h.tested }) later
    ∙ ap (λ emitted. with_emitted (Ok emitted) (emitted_of (passed.Wake Answered) items))
    (none_emitted state.phase (line_after_try state u)))

-- none is
stays_waking : (tries : List TimedTry) (state : Splitting) → state.phase ≡ Waking
    → (line_after_tries state tries).phase ≡ Waking
stays_waking [] state is = is
stays_waking (t ∷ tries) state is =
    stays_waking tries (line_after_try state t) (ap phase_in_test is)

row_lapsed : (state : Splitting) (items : List Item) → AllSplit items → state.phase ≡ Waking
    → AreWritten state items
    → all_split state (stream_of items) ≡ emitted_of (passed.Wake Unanswered) items
row_lapsed state items all is written =
    all state (ap is_unheard is) written
    ∙ ap (λ phase. with_emitted (Ok (pending_at_end (record state { phase = phase })))
    (Ok (emitted_items items))) is

-- where no request waits, it tells what isn't told yet
pending_at_test : (phase : Phase) (base : Splitting) → NoneWaits phase
    → emitted_at_test (record base { phase = phase })
    ≡ pending_at_end (record base { phase = phase })
pending_at_test Waking base free = absurd free
pending_at_test phase base free = refl

speaks_free : (phase : Phase) → IsSpeaking phase → NoneWaits phase
speaks_free Waking speaks = absurd speaks
speaks_free phase speaks = tt

speaks_first : (phase : Phase) → IsSpeaking phase → phase_in_test phase ≡ Waking
speaks_first Asleep speaks = absurd speaks
speaks_first phase speaks = refl

-- All

all_are_split : (items : List Item) → AllSplit items
all_are_split [] state free written = refl
all_are_split (Passes w ∷ items) state free (layout, now, later) =
    exchange_emitted state layout w Whole items tt now (all_are_split items) later
all_are_split (Reads w ∷ items) state free (layout, now, later) =
    exchange_emitted state layout w ReadOrTest items tt now (all_are_split items) later
all_are_split (Wakes time tries t ∷ items) state free (before, now, later) =
    ap (λ step. behind step (tries_before tries (test_before t (stream_of items))))
    (request_emitted state time free before)
    ∙ ap (with_emitted (Ok (pending_at_end state)))
    (row_answered tries (line_after_request state time) t items now
    (all_are_split items _ refl later))
all_are_split (Fails time tries ∷ items) state free (before, now, later) =
    ap (λ step. behind step (tries_before tries (stream_of items)))
    (request_emitted state time free before)
    ∙ ap (with_emitted (Ok (pending_at_end state)))
    (tries_split tries (line_after_request state time) (stream_of items) refl now
    ∙ row_lapsed _ items (all_are_split items)
    (stays_waking tries (line_after_request state time) refl) later)
all_are_split (Tests tries t ∷ items) state free (pending, now, later) =
    row_answered tries state t items now (all_are_split items _ refl later)
    ∙ ap (λ emitted. with_emitted (Ok emitted) (emitted_of (passed.Wake Answered) items))
    (pending_at_test state.phase state pending)
all_are_split (Lapses t tries ∷ items) state free (speaks, now, later) =
    try_split state t (tries_before tries (stream_of items)) now.0 now.1
    ∙ ap (λ emitted. with_emitted (Ok emitted)
    (all_split (line_after_try state t) (tries_before tries (stream_of items))))
    (pending_at_test state.phase state (speaks_free state.phase speaks))
    ∙ ap (with_emitted (Ok (pending_at_end state)))
    (tries_split tries (line_after_try state t) (stream_of items)
    (none_emitted state.phase (line_after_try state t)) now.2
    ∙ row_lapsed _ items (all_are_split items)
    (stays_waking tries (line_after_try state t) (speaks_first state.phase speaks)) later)

pub written_is_split : WrittenIsSplit
written_is_split rate items written = all_are_split items (new_splitter rate) refl written
