-- What is known of an ISDU transfer.
use Rattle.std.specs.Bool.{beq}
use Rattle.std.specs.Prelude.{ℕ, ◌+◌, max, min, Bool, true, false, not, ◌&&◌, ◌==◌, nat_eq, nat_le, bytes_eq, if◌then◌else◌, List, [], ◌∷◌, ◌++◌, length, Option, Some, None, is_some, option_map, Result}
use Rattle.std.specs.Option.{option_eq}
use Rattle.std.specs.Result.{result_ok}
use Rattle.iol_octets.specs.Zeros.{are_zeros}
use Rattle.iol_octets.specs.declared.control.Channel.{Channel}
use Rattle.iol_octets.specs.declared.control.Channel.TheVariants.{Isdu}
use Rattle.iol_octets.specs.declared.flow_control.Flow.{Flow}
use Rattle.iol_octets.specs.declared.flow_control.Flow.TheVariants.{Start, Count}
use Rattle.iol_page.specs.declared.page.Layouts.{Layouts}
use Rattle.iol_isdu.specs.declared.values.Request.{Request}
use Rattle.iol_isdu.specs.Answers.{is_read}
use Rattle.iol_isdu.specs.Parse.{request_of}
use Rattle.iol_segment.specs.Join.{Stage, Open, Complete, Wrong, stage, next_count, is_last}
use Rattle.iol_far.specs.declared.kind.Kind.{Kind}
use Rattle.iol_far.specs.declared.kind.HandsOver.{HandsOver}
use Rattle.iol_far.specs.declared.kind.HandsOver.TheVariants.{FirstRead, LastSegment}
use Rattle.iol_far.specs.declared.kind.Recalls.{Recalls}
use Rattle.iol_far.specs.declared.kind.Recalls.TheVariants.{UntilLeft, UntilSent}
use Rattle.iol_far.specs.Far.{WaitingCommand}
use Rattle.iol_judge.specs.declared.partial.Further.{Further}
use Rattle.iol_judge.specs.declared.partial.Further.TheVariants.{GoesOn, MayEnd, Ends}
use Rattle.iol_judge.specs.declared.partial.PartialAnswer.{PartialAnswer}
use Rattle.iol_judge.specs.declared.open.Open.{Open as Unsaid}
use Rattle.iol_judge.specs.declared.reason.Reason.{Reason}
use Rattle.iol_judge.specs.declared.reason.Reason.TheVariants.{NoAnswerDue, NotBusy}
use Rattle.iol_judge.specs.declared.transfer.Transfer.{Transfer}
use Rattle.iol_judge.specs.declared.transfer.Transfer.TheVariants.{Quiet, Receiving, Whole, Handed, Asked, Answered, Perhaps, Free}
use Rattle.iol_judge.specs.declared.transfer.TheConstants.{LONGEST}
use Rattle.iol_judge.specs.declared.answer.Look.TheVariants.{Padding}
use Rattle.iol_judge.specs.declared.answer.TheConstants.{LONGEST_ANSWER}
use Rattle.iol_judge.specs.Answers.{partial_with, has_answer, is_busy, is_next_count, unread_answer, reaching, same_partial, segment_fault, was_sent}

-- what the first allows whatever the second does
abbrev pub covers_transfer : Transfer → Transfer → Bool
covers_transfer Free b = true
covers_transfer Quiet Quiet = true
covers_transfer (Receiving text last) (Receiving others other) =
    bytes_eq text.items others.items && option_eq nat_eq last other
covers_transfer (Whole read last) (Whole reads other) =
    beq read reads && option_eq nat_eq last other
covers_transfer (Handed read last) (Handed reads other) =
    beq read reads && option_eq nat_eq last other
covers_transfer (Asked read last) (Handed reads other) =
    beq read reads && option_eq nat_eq last other
covers_transfer (Asked read last) (Asked reads other) =
    beq read reads && option_eq nat_eq last other
covers_transfer (Asked read last) (Answered partial) = same_partial (unread_answer read) partial
covers_transfer (Answered partial) (Answered other) = same_partial partial other
covers_transfer (Perhaps partial) (Answered other) = same_partial partial other
covers_transfer (Perhaps partial) (Perhaps other) = same_partial partial other
covers_transfer (Perhaps partial) Quiet = true
covers_transfer a b = false

-- A write on the ISDU channel

abbrev pub transfer_of_request : Option Request → Option ℕ → Transfer
transfer_of_request None last = Quiet
transfer_of_request (Some request) last = Whole (is_read request) last

-- not all octets of a text came
abbrev pub transfer_receiving : List ℕ → Option ℕ → Transfer
transfer_receiving octets last =
    if nat_le (length octets) LONGEST then Receiving (record { items = octets }) last else Free

abbrev pub transfer_at_stage : Stage → List ℕ → Option ℕ → Transfer
transfer_at_stage Open octets last = transfer_receiving octets last
transfer_at_stage (Complete text) octets last = transfer_of_request (request_of text) last
transfer_at_stage Wrong octets last = Quiet

-- of a request these octets came, the last of them under this COUNT
abbrev pub transfer_of_octets : List ℕ → Option ℕ → Transfer
transfer_of_octets octets last = transfer_at_stage (stage octets) octets last

abbrev pub count_written : HandsOver → Transfer → ℕ → List ℕ → Transfer
count_written hands_over (Receiving text last) count octets =
    if is_last last count then Receiving text last else
    if count == next_count last then transfer_of_octets (text.items ++ octets) (Some count) else
    Quiet
count_written hands_over (Whole read last) count octets =
    if is_last last count then Whole read last else Quiet
count_written LastSegment (Handed read last) count octets =
    if is_last last count then Handed read last else Quiet
-- which is told apart before (`apart`)
count_written LastSegment (Asked read last) count octets =
    if is_last last count then Free else Quiet
count_written hands_over Free count octets = Free
count_written hands_over old count octets = Quiet

-- A read on the ISDU channel

-- a whole text: its device may have answered where it has handed the request over before
abbrev pub whole_read : HandsOver → Bool → Option ℕ → Transfer
whole_read FirstRead read last = Handed read last
whole_read LastSegment read last = Asked read last

-- whether an answer has a segment at a place behind one that was sent: those that have the octets
-- had are all longer, some are, or none is
abbrev pub further : PartialAnswer → ℕ → Further
further partial next =
    let has = has_answer Padding partial.read partial.octets in
    if not (has (max partial.begun next) LONGEST_ANSWER) then Ends else
    if has partial.begun (min next LONGEST_ANSWER) then MayEnd else GoesOn

-- this is known where the answer goes on, and nothing is under way where it ends
abbrev pub while_further : Further → PartialAnswer → Transfer
while_further GoesOn partial = Answered partial
while_further MayEnd partial = Perhaps partial
while_further Ends partial = Quiet

abbrev pub goes_further : ℕ → PartialAnswer → PartialAnswer → Transfer
goes_further next partial sent = while_further (further partial next) (reaching next sent)

-- A segment that was sent is sent again, so that this is known: a device that recalls its answer
-- until it was sent has it only while there is a segment behind the one sent last
abbrev pub resent : Recalls → ℕ → PartialAnswer → PartialAnswer → Transfer
resent UntilLeft size partial repeat = Answered repeat
resent UntilSent size partial repeat = goes_further (partial.at + size) partial repeat

-- of an answer of which a segment was sent
abbrev pub answered_read : Recalls → ℕ → PartialAnswer → ℕ → Transfer
answered_read recalls size partial count =
    if was_sent partial count then resent recalls size partial partial else
    if is_next_count partial count
    then goes_further (partial.at + size) partial
    (record partial { at = partial.at + size; count = count }) else
    Quiet

-- or the answer had ended before
abbrev pub or_ended : Transfer → Transfer
or_ended (Answered partial) = Perhaps partial
or_ended other = other

abbrev pub count_read : Recalls → ℕ → Transfer → ℕ → Transfer
count_read recalls size (Answered partial) count = answered_read recalls size partial count
count_read recalls size (Perhaps partial) count =
    or_ended (answered_read recalls size partial count)
-- the answer's first segment may be sent, and not had
count_read recalls size (Asked read last) count =
    or_ended (answered_read recalls size (unread_answer read) count)
count_read recalls size Free count = Free
count_read recalls size old count = Quiet

-- an answer of which a segment was sent, from the first on
abbrev pub first_resent : Recalls → ℕ → PartialAnswer → Transfer
first_resent recalls size partial =
    resent recalls size partial (record partial { at = 0; count = 0 })

abbrev pub asked_repeated : Recalls → Bool → Option ℕ → Transfer
asked_repeated UntilLeft read last = Asked read last
-- which is told apart before (`apart`)
asked_repeated UntilSent read last = Free

abbrev pub start_read : Kind → ℕ → Transfer → Transfer
start_read kind size (Whole read last) = whole_read kind.hands_over read last
start_read kind size (Handed read last) = Asked read last
start_read kind size (Asked read last) = asked_repeated kind.recalls read last
start_read kind size (Answered partial) = first_resent kind.recalls size partial
start_read kind size (Perhaps partial) = or_ended (first_resent kind.recalls size partial)
start_read kind size Free = Free
start_read kind size old = Quiet

-- A message

-- of a device of this kind, with ISDU, by the size of a segment
abbrev pub transfer_on : Kind → ℕ → Transfer → Bool → Flow → List ℕ → Transfer
transfer_on kind size old false Start octets = transfer_of_octets octets None
transfer_on kind size old false (Count count) octets =
    count_written kind.hands_over old count octets
transfer_on kind size old true Start octets = start_read kind size old
transfer_on kind size old true (Count count) octets = count_read kind.recalls size old count
transfer_on kind size old read flow octets = Quiet

abbrev pub is_quiet : Transfer → Bool
is_quiet Quiet = true
is_quiet old = false

-- of a device of which nobody knows whether it has ISDU
abbrev pub transfer_unknown : Transfer → Bool → Flow → Transfer
transfer_unknown old false Start = Free
transfer_unknown old true Start = if is_quiet old then Quiet else Free
transfer_unknown old read (Count count) = if is_quiet old then Quiet else Free
transfer_unknown old read flow = Quiet

-- once a message was worked
abbrev pub transfer_after : Kind → Option Bool → ℕ → Transfer → Channel → Bool → Flow → List ℕ
    → Transfer
transfer_after kind isdu size old channel read flow octets = elim channel [
  | Isdu ↦ elim isdu [
    | Some true ↦ transfer_on kind size old read flow octets
    | Some false ↦ Quiet
    | None ↦ transfer_unknown old read flow
  ]
  | _ ↦ old
]

-- Kinds that a message tells apart

abbrev pub is_apart_at : Transfer → Bool → Flow → Bool
is_apart_at (Whole read last) true Start = true
is_apart_at (Handed read last) false (Count count) = is_last last count
is_apart_at (Asked read last) true Start = true
is_apart_at (Asked read last) false (Count count) = is_last last count
is_apart_at (Answered partial) true Start = true
is_apart_at (Answered partial) true (Count count) = was_sent partial count
is_apart_at (Perhaps partial) true Start = true
is_apart_at (Perhaps partial) true (Count count) = was_sent partial count
is_apart_at old read flow = false

-- devices with this transfer may do different things, by their kind
abbrev pub is_apart : Transfer → Channel → Bool → Flow → Bool
is_apart old Isdu read flow = is_apart_at old read flow
is_apart old channel read flow = false

-- the transfers that it is one of: the application has the request, or an answer was sent
abbrev pub apart : Transfer → List Transfer
apart (Asked read last) = Handed read last ∷ Answered (unread_answer read) ∷ []
apart old = old ∷ []

-- whether the device has ISDU, where that is known
abbrev pub isdu_known : Result Layouts Unsaid → Option Bool
isdu_known known = option_map (λ layouts. layouts.isdu) (result_ok known)

-- in the layout in which the octets are taken: a device that changes it drops the transfer
abbrev pub transfer_in : Option WaitingCommand → List ℕ → Transfer → Transfer
transfer_in None octets old = old
transfer_in (Some command) octets old = if bytes_eq octets command.octets then old else Quiet

-- The reply to a read on the ISDU channel

-- where no transfer is under way there is no answer, and a whole request is answered by busy first
abbrev pub transfer_fault : Transfer → List ℕ → Option Reason
transfer_fault (Handed read last) od = if is_busy od then None else Some NotBusy
transfer_fault (Asked read last) od =
    if is_busy od then None else segment_fault (unread_answer read) od
transfer_fault (Answered partial) od = segment_fault partial od
transfer_fault (Perhaps partial) od = if are_zeros od then None else segment_fault partial od
transfer_fault Free od = None
-- a read leaves no text whole
transfer_fault (Whole read last) od = None
transfer_fault transfer od = if are_zeros od then None else Some NoAnswerDue

-- busy, or the answer's first segment
abbrev pub asked_updated : Bool → Option ℕ → List ℕ → Transfer
asked_updated read last od =
    if is_busy od then Handed read last else Answered (partial_with (unread_answer read) od)

-- no answer any more, or a segment; zeros may be either
abbrev pub perhaps_updated : PartialAnswer → List ℕ → Transfer
perhaps_updated partial od =
    if not (are_zeros od) then Answered (partial_with partial od) else
    if is_some (segment_fault partial od) then Quiet else Perhaps (partial_with partial od)

abbrev pub transfer_updated_by : Transfer → List ℕ → Transfer
transfer_updated_by (Asked read last) od = asked_updated read last od
transfer_updated_by (Answered partial) od = Answered (partial_with partial od)
transfer_updated_by (Perhaps partial) od = perhaps_updated partial od
transfer_updated_by old od = old

abbrev pub transfer_updated : Transfer → Bool → Channel → List ℕ → Transfer
transfer_updated old true Isdu od = transfer_updated_by old od
transfer_updated old read channel od = old
