-- How far a session has come, as the level of both ends of the link sees it: laws
-- of the definitions.
use Rattle.std.specs.Prelude.{◌≡◌, ℕ, zero, suc, ◌+◌, ◌*◌, ◌<◌, Bool, true, false, ◌&&◌, List, ◌++◌, length, Option, Some, None, IsTrue}
use Rattle.iol_octets.specs.SegmentNumber.{segment_number}
use Rattle.iol_mseq.specs.Shape.{Shape}
use Rattle.iol_isdu.specs.Answers.{BeginsWithAnswer, is_read}
use Rattle.iol_isdu.specs.declared.values.Request.{Request}
use Rattle.iol_isdu.specs.declared.values.Answer.{Answer}
use Rattle.iol_segment.specs.Cut.{Cutting}
use Rattle.iol_segment.specs.Join.{Joining, join_step}
use Rattle.iol_segment.specs.TextLaws.{segments_up_to}
use Rattle.iol_far.specs.Codec.{flow_of}
use Rattle.iol_far.specs.Isdu.{answer_text_to, fits}
use Rattle.iol_octets.specs.declared.flow_control.Flow.TheVariants.{Count}
use Rattle.iol_far.specs.Level.{Progress, Quiet, NoneHeld, Perhaps, Written, Busy, Received, Unsure, Move, Begin, More, Ask, Next, Leave, Other, IsMove}
use Rattle.iol_app.specs.declared.request.Current.{Current}
use Rattle.iol_app.specs.declared.request.RequestProgress.{RequestProgress}
use Rattle.iol_app.specs.declared.request.RequestProgress.TheVariants.{Sending, Doubting, Asking, Receiving, Refused}
use Rattle.iol_app.specs.declared.session.Purpose.{Purpose}
use Rattle.iol_app.specs.declared.session.Purpose.TheVariants.{Abort, ConfirmEvents, Request as NextMessage, Idle}
use Rattle.iol_app.specs.Requests.{ReplyEffect, GoesOn, HasText, forgotten_by, effect_of_reply, IsCurrent}
use Rattle.iol_app.specs.State.{SessionState, IsSession}
use Rattle.iol_mode.specs.declared.configuration.Devices.{Devices}
use Rattle.iol_mode.specs.declared.configuration.Devices.TheVariants.{Own, Any}
use Rattle.iol_app.specs.Messages.{Head, head_for, data_for}

-- of a request no segment had a good reply: a port for any device begins one only where the device
-- holds nothing
abbrev pub progress_at_begin : Devices → Progress
progress_at_begin Own = Quiet
progress_at_begin Any = NoneHeld

-- none is under way
abbrev pub progress_at_rest : Devices → Bool → Progress
progress_at_rest Any true = NoneHeld
progress_at_rest devices idle = Quiet

-- so many segments of the request had a good reply
abbrev pub progress_at_segment : Devices → Request → ℕ → Progress
progress_at_segment devices request zero = progress_at_begin devices
progress_at_segment devices request (suc i) = Written request i

-- all that were given but the last
abbrev pub before_last : Devices → Request → ℕ → Progress
before_last devices request zero = progress_at_begin devices
before_last devices request (suc issued) = progress_at_segment devices request issued

-- so many busy replies came since the last segment
abbrev pub asked_for : Devices → Cutting Request → ℕ → Progress
asked_for devices cutter zero = progress_at_segment devices cutter.source cutter.issued
asked_for devices cutter (suc busy) = Busy cutter.source

abbrev pub progress_at : Devices → Cutting Request → RequestProgress → Progress
progress_at devices cutter (Sending flow segment) =
    before_last devices cutter.source cutter.issued
progress_at devices cutter Doubting = Perhaps cutter.source
progress_at devices cutter (Asking busy) = asked_for devices cutter busy
progress_at devices cutter (Receiving joining last) = Received cutter.source last joining.text
progress_at devices cutter Refused = Unsure cutter.source

-- how far the request under way has come; or none is, and the device surely holds nothing
abbrev pub progress_of : Devices → Bool → Option Current → Progress
progress_of devices idle None = progress_at_rest devices idle
progress_of devices idle (Some current) = progress_at devices current.cutter current.progress

-- the segment that was given last, so many having been given
abbrev pub segment_move : Request → ℕ → Move
segment_move request zero = Leave
segment_move request (suc zero) = Begin request
segment_move request (suc (suc i)) = More

abbrev pub move_at : Cutting Request → RequestProgress → Move
move_at cutter (Sending flow segment) = segment_move cutter.source cutter.issued
move_at cutter Doubting = Ask
move_at cutter (Asking busy) = Ask
move_at cutter (Receiving joining last) = Next
move_at cutter Refused = Leave

abbrev pub request_move : Option Current → Move
request_move None = Leave
request_move (Some current) = move_at current.cutter current.progress

-- what a message for this does
abbrev pub move_for : Purpose → Option Current → Move
move_for Abort current = Leave
move_for NextMessage current = request_move current
move_for Idle current = Leave
move_for any current = Other

-- the message of this head and data is that move
abbrev pub IsMoveOf : ℕ → Purpose → Devices → Bool → Option Current → Head → List ℕ → Type 0
IsMoveOf size exchange devices idle current head od =
    IsMove size (move_for exchange current) (progress_of devices idle current) head.channel
    head.read (flow_of head.address) od

-- each new message is the move that the request's progress asks for
abbrev pub MessagesAreMoves : Type 0
MessagesAreMoves =
    (s : SessionState) (layout : Shape) (exchange : Purpose) → IsSession s → s.layout ≡ Some layout
    → IsMoveOf layout.od exchange s.configuration.devices s.idle s.current
    (head_for exchange s.events.reading s.current) (data_for exchange layout.od s.current)

-- whether a message for this confirms events
abbrev pub confirms_events : Purpose → Bool
confirms_events ConfirmEvents = true
confirms_events any = false

-- the number of the answer's segment that comes next; those before it were had
abbrev pub next_segment : RequestProgress → ℕ
next_segment (Receiving joining last) = suc last
next_segment any = 0

-- the octets of the answer that are had with these
abbrev pub octets_received : RequestProgress → List ℕ → List ℕ
octets_received (Receiving joining last) od = joining.text ++ od
octets_received any od = od

-- a segment of the answer is asked for
abbrev pub IsReading : RequestProgress → Type 0
IsReading Doubting = Unit {0}
IsReading (Asking busy) = Unit {0}
IsReading (Receiving joining last) = Unit {0}
IsReading any = ⊥

-- the request goes on with these octets of its answer, up to that segment, or has this answer
abbrev pub TakesUpSegment : Current → Answer → ℕ → List ℕ → ReplyEffect → Type 0
TakesUpSegment current answer i octets (GoesOn next) = (joining : Joining)
    × (next ≡ record current { progress = Receiving joining i; repeat = false })
    × (joining.text ≡ octets)
TakesUpSegment current answer i octets (HasText text) =
    BeginsWithAnswer (is_read current.cutter.source) text answer
    × BeginsWithAnswer (is_read current.cutter.source) octets answer

-- the text is whole with these octets, but a device that has forgotten the answer sends them too
abbrev pub is_forgotten : RequestProgress → Bool → List ℕ → Bool
is_forgotten (Receiving joining last) repeat od =
    repeat && forgotten_by (join_step joining (Count (segment_number (last + 1))) od).took od
is_forgotten cursor repeat od = false

-- no segment of an answer that fits the request is refused but one that may be none: it is taken
-- up, and the answer at its last one is that answer
abbrev pub AnswersAreTakenUp : Type 0
AnswersAreTakenUp =
    (current : Current) (limit : ℕ) (od : List ℕ) (answer : Answer) → IsCurrent current
    → is_forgotten current.progress current.repeat od ≡ false → IsReading current.progress
    → IsTrue (fits current.cutter.source answer)
    → octets_received current.progress od
    ≡ segments_up_to current.cutter.size (answer_text_to current.cutter.source answer)
    (next_segment current.progress)
    → next_segment current.progress * current.cutter.size
    < length (answer_text_to current.cutter.source answer)
    → TakesUpSegment current answer (next_segment current.progress)
    (octets_received current.progress od)
    (effect_of_reply limit od current)
