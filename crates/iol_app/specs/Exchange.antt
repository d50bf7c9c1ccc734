-- What the fields of a session say of a message that goes out, and of the reply to it.
use Rattle.std.specs.Prelude.{◌≡◌, ℕ, ◌≤◌, Bool, true, false, ◌==◌, if◌then◌else◌, List, Option, Some, None, IsTrue, ⊤}
use Rattle.iol_mseq.specs.declared.reply.Reply.{Reply}
use Rattle.iol_isdu.specs.declared.values.Request.{Request}
use Rattle.iol_isdu.specs.declared.values.Answer.{Answer}
use Rattle.iol_isdu.specs.declared.values.Cause.{Cause}
use Rattle.iol_isdu.specs.declared.values.Cause.TheVariants.{BusyTooLong, Protocol, Cancelled}
use Rattle.iol_isdu.specs.Answers.{is_read, BeginsWithAnswer}
use Rattle.iol_segment.specs.TextLaws.{segments_up_to}
use Rattle.iol_far.specs.Isdu.{answer_text_to, fits}
use Rattle.iol_far.specs.Level.{Progress, Received as IsReceived, Move, Ask, Next}
use Rattle.iol_app.specs.Abstract.Steps.{ImageOctets}
use Rattle.iol_app.specs.Abstract.OfDevice.{Hidden, open_request}
use Rattle.iol_app.specs.BothEnds.{ReadingState, Resting, Flagged, Under, Due}

-- the output command that is due: one output is wanted and not told, or none is
-- wanted and one is told
abbrev pub output_due : Option ImageOctets → Bool → Option Bool
output_due (Some image) false = Some true
output_due None true = Some false
output_due wanted acknowledged = None

-- the image that it brings: none where the layout has no process data in, or where
-- it says that it is invalid
abbrev pub image_received : ℕ → Reply → Option ImageOctets
image_received size reply =
    if size == 0 then None else if reply.invalid then None else Some reply.input.items

abbrev pub reading_flagged : Bool → ReadingState
reading_flagged true = Flagged
reading_flagged false = Resting

-- what is under way goes on
abbrev pub reading_continued : ReadingState → Bool → ReadingState
reading_continued (Under octets) event = Under octets
reading_continued (Due first rest) event = Due first rest
reading_continued _ event = reading_flagged event

-- an output command says whether one is told
abbrev pub acknowledged_by : Option Bool → Bool → Bool
acknowledged_by None acknowledged = acknowledged
acknowledged_by (Some valid) acknowledged = valid

-- the text had is an answer's, and of no other
abbrev pub IsAnswerOf : ℕ → Progress → Answer → Type 0
IsAnswerOf size (IsReceived request i text) answer = (other : Answer) → IsTrue (fits request other)
    → text ≡ segments_up_to size (answer_text_to request other) i → other ≡ answer
IsAnswerOf size progress answer = ⊥

-- octets that begin with the text of an answer to the request are the text, or the
-- first segments of the text, of no other answer
abbrev pub TextNamesAnswer : Type 0
TextNamesAnswer =
    (size : ℕ) (request : Request) (i : ℕ) (octets : List ℕ) (answer : Answer)
    → BeginsWithAnswer (is_read request) octets answer
    → IsAnswerOf size (IsReceived request i octets) answer

-- a read of the answer: START or COUNT
abbrev pub ReadsAnswer : Move → Type 0
ReadsAnswer Ask = ⊤
ReadsAnswer Next = ⊤
ReadsAnswer what = ⊥

-- for what an abort may wait: so many busy replies, the program asked for it, or it may be in doubt
-- what the device made of the request
abbrev pub MayAbort : Bool → ℕ → ℕ → Bool → Cause → Type 0
MayAbort doubts limit busy asked BusyTooLong = limit ≤ busy
MayAbort doubts limit busy asked Cancelled = IsTrue asked
MayAbort doubts limit busy asked Protocol = IsTrue doubts
MayAbort doubts limit busy asked cause = ⊥

-- what is left over where a request is cut off so: what the device may still carry
-- out, whether it was handed it or not
abbrev pub hidden_lost : Option Request → Hidden → Hidden
hidden_lost request hidden = record { answer = None; late = open_request request hidden }
