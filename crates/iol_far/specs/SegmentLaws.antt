-- What the segments of a request make of the ISDU state, and how the segments of an
-- answer begin: laws of the definitions.
use Rattle.std.specs.Prelude.{◌≡◌, ℕ, suc, ◌*◌, ◌<◌, false, length, Option, slice_index, ◌==◌, IsTrue}
use Rattle.iol_isdu.specs.declared.values.Request.{Request}
use Rattle.iol_isdu.specs.declared.values.Answer.{Answer}
use Rattle.iol_isdu.specs.Answers.{is_read}
use Rattle.iol_isdu.specs.Texts.{IsRequest, FitsAnswer, request_text}
use Rattle.iol_segment.specs.Cut.{segment}
use Rattle.iol_segment.specs.TextLaws.{segments_up_to, IsLast}
use Rattle.iol_far.specs.Isdu.{Receiving, Whole, isdu_with_octets, answer_text_to, fits}

-- an answer that fits the request has a text of its kind
abbrev pub AnswersFit : Type 0
AnswersFit = (request : Request) (answer : Answer) → IsTrue (fits request answer)
    → FitsAnswer (is_read request) answer

-- for segments of this size
pub record SegmentLaws (size : ℕ) : Type 0 where
  -- before its last segment a request's text is received and not yet whole
  pub grows : (request : Request) (i : ℕ) (last : Option ℕ) → IsRequest request
      → suc i * size < length (request_text request) →
      isdu_with_octets (segments_up_to size (request_text request) i) last
      ≡ Receiving (segments_up_to size (request_text request) i) last
  -- with its last segment it is whole, and the request is that one
  pub ends : (request : Request) (i : ℕ) (last : Option ℕ) → IsRequest request
      → IsLast size (request_text request) i →
      isdu_with_octets (segments_up_to size (request_text request) i) last ≡ Whole request last
  pub fitting : AnswersFit
  -- no answer begins as busy does
  pub answers : (request : Request) (answer : Answer) → IsTrue (fits request answer)
      → (slice_index (segment size (answer_text_to request answer) 0) 0 == 1) ≡ false
