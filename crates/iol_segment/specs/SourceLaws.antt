-- What the octets of the sources are, followed by their XOR.
use Rattle.std.specs.Prelude.{◌≡◌, List, ℕ}
use Rattle.iol_isdu.specs.declared.values.Request.{Request}
use Rattle.iol_isdu.specs.Requests.{IsShortText}
use Rattle.iol_isdu.specs.Answers.{IsAnswerText, is_read}
use Rattle.iol_isdu.specs.Texts.{with_chkpdu, IsRequest, FitsAnswer, request_text, answer_text}
use Rattle.iol_segment.specs.declared.source.Reaction.{Reaction}

-- a request's: the text that is sent for it, which is its short text
pub record IsRequestSource (octets : Request → List ℕ) : Type 0 where
  pub text : (r : Request) → with_chkpdu (octets r) ≡ request_text r
  pub short : (r : Request) → IsRequest r → IsShortText r (with_chkpdu (octets r))

-- a reaction's: the text of the answer to its request
pub record IsReactionSource (octets : Reaction → List ℕ) : Type 0 where
  pub text : (r : Reaction) → with_chkpdu (octets r) ≡ answer_text (is_read r.request) r.answer
  pub spells : (r : Reaction) → FitsAnswer (is_read r.request) r.answer
      → IsAnswerText (is_read r.request) r.answer (with_chkpdu (octets r))
