-- The texts as functions: what is sent for a request, and what answers it.
use Rattle.std.specs.Prelude.{ℕ, ◌<◌, ◌≤◌, Bool, List, [], ◌∷◌, ◌++◌, length}
use Rattle.iol_isdu.specs.declared.values.Request.{Request}
use Rattle.iol_isdu.specs.declared.values.Answer.{Answer}
use Rattle.iol_isdu.specs.Frame.{xor_of, head}
use Rattle.iol_isdu.specs.Requests.{index_part, request_service, place_of, written_octets, shortest}
use Rattle.iol_isdu.specs.Answers.{AnswersKind, answer_service, answer_body}

-- octets and their CHKPDU
abbrev pub with_chkpdu : List ℕ → List ℕ
with_chkpdu octets = octets ++ xor_of octets ∷ []

-- a service and a body, all of their text but the CHKPDU
abbrev pub front_of : ℕ → List ℕ → List ℕ
front_of service body = head service (length body) ++ body

-- the text that is sent for a request, but its CHKPDU
unfoldable pub request_front : Request → List ℕ
request_front r =
    front_of (request_service r (shortest (place_of r)))
    (index_part (shortest (place_of r)) (place_of r) ++ written_octets r)

-- the text that is sent for a request
abbrev pub request_text : Request → List ℕ
request_text r = with_chkpdu (request_front r)

-- the text of an answer to a read (or to a write), but its CHKPDU
unfoldable pub answer_front : Bool → Answer → List ℕ
answer_front read a = front_of (answer_service read a) (answer_body a)

-- the text of an answer to a read (or to a write)
abbrev pub answer_text : Bool → Answer → List ℕ
answer_text read a = with_chkpdu (answer_front read a)

-- a request that the Rust type holds: numbers and lists are unbounded here
-- ISDU-7
pub record IsRequest (r : Request) : Type 0 where
  pub index : (place_of r).index < 65536
  pub fits : length (written_octets r) ≤ 232

-- an answer that the Rust type holds, and that fits a read (or a write)
-- ISDU-7
pub record FitsAnswer (read : Bool) (a : Answer) : Type 0 where
  pub kind : AnswersKind read a
  pub fits : length (answer_body a) ≤ 232
