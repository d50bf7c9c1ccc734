-- Laws of the texts: each is one, and stands alone in front.
use Rattle.std.specs.Prelude.{◌≡◌, ◌↔◌, Bool, List, ℕ, ◌++◌, length, None, Some, Ok}
use Rattle.iol_isdu.specs.declared.values.Request.{Request}
use Rattle.iol_isdu.specs.declared.values.Answer.{Answer}
use Rattle.iol_isdu.specs.Frame.{total_at}
use Rattle.iol_isdu.specs.Requests.{IsRequestText, IsShortText}
use Rattle.iol_isdu.specs.Answers.{IsAnswerText, answer_fault}
use Rattle.iol_isdu.specs.Texts.{IsRequest, FitsAnswer, request_text, answer_text}
use Rattle.iol_isdu.specs.Parse.{request_of}

-- octets begin with at most one text of a request
-- ISDU-10
abbrev pub OneRequestInFront : Type 0
OneRequestInFront =
    (q r : Request) (text other rest more : List ℕ) → IsRequestText q text → IsRequestText r other
    → text ++ rest ≡ other ++ more → (text ≡ other) × (q ≡ r)

-- octets begin with at most one text of an answer to a read (or to a write)
-- ISDU-10
abbrev pub OneAnswerInFront : Type 0
OneAnswerInFront =
    (read : Bool) (a b : Answer) (text other rest more : List ℕ) → IsAnswerText read a text
    → IsAnswerText read b other
    → text ++ rest ≡ other ++ more → (text ≡ other) × (a ≡ b)

-- a request has one short text
abbrev pub OneShortText : Type 0
OneShortText = (r : Request) → IsRequest r → (text : List ℕ)
    → IsShortText r text ↔ (text ≡ request_text r)

-- an answer to a read (or to a write) has one text
abbrev pub OneAnswerText : Type 0
OneAnswerText = (read : Bool) (a : Answer) → FitsAnswer read a → (text : List ℕ)
    → IsAnswerText read a text ↔ (text ≡ answer_text read a)

-- the total length that a text begins with is its length
abbrev pub RequestHoldsLength : Type 0
RequestHoldsLength = (r : Request) → IsRequest r
    → total_at (request_text r) ≡ Ok (length (request_text r))

abbrev pub AnswerHoldsLength : Type 0
AnswerHoldsLength = (read : Bool) (a : Answer) → FitsAnswer read a
    → total_at (answer_text read a) ≡ Ok (length (answer_text read a))

-- a text, whatever octets follow it, is found to be its request's
abbrev pub EachTextIsFound : Type 0
EachTextIsFound = (r : Request) (text rest : List ℕ) → IsRequestText r text
    → request_of (text ++ rest) ≡ Some r

-- the text of an answer, read as one to a request of its kind, is refused by nothing
abbrev pub NoAnswerIsRefused : Type 0
NoAnswerIsRefused = (read : Bool) (a : Answer) → FitsAnswer read a
    → answer_fault read (answer_text read a) ≡ None
