-- The texts of an answer (IEC 61131-9, A.5.1 to A.5.6).
use Rattle.std.specs.Prelude.{◌≡◌, ℕ, ◌/◌, ◌≤◌, Bool, true, false, ◌==◌, ◌&&◌, ◌||◌, if◌then◌else◌, List, [], ◌∷◌, ◌++◌, length, Option, Some, None, slice_index}
use Rattle.iol_isdu.specs.declared.fault.IsduFault.{IsduFault}
use Rattle.iol_isdu.specs.declared.fault.IsduFault.TheVariants.{WrongAnswerKind}
use Rattle.iol_isdu.specs.declared.values.Request.{Request}
use Rattle.iol_isdu.specs.declared.values.Request.TheVariants as request
use Rattle.iol_isdu.specs.declared.values.Answer.{Answer}
use Rattle.iol_isdu.specs.declared.values.Answer.TheVariants as answer
use Rattle.iol_isdu.specs.Frame.{IsFrame, isdu_fault, first_of}
use Rattle.iol_isdu.specs.Requests.{within}

-- whether a request is a read
abbrev pub is_read : Request → Bool
is_read (request.Read place) = true
is_read (request.Write place octets) = false

-- the answer fits a read (or a write): Read only a read, Written only a write, Refused both
abbrev pub AnswersKind : Bool → Answer → Type 0
AnswersKind read (answer.Read octets) = read ≡ true
AnswersKind read answer.Written = read ≡ false
AnswersKind read (answer.Refused error additional) = Unit {0}

-- the service of an answer to a read (or to a write)
-- ISDU-4
abbrev pub answer_service : Bool → Answer → ℕ
answer_service read (answer.Read octets) = 13
answer_service read answer.Written = 5
answer_service read (answer.Refused error additional) = if read then 12 else 4

-- what stands between the total length and the CHKPDU
abbrev pub answer_body : Answer → List ℕ
answer_body (answer.Read octets) = octets.items
answer_body answer.Written = []
answer_body (answer.Refused error additional) = error ∷ additional ∷ []

-- the octets of the parameter in it
abbrev pub answer_data : Answer → List ℕ
answer_data (answer.Read octets) = octets.items
answer_data answer.Written = []
answer_data (answer.Refused error additional) = []

-- the service and the body of an answer to a read (or to a write)
pub record IsAnswerBody (read : Bool) (a : Answer) (service : ℕ) (body : List ℕ) : Type 0 where
  pub kind : AnswersKind read a
  pub fits : length (answer_body a) ≤ 232
  pub code : service ≡ answer_service read a
  pub parts : body ≡ answer_body a

-- a text of the answer to a read (or to a write)
pub record IsAnswerText (read : Bool) (a : Answer) (text : List ℕ) : Type 0 where
  pub service : ℕ
  pub body : List ℕ
  pub means : IsAnswerBody read a service body
  pub frame : IsFrame service body text

-- the octets begin with a text of the answer to a read (or to a write)
pub record BeginsWithAnswer (read : Bool) (octets : List ℕ) (a : Answer) : Type 0 where
  pub text : List ℕ
  pub rest : List ℕ
  pub spells : IsAnswerText read a text
  pub whole : octets ≡ text ++ rest

-- the table of the answers' services and their total lengths; 16 is never one
-- ISDU-4
abbrev pub answer_accepts : ℕ → ℕ → Bool
answer_accepts service total =
    (service == 4 && total == 4) || (service == 5 && total == 2) || (service == 12 && total == 4)
    || (service == 13 && within 2 235 total)

-- whether a service answers a read
abbrev pub answers_read : ℕ → Bool
answers_read service = service == 12 || service == 13

-- an answer to a read where a write was sent, or the other way round
-- ISDU-8
abbrev pub kind_fault : Bool → Bool → Option IsduFault
kind_fault true true = None
kind_fault false false = None
kind_fault true false = Some WrongAnswerKind
kind_fault false true = Some WrongAnswerKind

-- the first refusal of an answer to a read (or to a write): as a text, then by its kind
-- ISDU-9
abbrev pub answer_fault : Bool → List ℕ → Option IsduFault
answer_fault read octets =
    first_of (isdu_fault answer_accepts octets)
    (kind_fault read (answers_read (slice_index octets 0 / 16)))
