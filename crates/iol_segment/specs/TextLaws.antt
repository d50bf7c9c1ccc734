-- What the segments of a text say once they are joined: laws of the definitions alone.
use Rattle.std.specs.Prelude.{◌≡◌, ℕ, zero, suc, ◌*◌, ◌≤◌, ◌<◌, Bool, false, ◌==◌, List, ◌++◌, length, None, Some, Ok, slice_index}
use Rattle.iol_isdu.specs.declared.values.Request.{Request}
use Rattle.iol_isdu.specs.declared.values.Answer.{Answer}
use Rattle.iol_isdu.specs.Answers.{answer_fault}
use Rattle.iol_isdu.specs.Frame.{total_at}
use Rattle.iol_isdu.specs.Texts.{IsRequest, FitsAnswer, request_text, answer_text}
use Rattle.iol_isdu.specs.Parse.{request_of}
use Rattle.iol_segment.specs.Cut.{segment, segments}
use Rattle.iol_segment.specs.Join.{Open, Complete, stage}

-- the text has as many octets as its first octets say
abbrev pub HoldsLength : List ℕ → Type 0
HoldsLength text = total_at text ≡ Ok (length text)

-- the segments up to the i-th, one after the other
abbrev pub segments_up_to : ℕ → List ℕ → ℕ → List ℕ
segments_up_to size text zero = segment size text 0
segments_up_to size text (suc i) = segments_up_to size text i ++ segment size text (suc i)

-- another segment follows the i-th
abbrev pub IsBefore : ℕ → List ℕ → ℕ → Type 0
IsBefore size text i = suc i * size < length text

-- the i-th segment is the last
abbrev pub IsLast : ℕ → List ℕ → ℕ → Type 0
IsLast size text i = (i * size < length text) × (length text ≤ suc i * size)

-- for segments of this size
-- ISDU-11, SEG-6
pub record TextLaws (size : ℕ) : Type 0 where
  -- the segments of a text are those that begin within it
  pub within : (text : List ℕ) (i : ℕ) → i < segments size text → i * size < length text
  pub past : (text : List ℕ) (i : ℕ) → segments size text ≤ i → length text ≤ i * size
  -- a text that holds its own length isn't whole before its last segment, and is whole with it
  pub grows : (text : List ℕ) (i : ℕ) → HoldsLength text → IsBefore size text i
      → stage (segments_up_to size text i) ≡ Open
  pub ends : (text : List ℕ) (i : ℕ) → HoldsLength text → IsLast size text i
      → stage (segments_up_to size text i) ≡ Complete text
  -- so a request's, which is then found to be its
  pub requests : (r : Request) → IsRequest r → HoldsLength (request_text r)
  pub request_grows : (r : Request) (i : ℕ) → IsRequest r → IsBefore size (request_text r) i
      → stage (segments_up_to size (request_text r) i) ≡ Open
  pub request_ends : (r : Request) (i : ℕ) → IsRequest r → IsLast size (request_text r) i
      → stage (segments_up_to size (request_text r) i) ≡ Complete (request_text r)
  pub finds : (r : Request) (more : List ℕ) → IsRequest r
      → request_of (request_text r ++ more) ≡ Some r
  -- and an answer's, to a read or to a write
  pub answers : (read : Bool) (a : Answer) → FitsAnswer read a → HoldsLength (answer_text read a)
  -- which is refused by nothing
  pub accepted : (read : Bool) (a : Answer) → FitsAnswer read a
      → answer_fault read (answer_text read a) ≡ None
  -- and begins neither with 00, no service, nor with 01, busy; nor does its first segment
  pub begins : (read : Bool) (a : Answer) → FitsAnswer read a
      → 2 ≤ slice_index (answer_text read a) 0
  pub busy : (read : Bool) (a : Answer) → FitsAnswer read a
      → (slice_index (segment size (answer_text read a) 0) 0 == 1) ≡ false
  pub silent : (read : Bool) (a : Answer) → FitsAnswer read a
      → (slice_index (segment size (answer_text read a) 0) 0 == 0) ≡ false
