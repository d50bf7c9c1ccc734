-- What is known of an answer, once a segment was sent.
use Rattle.std.specs.Bool.{beq}
use Rattle.std.specs.Prelude.{ℕ, ◌+◌, ◌-◌, ◌*◌, max, Bool, not, ◌&&◌, ◌==◌, nat_eq, nat_lt, if◌then◌else◌, List, [], ◌∷◌, length, take, drop, replicate, slice_index, Option, Some, None, Result, Err}
use Rattle.std.specs.Cmp.Lexicographic.{pointwise}
use Rattle.std.specs.List.{list_all, list_any, range_with_len}
use Rattle.std.specs.Option.{option_eq}
use Rattle.iol_octets.specs.Zeros.{are_zeros}
use Rattle.iol_octets.specs.SegmentNumber.{segment_number}
use Rattle.iol_isdu.specs.Answers.{answer_accepts, answers_read}
use Rattle.iol_isdu.specs.Frame.{total_at, xor_of}
use Rattle.iol_isdu.specs.declared.fault.IsduFault.{IsduFault}
use Rattle.iol_isdu.specs.declared.fault.IsduFault.TheVariants.{BadIsduLength}
use Rattle.iol_judge.specs.declared.answer.Look.{Look}
use Rattle.iol_judge.specs.declared.answer.Look.TheVariants.{Head, Sum, Padding}
use Rattle.iol_judge.specs.declared.answer.TheConstants.{LONGEST_ANSWER, MOST_OBSERVED, SHORTEST_LONG}
use Rattle.iol_judge.specs.declared.partial.PartialAnswer.{PartialAnswer}
use Rattle.iol_judge.specs.declared.reason.Reason.{Reason}
use Rattle.iol_judge.specs.declared.reason.Reason.TheVariants.{BusyAgain, AnswerKind, AnswerLength, AnswerSum, AnswerPadding, SegmentChanged}
use Rattle.iol_judge.specs.Octets.{are_as_known, is_other, may_be_even, with_octets}

unfoldable pub no_known_octets : List (Option ℕ)
no_known_octets = replicate MOST_OBSERVED None

-- the first segment was sent, and not had
abbrev pub unread_answer : Bool → PartialAnswer
unread_answer read = record { read = read; octets = no_known_octets; begun = 0; at = 0; count = 0 }

abbrev pub same_partial : PartialAnswer → PartialAnswer → Bool
same_partial a b = beq a.read b.read && pointwise (option_eq nat_eq) a.octets b.octets
    && a.begun == b.begun && a.at == b.at && a.count == b.count

-- the segment sent last, behind the first, has this COUNT
abbrev pub was_sent : PartialAnswer → ℕ → Bool
was_sent partial count = nat_lt 0 partial.at && count == partial.count

-- the segment behind it has
abbrev pub is_next_count : PartialAnswer → ℕ → Bool
is_next_count partial count = count == segment_number (partial.count + 1)

-- busy: 01 and zeros
abbrev pub is_busy : List ℕ → Bool
is_busy od = slice_index od 0 == 1 && are_zeros (drop 1 od)

-- The text of an answer to a read, or to a write

-- such a request is answered by a text of this service and total length
abbrev pub is_answered_by : Bool → ℕ → ℕ → Bool
is_answered_by read service total =
    answer_accepts service total && not (total == 16) && beq read (answers_read service)

-- what stands before its body
abbrev pub answer_head : ℕ → ℕ → List ℕ
answer_head service total = if nat_lt total SHORTEST_LONG then (16 * service + total) ∷ [] else
    (16 * service + 1) ∷ total ∷ []

-- octets may be those of such a text: its head, and the XOR of all
abbrev pub head_fits : ℕ → ℕ → List (Option ℕ) → Bool
head_fits service total octets = are_as_known octets (answer_head service total)

abbrev pub sum_fits : ℕ → ℕ → List (Option ℕ) → Bool
sum_fits service total octets = head_fits service total octets
    && may_be_even (xor_of (answer_head service total))
    (drop (length (answer_head service total)) (take total octets))

-- in the parts that are looked at
abbrev pub looks_right : Look → ℕ → ℕ → List (Option ℕ) → Bool
looks_right Head service total octets = head_fits service total octets
looks_right Sum service total octets = sum_fits service total octets
looks_right Padding service total octets = sum_fits service total octets
    && list_all (λ octet. not (is_other octet 0)) (drop total octets)

abbrev pub is_such_answer : Look → Bool → List (Option ℕ) → ℕ → ℕ → Bool
is_such_answer look read octets total service =
    is_answered_by read service total && looks_right look service total octets

-- those of some answer of this total length to such a request
abbrev pub is_some_answer : Look → Bool → List (Option ℕ) → ℕ → Bool
is_some_answer look read octets total =
    list_any (is_such_answer look read octets total) (4 ∷ 5 ∷ 12 ∷ 13 ∷ [])

-- of one that is longer than so many octets, and at most so long
unfoldable pub has_answer : Look → Bool → List (Option ℕ) → ℕ → ℕ → Bool
has_answer look read octets above most =
    list_any (is_some_answer look read octets) (range_with_len (above + 1) (most - above))

-- the first two octets, as far as they are known
abbrev pub known_head : List (Option ℕ) → List ℕ
known_head (Some first ∷ Some second ∷ octets) = first ∷ second ∷ []
known_head (Some first ∷ octets) = first ∷ []
known_head octets = []

-- no text has this total length, or no such answer
abbrev pub head_reason : Result ℕ IsduFault → Reason
head_reason (Err BadIsduLength) = AnswerLength
head_reason found = AnswerKind

-- why no answer of more octets than so many has these
abbrev pub text_fault : Bool → ℕ → List (Option ℕ) → Option Reason
text_fault read begun octets =
    if has_answer Padding read octets begun LONGEST_ANSWER then None else
    if has_answer Sum read octets begun LONGEST_ANSWER then Some AnswerPadding else
    if has_answer Head read octets begun LONGEST_ANSWER then Some AnswerSum else
    Some (head_reason (total_at (known_head octets)))

-- once the segment sent last had these octets
abbrev pub partial_with : PartialAnswer → List ℕ → PartialAnswer
partial_with partial od = record partial { octets = with_octets partial.octets partial.at od }

-- why it can't have these: busy again, others than before, or those of no answer
abbrev pub segment_fault : PartialAnswer → List ℕ → Option Reason
segment_fault partial od =
    if partial.at == 0 && is_busy od then Some BusyAgain else
    if not (are_as_known (drop partial.at partial.octets) od) then Some SegmentChanged else
    text_fault partial.read partial.begun (with_octets partial.octets partial.at od)

-- a segment at a place was sent
abbrev pub reaching : ℕ → PartialAnswer → PartialAnswer
reaching place partial = record partial { begun = max partial.begun place }
