-- Which ISDU states of a device are as known of its transfer.
use Rattle.std.specs.Prelude.{◌≡◌, ◌⊎◌, ◌<◌, ℕ, zero, ◌*◌, Bool, List, length, Option, Some, None, IsTrue}
use Rattle.iol_octets.specs.SegmentNumber.{segment_number}
use Rattle.iol_isdu.specs.Answers.{is_read}
use Rattle.iol_far.specs.declared.kind.HandsOver.{HandsOver}
use Rattle.iol_far.specs.declared.kind.HandsOver.TheVariants.{FirstRead, LastSegment}
use Rattle.iol_far.specs.Far.{Far, layout_of}
use Rattle.iol_far.specs.Isdu.{IsduState, Empty, Receiving, Whole, Handed, Answered, answer_text_to, fits}
use Rattle.iol_judge.specs.declared.answer.TheConstants.{MOST_OBSERVED}
use Rattle.iol_judge.specs.declared.partial.PartialAnswer.{PartialAnswer}
use Rattle.iol_judge.specs.declared.transfer.Transfer.{Transfer}
use Rattle.iol_judge.specs.declared.transfer.Transfer.TheVariants as known
use Rattle.iol_judge.specs.Octets.{Agrees}

-- Each octet that is known is the text's. It has a segment where one is known to begin, and of its
-- segments, of this size, this one was sent last
pub record AreObserved (size : ℕ) (partial : PartialAnswer) (text : List ℕ) (sent : ℕ) : Type 0
  where
    pub octets : Agrees partial.octets text
    pub places : length partial.octets ≡ MOST_OBSERVED
    pub begun : partial.begun < length text
    pub within : sent * size < length text
    pub at : partial.at ≡ sent * size
    pub count : partial.count ≡ segment_number sent

-- a device that hands over at the last segment keeps the COUNT of that
abbrev pub IsCounted : HandsOver → Option ℕ → Option ℕ → Type 0
IsCounted FirstRead counted last = Unit {0}
IsCounted LastSegment counted last = counted ≡ last

-- the application has such a request, or has answered it
abbrev pub IsHanded : HandsOver → Option ℕ → Bool → Option ℕ → IsduState → Type 0
IsHanded hands_over counted read last (Handed request) =
    (is_read request ≡ read) × IsCounted hands_over counted last
IsHanded hands_over counted read last (Answered request answer None) =
    (is_read request ≡ read) × IsTrue (fits request answer) × IsCounted hands_over counted last
IsHanded hands_over counted read last state = ⊥

-- such a request is whole; handed over by now, where that is done with its last segment
abbrev pub IsWhole : HandsOver → Option ℕ → Bool → Option ℕ → IsduState → Type 0
IsWhole LastSegment counted read last state = IsHanded LastSegment counted read last state
IsWhole FirstRead counted read last (Whole request count) =
    (is_read request ≡ read) × (count ≡ last)
IsWhole FirstRead counted read last state = ⊥

-- the application has it, or has answered it, or the answer's first segment was sent
abbrev pub IsAnswerAsked : HandsOver → Option ℕ → Bool → Option ℕ → IsduState → Type 0
IsAnswerAsked hands_over counted read last (Answered request answer (Some zero)) =
    (is_read request ≡ read) × IsTrue (fits request answer)
IsAnswerAsked hands_over counted read last state = IsHanded hands_over counted read last state

-- segments of an answer were sent
abbrev pub IsAnswered : ℕ → PartialAnswer → IsduState → Type 0
IsAnswered size partial (Answered request answer (Some sent)) = (is_read request ≡ partial.read)
    × IsTrue (fits request answer) × AreObserved size partial (answer_text_to request answer) sent
IsAnswered size partial state = ⊥

-- the ISDU state, with the COUNT of the last write, is as known, by when the device hands over, and
-- with segments of this size
abbrev pub IsUnderWay : HandsOver → Option ℕ → ℕ → Transfer → IsduState → Type 0
IsUnderWay hands_over counted size known.Quiet state = state ≡ Empty
IsUnderWay hands_over counted size (known.Receiving text last) state =
    state ≡ Receiving text.items last
IsUnderWay hands_over counted size (known.Whole read last) state =
    IsWhole hands_over counted read last state
IsUnderWay hands_over counted size (known.Handed read last) state =
    IsHanded hands_over counted read last state
IsUnderWay hands_over counted size (known.Asked read last) state =
    IsAnswerAsked hands_over counted read last state
IsUnderWay hands_over counted size (known.Answered partial) state = IsAnswered size partial state
IsUnderWay hands_over counted size (known.Perhaps partial) state =
    IsAnswered size partial state ⊎ (state ≡ Empty)
IsUnderWay hands_over counted size known.Free state = Unit {0}

-- so is that of a device
abbrev pub HasUnderWay : Far → Transfer → Type 0
HasUnderWay far transfer =
    IsUnderWay far.kind.hands_over far.counted (layout_of far).od transfer far.isdu
