-- What hearing a message leaves of a request at the far end, whatever its kind.
-- For the clauses of `laws::requests_are_received` and `laws::ends_stay_level`.
use Rattle.std.proofs.Common.{◌≡◌, ◌⊎◌, inl, inr, ℕ, suc, ◌*◌, ◌%◌, ◌<◌, ◌≤◌, List, length, refl, sym, ◌∙◌, ap, length-append, arith, zero, Bool, true, false, ◌++◌, replicate, [], ◌∷◌, Result}
use Rattle.std.specs.Prelude.{Option, Some, None, IsTrue}
use Rattle.std.proofs.lemmas.Bool.Decides.{nat_tests}
use Rattle.std.proofs.lemmas.Bool.{cases_lt, cond_both}
use Rattle.std.proofs.lemmas.Grind.{common_steps}
use Rattle.iol_octets.specs.declared.flow_control.Flow.TheVariants.{Start, Count}
use Rattle.iol_isdu.specs.declared.values.Request.{Request}
use Rattle.iol_isdu.specs.declared.values.Answer.{Answer}
use Rattle.iol_isdu.specs.Texts.{IsRequest, request_text, request_front, FitsAnswer}
use Rattle.iol_segment.specs.Cut.{segment, SegmentsHaveSize}
use Rattle.iol_segment.specs.Join.{Stage, stage, Complete, stage_by}
use Rattle.iol_segment.specs.TextLaws.{segments_up_to, IsLast, TextLaws, HoldsLength}
use Rattle.iol_segment.specs.JoinLaws.{count_at}
use Rattle.iol_far.specs.declared.carried.Carried.{Carried}
use Rattle.iol_far.specs.declared.kind.HandsOver.{HandsOver}
use Rattle.iol_far.specs.declared.kind.HandsOver.TheVariants.{FirstRead, LastSegment}
use Rattle.iol_far.specs.declared.kind.Recalls.{Recalls}
use Rattle.iol_far.specs.declared.kind.Recalls.TheVariants.{UntilSent}
use Rattle.iol_far.specs.Isdu.{IsduState, Empty, Whole, Handed, Answered, isdu_with_octets, received_at, isdu_written, isdu_read, remaining_isdu, handed_over, written_by, counted_by, answer_text_to, fits, isdu_data, whole_or_empty}
use Rattle.iol_far.specs.SegmentLaws.{SegmentLaws}
use Rattle.iol_far.specs.Level.{grown_by, IsTaken, IsWritten, IsGrownOnce, Move, Begin, More, Ask, Next, Leave, Other, base_after, Progress, Perhaps, Written, Busy, Received, Stands, IsIdle, IsGrown, IsMove, may_be_none, after, RecallsAtLeast, hands_whole, under_way, is_open, MayBegin, HasIsduFor}
use Rattle.std.proofs.lemmas.List.{length-replicate, append-nil}
use Rattle.iol_octets.specs.declared.control.Channel.{Channel}
use Rattle.iol_octets.specs.declared.control.Channel.TheVariants.{Isdu}
use Rattle.iol_octets.specs.declared.flow_control.Flow.{Flow}
use Rattle.iol_isdu.specs.Answers.{is_read}
use Rattle.iol_far.specs.declared.kind.Kind.{Kind}
use Rattle.iol_far.specs.Far.{isdu_after, counted_after}
use Rattle.iol_far.proofs.Hearings.{bytes_same}
use Rattle.iol_isdu.specs.Parse.{request_of}
use Rattle.iol_isdu.specs.declared.fault.IsduFault.{IsduFault}
use Rattle.iol_isdu.specs.Frame.{total_at}
use Rattle.iol_page.specs.Page.{knows_isdu}

-- an answer that fits is one that the type holds
answer_fits : (r : Request) (a : Answer) → IsTrue (fits r a) → FitsAnswer (is_read r) a
answer_fits r a fit = grind (arith, nat_tests, common_steps)

pub segment_laws : (size : ℕ) → TextLaws size → SegmentLaws size
segment_laws size laws = record {
  grows = λ r i last h more. ap (λ z. received_at z (segments_up_to size (request_text r) i) last)
      (laws.request_grows r i h more);
  ends = λ r i last h all. ap (λ z. received_at z (segments_up_to size (request_text r) i) last)
      (laws.request_ends r i h all) ∙ ap (λ q. whole_or_empty q last)
      (ap request_of (sym (append-nil (request_text r))) ∙ laws.finds r [] h);
  fitting = answer_fits;
  answers = λ r a h. laws.busy (is_read r) a (answer_fits r a h);
}

-- Zeros in place of an answer's last segment end its text, or are none of it

-- a total length alone, and how many octets there are, say whether a text is whole
same_stage : (r : Result ℕ IsduFault) (xs ys text : List ℕ) → length xs ≡ length ys
    → stage_by r xs ≡ Complete text → is_open (stage_by r ys) ≡ false
same_stage r xs ys text long whole = grind (arith, nat_tests, common_steps)

-- octets of which some more are a whole text, with as many zeros in place of these
zeros_end : (xs ys : List ℕ) (size : ℕ) (text : List ℕ) → 1 ≤ size → length ys ≡ size
    → stage (xs ++ ys) ≡ Complete text → is_open (stage (xs ++ replicate size 0)) ≡ false
zeros_end xs ys zero text low long whole = absurd (omega (arith, low))
zeros_end [] ys (suc size) text low long whole = refl
zeros_end (x ∷ []) [] (suc size) text low long whole = absurd (omega (arith, long))
zeros_end (x ∷ []) (y ∷ ys) (suc size) text low long whole = grind (arith, nat_tests, common_steps)
zeros_end (x ∷ y ∷ xs) ys (suc size) text low long whole =
    same_stage (total_at (x ∷ y ∷ xs)) (x ∷ y ∷ xs ++ ys) (x ∷ y ∷ xs ++ replicate (suc size) 0)
    text
    (simp (length-append, length-replicate) (omega (arith, long))) whole

module _ (size : ℕ) (laws : TextLaws size) (sized : SegmentsHaveSize) where
  pub zeros_close : (text : List ℕ) (i : ℕ) → HoldsLength text → IsLast size text (suc i)
      → is_open (stage (segments_up_to size text i ++ replicate size 0)) ≡ false
  zeros_close text i holds last =
      zeros_end (segments_up_to size text i) (segment size text (suc i)) size text
      (omega (arith, last.0, last.1)) (sized size text (suc i))
      (laws.ends text (suc i) holds last)

-- What is recalled

module _ (k : Recalls) (size : ℕ) where
  recalled_at : (z : Stage) (t : List ℕ) (l : Option ℕ)
      → remaining_isdu k size (received_at z t l) ≡ received_at z t l
  recalled_at z t l = grind (arith, common_steps)

  -- an answer of which a segment was sent: it stays, or it is forgotten with its last
  recalled_sent : (r : Request) (a : Answer) (i : ℕ)
      → (remaining_isdu k size (Answered r a (Some i)) ≡ Answered r a (Some i))
      ⊎ ((remaining_isdu k size (Answered r a (Some i)) ≡ Empty) × (k ≡ UntilSent)
      × (length (answer_text_to r a) ≤ suc i * size))
  recalled_sent r a i = grind (arith, nat_tests, common_steps)

  -- the answer's next segment
  fetched : (r : Request) (a : Answer) (i : ℕ) {s : IsduState} → s ≡ Answered r a (Some i)
      → suc i * size < length (answer_text_to r a)
      → isdu_read size (remaining_isdu k size s) (Count (suc i % 16)) ≡ Answered r a (Some (suc i))
  fetched r a i holds more = rw holds (grind (arith, nat_tests, common_steps))

-- Writes

written_start : (h : HandsOver) (n : Option ℕ) (s : IsduState) (od : List ℕ)
    → written_by h n s Start od ≡ written_by h None Empty Start od
written_start h n s od = grind (arith, common_steps)

-- the same COUNT again
count_repeated : (z : Stage) (t od : List ℕ) (c : ℕ)
    → isdu_written (received_at z t (Some c)) (Count c) od ≡ received_at z t (Some c)
count_repeated z t od c = grind (arith, nat_tests, common_steps)

-- no request's text is empty
pub request_long : (size : ℕ) (r : Request) → 0 * size < length (request_text r)
request_long size r = omega (arith, length-append (request_front r))

module _ (size : ℕ) (r : Request) where
  -- a segment, and what is received up to it
  abbrev part : ℕ → List ℕ
  part i = segment size (request_text r) i

  abbrev so_far : ℕ → IsduState
  so_far i = isdu_with_octets (segments_up_to size (request_text r) i) (count_at i)

module _ (k : Recalls) (size : ℕ) (laws : SegmentLaws size) (base : List Carried) where
  -- the state once the segments up to the i-th were received
  whole_written : (r : Request) (i : ℕ) (s : IsduState) (carried : List Carried)
      → IsRequest r → i * size < length (request_text r)
      → s ≡ handed_over (so_far size r i) → carried ≡ base
      → IsWritten LastSegment size base r i s (count_at i) carried
  whole_written r i s carried fits low e same =
      elim (cases_lt (suc i * size) (length (request_text r))) [
        | inl more ↦ let begun = laws.grows r i (count_at i) fits more in
            (refl, inl (more, e ∙ ap handed_over begun ∙ sym begun, same))
        | inr all ↦ let whole : s ≡ Handed r = e ∙ ap handed_over
            (laws.ends r i (count_at i) fits (low, all)) in
            (refl, inr ((low, all), rw whole (refl, same)))
      ]

  -- the first segment, at whatever state
  pub begun : (h : HandsOver) (r : Request) (s : IsduState) (n : Option ℕ)
      (carried : List Carried) → IsRequest r → carried ≡ base
      → IsWritten h size base r 0 (written_by h n s Start (part size r 0)) (counted_by h n Start)
      carried
  begun FirstRead r s n carried fits same =
      rw (written_start FirstRead n s (part size r 0)) (refl, same)
  begun LastSegment r s n carried fits same =
      rw (written_start LastSegment n s (part size r 0))
      (whole_written r 0 _ carried fits (request_long size r) refl same)

  -- the next segment
  wrote : (r : Request) (i : ℕ) → IsRequest r → suc i * size < length (request_text r)
      → isdu_written (so_far size r i) (Count (suc i % 16)) (part size r (suc i))
      ≡ so_far size r (suc i)
  wrote r i fits more = rw (laws.grows r i (count_at i) fits more) (grind (arith, common_steps))

  recalled_still : (s : IsduState) (r : Request) (i : ℕ) → s ≡ so_far size r i
      → remaining_isdu k size s ≡ so_far size r i
  recalled_still s r i e = rw e (recalled_at k size _ (segments_up_to size (request_text r) i)
      (count_at i))

  pub appended : (h : HandsOver) (r : Request) (i : ℕ) (s : IsduState) (n : Option ℕ)
      (carried : List Carried) → IsRequest r → suc i * size < length (request_text r)
      → IsWritten h size base r i s n carried
      → IsWritten h size base r (suc i)
      (written_by h n (remaining_isdu k size s) (Count (suc i % 16)) (part size r (suc i)))
      (counted_by h n (Count (suc i % 16))) carried
  appended FirstRead r i s n carried fits more w =
      rw (recalled_still s r i w.0) (wrote r i fits more, w.1)
  appended LastSegment r i s n carried fits more (m, inl w) =
      whole_written r (suc i) _ carried fits more
      (rw (recalled_still s r i w.1, laws.grows r i (count_at i) fits more)
      (ap handed_over (rw (laws.grows r i (count_at i) fits more) at (wrote r i fits more)))) w.2
  appended LastSegment r i s n carried fits more (m, inr w) =
      absurd (omega (arith, w.0.1, more))

  -- and the same again
  pub preserved : (h : HandsOver) (r : Request) (i : ℕ) (s : IsduState) (n : Option ℕ)
      (carried : List Carried) → IsRequest r → IsWritten h size base r (suc i) s n carried
      → IsWritten h size base r (suc i)
      (written_by h n (remaining_isdu k size s) (Count (suc i % 16)) (part size r (suc i)))
      (counted_by h n (Count (suc i % 16))) carried
  preserved FirstRead r i s n carried fits w =
      rw (recalled_still s r (suc i) w.0)
      (count_repeated _ _ (part size r (suc i)) (suc i % 16), w.1)
  preserved LastSegment r i s n carried fits (m, inl w) =
      rw (recalled_still s r (suc i) w.1, laws.grows r (suc i) (count_at (suc i)) fits w.0)
      (refl, inl (w.0, grind (arith, nat_tests, common_steps), w.2))
  preserved LastSegment r i s n carried fits (m, inr w) =
      let taken = w.1 in rw m (refl, inr (w.0, grind (arith, nat_tests, common_steps)))

-- Reads

module _ (base : List Carried) where
  -- What a START read finds, right after it: the request is with the application, its answer
  -- begins, or there is nothing, of which more is known
  pub data Found (r : Request) (missed : List Carried → Type 0) (s : IsduState)
      (carried : List Carried) : Type 0 where
    busy : s ≡ Handed r → carried ≡ base → Found r missed s carried
    first : (a : Answer) → IsTrue (fits r a) → s ≡ Answered r a (Some 0)
        → carried ≡ grown_by base r a → Found r missed s carried
    none : s ≡ Empty → missed carried → Found r missed s carried

  -- and since then
  pub data Finds (r : Request) (missed : List Carried → Type 0) (s : IsduState)
      (carried : List Carried) : Type 0 where
    taken : IsTaken base r s carried → Finds r missed s carried
    begins : (a : Answer) → IsTrue (fits r a) → s ≡ Answered r a (Some 0)
        → carried ≡ grown_by base r a → Finds r missed s carried
    nothing : s ≡ Empty → missed carried → Finds r missed s carried

  pub found_finds : {r : Request} {missed later : List Carried → Type 0} {s : IsduState}
      {carried : List Carried} → (missed carried → later carried)
      → Found r missed s carried → Finds r later s carried
  found_finds so (busy e same) = taken (rw e (refl, same))
  found_finds so (first a f e g) = begins a f e g
  found_finds so (none e m) = nothing e (so m)

module _ (k : Recalls) (size : ℕ) (base : List Carried) where
  -- the segment behind the i-th was sent, or the answer is forgotten with it
  abbrev pub IsFetched : Request → ℕ → List ℕ → IsduState → List Carried → Type 0
  IsFetched r i t s carried = (a : Answer) × IsTrue (fits r a) × (carried ≡ grown_by base r a)
      × (t ≡ segments_up_to size (answer_text_to r a) i)
      × (suc i * size < length (answer_text_to r a))
      × ((s ≡ Answered r a (Some (suc i)))
      ⊎ ((s ≡ Empty) × (k ≡ UntilSent) × IsLast size (answer_text_to r a) (suc i)))

-- What stands, whatever else is so

module _ (h : HandsOver) (size : ℕ) (base : List Carried) (p : Progress) (n : Option ℕ)
    (carried : List Carried) where
  module _ (s : IsduState) (stands : Stands h size base p s n carried) where
    pub stands_grown : IsGrown base p carried
    stands_grown = grind (arith, common_steps)

    begun_base : (r : Request) (c : Channel) (read : Bool) (f : Flow) (od : List ℕ)
        → IsMove size (Begin r) p c read f od → carried ≡ base
    begun_base r c read f od move = grind (arith, common_steps)

  -- the application's answer
  pub stands_done : (q : Request) (a : Answer) → IsTrue (fits q a)
      → Stands h size base p (Handed q) n carried
      → Stands h size base p (Answered q a None) n (grown_by carried q a)
  stands_done q a fit stands = grind (arith, common_steps)

module _ (h : HandsOver) (size : ℕ) (base : List Carried) (r : Request) (s : IsduState)
    (n : Option ℕ) (carried : List Carried) where
  -- what was had, or is over
  received_is : (i : ℕ) (t : List ℕ) → Stands h size base (Received r i t) s n carried
      → (a : Answer) × (s ≡ Answered r a (Some i)) × IsTrue (fits r a)
      × (t ≡ segments_up_to size (answer_text_to r a) i) × (carried ≡ grown_by base r a)
  received_is i t stands = grind (arith, common_steps)

  -- a Begin whose text is not whole has changed no record
  still_base : hands_whole h size (Begin r) ≡ false → IsWritten h size base r 0 s n carried
      → carried ≡ base
  still_base more written = grind (arith, common_steps)

-- What moves are

module _ (size : ℕ) (p : Progress) (c : Channel) (read : Bool) (f : Flow) (od : List ℕ) where
  -- only where no request is under way one is begun
  pub begins_by : (r : Request) → IsMove size (Begin r) p c read f od
      → IsIdle p × (c ≡ Isdu) × (read ≡ false) × (f ≡ Start) × IsRequest r
      × (od ≡ segment size (request_text r) 0)
  begins_by r move = grind (arith, common_steps)

  -- a question is a START read
  asks_by : IsMove size Ask p c read f od → (c ≡ Isdu) × (read ≡ true) × (f ≡ Start)
  asks_by move = grind (arith, common_steps)

-- only a Begin hands a request over
begins_whole : (h : HandsOver) (size : ℕ) (what : Move) → hands_whole h size what ≡ true
    → (r : Request) × (what ≡ Begin r)
begins_whole h size what whole = grind (arith, common_steps)

-- What is known where a question found nothing, after so many tries
module _ (k : Recalls) (base : List Carried) where
  abbrev pub Missed : ℕ → Progress → Request → List Carried → Type 0
  Missed zero (Perhaps r) q carried = carried ≡ base
  Missed zero p q carried = ⊥
  Missed (suc tries) (Perhaps r) q carried = IsGrownOnce base q carried
  Missed (suc tries) p q carried = (k ≡ UntilSent) × IsGrownOnce base q carried

-- the request that is asked for
abbrev pub AskedFor : (Request → Type 0) → Progress → Type 0
AskedFor Holds (Perhaps r) = Holds r
AskedFor Holds (Written r i) = Holds r
AskedFor Holds (Busy r) = Holds r
AskedFor Holds p = ⊥

asked_map : (Holds Then : Request → Type 0) (p : Progress) → ((r : Request) → Holds r → Then r)
    → AskedFor Holds p → AskedFor Then p
asked_map Holds Then (Perhaps r) so h = so r h
asked_map Holds Then (Written r i) so h = so r h
asked_map Holds Then (Busy r) so h = so r h
asked_map Holds Then p so h = absurd h

-- what the device must know for a move
abbrev pub Needs : Bool → Move → Type 0
Needs known Leave = Unit {0}
Needs known Other = Unit {0}
Needs known what = known ≡ true

module _ (kind : Kind) (size : ℕ) (base : List Carried) (p : Progress) where
  abbrev MidMore : Progress → IsduState → Option ℕ → List Carried → Type 0
  MidMore (Written r i) s n carried = IsRequest r
      × IsWritten kind.hands_over size base r (suc i) s n carried
  MidMore p s n carried = ⊥

  abbrev MidNext : Progress → IsduState → List Carried → Type 0
  MidNext (Received r i t) s carried = IsFetched kind.recalls size base r i t s carried
  MidNext p s carried = ⊥

  -- what the far end holds once the message was heard, and local steps since then
  abbrev pub Mid : Move → IsduState → Option ℕ → List Carried → Type 0
  Mid (Begin r) s n carried = IsRequest r
      × IsWritten kind.hands_over size base r 0 s n carried
  Mid More s n carried = MidMore p s n carried
  Mid Ask s n carried = AskedFor (λ r. Finds base r (Missed kind.recalls base 1 p r) s carried) p
  Mid Next s n carried = MidNext p s carried
  Mid Leave s n carried = (s ≡ Empty) × IsGrown base p carried
  Mid Other s n carried = Stands kind.hands_over size base p s n carried

sent_at_least : (trust : Recalls) → RecallsAtLeast trust UntilSent → trust ≡ UntilSent
sent_at_least trust least = grind (arith, common_steps)

module _ (kind : Kind) (size : ℕ) (texts : TextLaws size) (sized : SegmentsHaveSize)
    (trust : Recalls) (trusts : RecallsAtLeast trust kind.recalls) (base : List Carried) where
  laws : SegmentLaws size
  laws = segment_laws size texts

  abbrev Stood : Progress → IsduState → Option ℕ → List Carried → Type 0
  Stood p s n carried = Stands kind.hands_over size base p s n carried

  -- what is known where that many questions found nothing before
  abbrev Lost : ℕ → Progress → Request → List Carried → Type 0
  Lost tries p r carried = Missed kind.recalls base tries p r carried

  -- the state once it was asked for an answer, and for its next segment
  abbrev asked : IsduState → IsduState
  asked s = isdu_read size (remaining_isdu kind.recalls size s) Start

  abbrev next : IsduState → ℕ → IsduState
  next s i = isdu_read size (remaining_isdu kind.recalls size s) (Count (suc i % 16))

  -- Reads

  asked_taken : {r : Request} {missed : List Carried → Type 0} (s : IsduState)
      {carried : List Carried} → IsTaken base r s carried
      → Found base r missed (asked s) carried
  asked_taken {r} (Handed q) t =
      busy (let e : q ≡ r = t.0 in grind (arith, common_steps, e)) t.1
  asked_taken {r} (Answered q a None) t =
      let e : q ≡ r = t.0 in
      first a (rw e at t.1) (grind (arith, common_steps, e)) t.2
  asked_taken s t = absurd t

  -- nothing is read of what holds nothing
  nothing_read : (f : Flow) → isdu_read size (remaining_isdu kind.recalls size Empty) f ≡ Empty
  nothing_read f = grind (arith, common_steps)

  asked_whole : (r : Request) (l : Option ℕ)
      → asked (Whole r l) ≡ Handed r
  asked_whole r l = grind (arith, common_steps)

  -- the whole text was received
  asked_written : (h : HandsOver) {r : Request} (i : ℕ) {missed : List Carried → Type 0}
      (s : IsduState) (n : Option ℕ) {carried : List Carried} → IsRequest r
      → IsLast size (request_text r) i → IsWritten h size base r i s n carried
      → Found base r missed (asked s) carried
  asked_written FirstRead {r} i s n fits last w =
      busy (rw (w.0, laws.ends r i (count_at i) fits last) (asked_whole r (count_at i))) w.1
  asked_written LastSegment i s n fits last (m, inl w) = absurd (omega (arith, last.1, w.0))
  asked_written LastSegment i s n fits last (m, inr w) = asked_taken s w.1

  -- a START read once more
  asked_twice : {r : Request} {missed later : List Carried → Type 0} {s : IsduState}
      {carried : List Carried} → (missed carried → later carried)
      → (kind.recalls ≡ UntilSent → IsGrownOnce base r carried → later carried)
      → Finds base r missed s carried → Found base r later (asked s) carried
  asked_twice {s = s} so forgets (taken t) = asked_taken s t
  asked_twice {r} so forgets (begins a f e g) = elim (recalled_sent kind.recalls size r a 0) [
    | inl same ↦ first a f (rw (e, same) refl) g
    | inr gone ↦ none (rw (e, gone.0) refl) (forgets gone.1 (inr (a, g)))
  ]
  asked_twice so forgets (nothing e m) = none (rw e (nothing_read Start)) (so m)

  -- the same segment of an answer once more
  sent_twice : (r : Request) (a : Answer) (i : ℕ)
      → isdu_read size (Answered r a (Some (suc i))) (Count (suc i % 16))
      ≡ Answered r a (Some (suc i))
  sent_twice r a i = grind (arith, nat_tests, common_steps)

  fetched_twice : {r : Request} {i : ℕ} {t : List ℕ} {s : IsduState} {carried : List Carried}
      → IsFetched kind.recalls size base r i t s carried
      → IsFetched kind.recalls size base r i t (next s i)
      carried
  fetched_twice {r} {i} (a, f, g, e, more, inl sent) = (
    a,
    f,
    g,
    e,
    more,
    rw sent (elim (recalled_sent kind.recalls size r a (suc i)) [
      | inl same ↦ inl (rw same (sent_twice r a i))
      | inr gone ↦ inr (rw gone.0 refl, gone.1, (more, gone.2))
    ]),
  )
  fetched_twice {i = i} (a, f, g, e, more, inr gone) =
      (a, f, g, e, more, inr (rw gone.0 (nothing_read (Count (suc i % 16))), gone.1, gone.2))

  -- What a reply says

  trust_is : kind.recalls ≡ UntilSent → trust ≡ UntilSent
  trust_is forgets = let least = rw forgets at trusts in sent_at_least trust least

  stood_asked : (tries : ℕ) (p : Progress) (s : IsduState) (n : Option ℕ) (carried : List Carried)
      → AskedFor (λ r. Found base r (Lost tries p r) s carried) p
      → Stood (after trust tries p Ask (isdu_data size s)) s n carried
  stood_asked tries p s n carried found =
      let known : SegmentLaws size = laws in grind (arith, common_steps)

  -- the next segment was sent, or it is forgotten
  stood_next : (tries : ℕ) {r : Request} {i : ℕ} {t : List ℕ} {s : IsduState} (n : Option ℕ)
      {carried : List Carried} → (tries ≡ 0 → s ≡ Empty → ⊥)
      → IsFetched kind.recalls size base r i t s carried
      → Stood (after trust tries (Received r i t) Next (isdu_data size s)) s n carried
  stood_next tries {r = r} {i = i} n {carried = carried} never (a, f, g, e, more, inl sent) =
      rw (sent, e) (cond_both (may_be_none trust tries (segments_up_to size (answer_text_to r a) i)
      (segment size (answer_text_to r a) (suc i))) _ _
      (λ q. Stood q (Answered r a (Some (suc i))) n carried) (λ none. (refl, f, g))
      (λ some. (refl, f, refl, refl, g)))
  stood_next zero n never (a, f, g, e, more, inr lost) = absurd (never refl lost.0)
  stood_next (suc tries) {r = r} {i = i} n never (a, f, g, e, more, inr lost) = rw (
    lost.0,
    e,
    trust_is lost.1,
    length-replicate {A = ℕ} size 0,
    bytes_same (replicate size 0),
    zeros_close size texts sized (answer_text_to r a) i
        (texts.answers (is_read r) a (laws.fitting r a f)) lost.2,
  ) (inr (a, g))

  -- right after a hearing: what stays, and what the reply says after so many tries
  pub record Leaves (p : Progress) (what : Move) (tries : ℕ) (s : IsduState) (n : Option ℕ)
      (carried : List Carried) : Type 0 where
    pub mid : Mid kind size base p what s n carried
    pub stood : Stands kind.hands_over size (base_after what base carried)
        (after trust tries p what (isdu_data size s)) s n carried

  missed_now : (tries : ℕ) (r : Request) (carried : List Carried) → carried ≡ base
      → Lost tries (Perhaps r) r carried
  missed_now tries r carried same = grind (arith, common_steps)

  module _ (tries : ℕ) (p : Progress) (r : Request) (carried : List Carried) where
    missed_later : Lost tries p r carried → Lost 1 p r carried
    missed_later missed = grind (arith, common_steps)

    missed_still : 1 ≤ tries → Lost 1 p r carried → Lost tries p r carried
    missed_still repeated missed = grind (arith, common_steps)

    missed_twice : 1 ≤ tries → kind.recalls ≡ UntilSent → IsGrownOnce base r carried
        → Lost tries p r carried
    missed_twice repeated forgets grown = grind (arith, common_steps)

  wondered_first : (tries : ℕ) {r : Request} (s : IsduState) (n : Option ℕ)
      (carried : List Carried) → Stood (Perhaps r) s n carried
      → Found base r (Lost tries (Perhaps r) r) (asked s) carried
  wondered_first tries {r} s n carried (fits, last, inl e) =
      none (rw e.0 (nothing_read Start)) (missed_now tries r carried e.1)
  wondered_first tries s n carried (fits, last, inr w) =
      asked_written kind.hands_over 0 s n fits last w

  module _ (known : Bool) (tries : ℕ) (s : IsduState) (n : Option ℕ) (carried : List Carried) where
    -- what the message leaves
    abbrev Left : Progress → Channel → Bool → Flow → List ℕ → Move → Type 0
    Left p c read f od what = Leaves p what tries (isdu_after kind n known size s c read f od)
        (counted_after kind.hands_over n known c read f) carried

    module _ (p : Progress) (c : Channel) (read : Bool) (f : Flow) (od : List ℕ) where
      -- IDLE and ABORT leave nothing of the request
      has_left : IsMove size Leave p c read f od → IsGrown base p carried
          → Left p c read f od Leave
      has_left move grown = grind (arith, common_steps)

      -- a message of another channel leaves the state, whether there is ISDU or not
      is_other : IsMove size Other p c read f od → Stood p s n carried
          → Left p c read f od Other
      is_other move st = grind (arith, common_steps)

      has_begun : (r : Request) → IsMove size (Begin r) p c read f od → known ≡ true
          → carried ≡ base → Left p c read f od (Begin r)
      has_begun r move needs same =
          let b = begins_by size p c read f od r move in
          let w = λ (now : List Carried). begun kind.recalls size laws now kind.hands_over r
          (remaining_isdu kind.recalls size s) n carried b.4 in
          rw (needs, b.1, b.2, b.3, b.5)
          (record { mid = (b.4, w base same); stood = (b.4, w carried refl) })

      has_asked : IsMove size Ask p c read f od → known ≡ true
          → AskedFor (λ r. Found base r (Lost tries p r) (asked s) carried) p
          → Left p c read f od Ask
      has_asked move needs found =
          let b = asks_by size p c read f od move in
          rw (needs, b.0, b.1, b.2) (record {
            mid = asked_map (λ r. Found base r (Lost tries p r) (asked s) carried)
                (λ r. Finds base r (Lost 1 p r) (asked s) carried) p
                (λ r. found_finds base (missed_later tries p r carried)) found;
            stood = stood_asked tries p (asked s) n carried found;
          })

      -- the only segment of a request that it hands over: whatever it held, it has that now
      pub whole_hear : (what : Move) → hands_whole kind.hands_over size what ≡ true
          → IsMove size what p c read f od → Needs known what → carried ≡ base
          → Left p c read f od what
      whole_hear what whole move needs same =
          let b = begins_whole kind.hands_over size what whole in
          let known_is : Needs known (Begin b.0) = rw b.1 at needs in
          rw b.1 (has_begun b.0 (rw b.1 at move) known_is same)

    -- the first hearing of a message
    pub first_hear : (p : Progress) (c : Channel) (read : Bool) (f : Flow) (od : List ℕ)
        (what : Move) → IsMove size what p c read f od → Needs known what
        → Stood p s n carried → Left p c read f od what
    first_hear p c read f od Leave m needs st =
        has_left p c read f od m (stands_grown kind.hands_over size base p n carried s st)
    first_hear p c read f od Other m needs st = is_other p c read f od m st
    first_hear p c read f od (Begin r) m needs st =
        has_begun p c read f od r m needs
        (begun_base kind.hands_over size base p n carried s st r c read f od m)
    first_hear (Written r i) Isdu false (Count c) od More m needs st =
        let w = appended kind.recalls size laws base kind.hands_over r i s n carried st.0 m.0
        st.1 in
        rw (needs, m.1, m.2) (record { mid = (st.0, w); stood = (st.0, w) })
    first_hear (Perhaps r) Isdu true Start od Ask m needs st =
        has_asked (Perhaps r) Isdu true Start od m needs (wondered_first tries s n carried st)
    first_hear (Written r i) Isdu true Start od Ask m needs st =
        has_asked (Written r i) Isdu true Start od m needs
        (asked_written kind.hands_over i s n st.0 m st.1)
    first_hear (Busy r) Isdu true Start od Ask m needs st =
        has_asked (Busy r) Isdu true Start od m needs (asked_taken s st)
    first_hear (Received r i t) Isdu true (Count c) od Next m needs st =
        let found = received_is kind.hands_over size base r s n carried i t st in
        let more = m.1 found.0 found.2 found.3 in
        let sent = fetched kind.recalls size r found.0 i found.1 more in
        let after : IsFetched kind.recalls size base r i t (next s i) carried =
        (found.0, found.2, found.4, found.3, more, inl sent) in
        rw (needs, m.0) (record {
          mid = after;
          stood = stood_next tries n (λ z gone. let k : Answered r found.0 (Some (suc i)) ≡ Empty =
              sym sent ∙ gone in cc) after;
        })
    first_hear p c read f od what m needs st = absurd m

    -- and a later one
    pub repeat_hear : 1 ≤ tries → (p : Progress) (c : Channel) (read : Bool) (f : Flow)
        (od : List ℕ) (what : Move) → hands_whole kind.hands_over size what ≡ false
        → IsMove size what p c read f od → Needs known what
        → Mid kind size base p what s n carried → Left p c read f od what
    repeat_hear repeated p c read f od Leave x m needs mid = has_left p c read f od m mid.1
    repeat_hear repeated p c read f od Other x m needs mid = is_other p c read f od m mid
    repeat_hear repeated p c read f od (Begin r) x m needs mid =
        has_begun p c read f od r m needs
        (still_base kind.hands_over size base r s n carried x mid.1)
    repeat_hear repeated (Written r i) Isdu false (Count c) od More x m needs mid =
        let w = preserved kind.recalls size laws base kind.hands_over r i s n carried mid.0 mid.1 in
        rw (needs, m.1, m.2) (record { mid = (mid.0, w); stood = (mid.0, w) })
    repeat_hear repeated p c read f od Ask x m needs mid =
        has_asked p c read f od m needs
        (asked_map (λ r. Finds base r (Lost 1 p r) s carried)
        (λ r. Found base r (Lost tries p r) (asked s) carried) p
        (λ r. asked_twice (missed_still tries p r carried repeated)
        (missed_twice tries p r carried repeated)) mid)
    repeat_hear repeated (Received r i t) Isdu true (Count c) od Next x m needs mid =
        let preserved = fetched_twice mid in
        rw (needs, m.0) (record {
          mid = preserved;
          stood = stood_next tries n (λ z. absurd (omega (arith, repeated, z))) preserved;
        })
    repeat_hear repeated p c read f od what x m needs mid = absurd m

module _ (kind : Kind) (size : ℕ) (base : List Carried) where
  -- the request is answered while the message is out
  pub mid_done : (p : Progress) (what : Move) (n : Option ℕ) (q : Request) (a : Answer)
      (carried : List Carried) → IsTrue (fits q a)
      → Mid kind size base p what (Handed q) n carried
      → Mid kind size base p what (Answered q a None) n (grown_by carried q a)
  mid_done p what n q a carried fit mid = grind (arith, common_steps)

module _ (size : ℕ) (what : Move) (p : Progress) (c : Channel) (read : Bool) (f : Flow)
    (od : List ℕ) (move : IsMove size what p c read f od) where
  -- ISDU is there for the move, and for the progress after it
  pub needs_of : (page : List ℕ) → HasIsduFor page p → MayBegin page what
      → Needs (knows_isdu page) what
  needs_of page has allowed = grind (arith, common_steps)

  pub isdu_next : (page : List ℕ) (trust : Recalls) (tries : ℕ) (x : List ℕ) → HasIsduFor page p
      → MayBegin page what → HasIsduFor page (after trust tries p what x)
  isdu_next page trust tries x has allowed = grind (arith, common_steps)

  -- what the record may have gained
  pub under_way_grown : (h : HandsOver) (base carried : List Carried) → IsGrown base p carried
      → IsGrown base (under_way h size p what) carried
  under_way_grown h base carried grown = grind (arith, common_steps)

  pub mid_grown : (kind : Kind) (base : List Carried) (s : IsduState) (n : Option ℕ)
      (carried : List Carried) → Mid kind size base p what s n carried
      → IsGrown base (under_way kind.hands_over size p what) carried
  mid_grown kind base s n carried mid = grind (arith, common_steps)
